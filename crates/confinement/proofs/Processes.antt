-- What becomes of a process within the claim's bounds stays within them: rules C4, C5, C7, C8 and C9, on records by value.
-- Assumes nothing.
use Prim.Native.Nat.{ℕ, ◌≤◌, ◌<◌}
use mathlib.Core.Path.{◌≡◌}
use mathlib.Core.Bool.{true}
use mathlib.Core.List.{List}
use mathlib.Core.Logic.{◌≢◌, ◌⊎◌, inl, inr}
use native.Mathlib.Omega.{arith}
use native.Mathlib.Decide.{ℕ_discrete}
use Rattle.sets.specs.Sets.{has}
use Rattle.sets.proofs.Sets.{has-bound}
use Rattle.model.specs.declared.Forced.{Forced}
use Rattle.model.specs.declared.Initial.{Initial}
use Rattle.model.specs.declared.Process.{Process}
use Rattle.model.specs.Numbers.{FILESYSTEM, PROCESS, FILES, ROLES, USERS, INHERIT-PARENT, INHERIT-USER, INHERIT-PROCESS, UP-MIXED, CHANGE-OWNER}
use Rattle.model.specs.Layout.{KEPT-FORCED, KEPT-INITIAL}
use Rattle.model.specs.Ranges.{ok_process_forced}
use Rattle.model.specs.Records.{forced_word, initial_of, forced_of, kept_at, role_at, user_role, has_right, occupied}
use Rattle.model.specs.Transitions.{default_or, chown_type, forced_role, initial_role, chown_role, cloned, executed, chowned, with_role}
use Rattle.model.specs.Claims.{S, Q, startable, carried}
use Rattle.model.proofs.Records.{forced-named, forced-word}
use Rattle.model.proofs.KeptValues.{kept-forced-range}
use Rattle.model.proofs.Transitions.{default-or, chown-type, forced-role, initial-role, chown-role}
use Rattle.model.proofs.Formed.{Defaults, Live, defaults, process-forced-iff}
use Rattle.confinement.proofs.Claim.{PlainIn, Accepted, some-role-to, carried-by}
use Rattle.confinement.proofs.Invariant.{Within, carried-plain}

module _ (t₀ w : List ℕ) (claim : Accepted t₀ w) (m : Process) (h : Within t₀ w m) where
  -- the default types of a role in S
  types : (r : ℕ) → has (S w) r ≡ true → Defaults (role_at t₀ r)
  types r i = defaults t₀ claim.formed.formed r (has-bound (S w) r i)

  -- rules 8 and 10: a default type is in Q where it is plain (C5), and leaves the type where it is inherit parent
  default-in : (default : ℕ) → default ≤ INHERIT-PARENT → PlainIn (Q w) default → has (Q w) (default_or default m.rctype) ≡ true
  default-in default l plain = default-or (λ v. has (Q w) v ≡ true) default m.rctype (λ n. plain (omega arith)) h.rctype

  pub cloned-within : Within t₀ w (cloned (role_at t₀ m.role) m)
  unfolding cloned
  cloned-within =
      record {
        role = h.role;
        rctype = default-in _ (types _ h.role).processcreate (claim.processcreate _ h.role);
        named = h.named;
        forced = h.forced;
        owner = h.owner;
      }

  pub role-within : (r : ℕ) → has (role_at t₀ m.role).compatible.bits r ≡ true → Within t₀ w (with_role r m)
  unfolding with_role
  role-within r c =
      record { role = claim.compatible _ r h.role c; rctype = h.rctype; named = h.named; forced = h.forced; owner = h.owner }

  -- ---- execute: a file whose anchor a is startable

  module _ (a : ℕ) (l : a < FILES) (used : occupied t₀ FILESYSTEM a ≡ true) (s : startable t₀ w a ≡ true) where
    abbrev initial : Initial
    initial = initial_of (kept_at t₀ KEPT-INITIAL a)

    abbrev forced : Forced
    forced = forced_of (kept_at t₀ KEPT-FORCED a)

    -- rules 18 and 20 (C7, C8)
    started-role : has (S w) (initial_role initial (forced_role forced (user_role t₀ m.owner) m.role)) ≡ true
    started-role =
        initial-role (λ r. has (S w) r ≡ true) _ _ (claim.initial a l s)
        (forced-role (λ r. has (S w) r ≡ true) _ _ _ (claim.forced a l s) (λ e. h.owner (rw e at (carried-by t₀ w a l s))) h.role)

    -- rule 21
    started-forced : carried t₀ w (forced_word forced) ≡ true
    started-forced =
        let r = (process-forced-iff (kept_at t₀ KEPT-FORCED a)).0 (kept-forced-range t₀ claim.formed a l used) in
        rw (forced-word (kept_at t₀ KEPT-FORCED a) r.0 r.2) (carried-by t₀ w a l s)

    pub executed-within : Within t₀ w (executed (role_at t₀ m.role) (user_role t₀ m.owner) initial forced m)
    unfolding executed
    executed-within =
        record {
          role = started-role;
          rctype = default-in _ (types _ h.role).execute (claim.execute _ h.role);
          named = forced-named (kept_at t₀ KEPT-FORCED a);
          forced = started-forced;
          owner = h.owner;
        }

  -- ---- change owner to u: a role in S has CHANGE_OWNER to a type in Q

  module _ (live : Live m) (u : ℕ) (l : u < USERS) (may : has_right t₀ PROCESS m.role m.rctype CHANGE-OWNER ≡ true) where
    -- rule 22
    abbrev new : ℕ
    new = chown_role m.forced (user_role t₀ u) m.role

    -- C9
    user-role : (carried t₀ w INHERIT-USER ≡ true) ⊎ (carried t₀ w UP-MIXED ≡ true) → has (S w) (user_role t₀ u) ≡ true
    user-role c = claim.users (some-role-to t₀ w PROCESS m.role (Q w) CHANGE-OWNER m.rctype h.role h.rctype may) c u l

    -- a special value that is not inherit process
    special : (v : ℕ) → ok_process_forced v ≡ true → carried t₀ w v ≡ true → ROLES ≤ v → v ≢ INHERIT-PROCESS
        → (carried t₀ w INHERIT-USER ≡ true) ⊎ (carried t₀ w UP-MIXED ≡ true)
    special v ok c k n =
        let r = (process-forced-iff v).0 ok in
        elim (ℕ_discrete v INHERIT-USER) [
          | yes e ↦ inl (rw e at c)
          | no d ↦ let e : v ≡ UP-MIXED = omega arith in inr (rw e at c)
        ]

    -- C7 and C9
    owned-role : has (S w) new ≡ true
    owned-role =
        chown-role (λ r. has (S w) r ≡ true) m.forced (user_role t₀ u) m.role h.named (carried-plain t₀ w claim _ h.forced)
        (λ k n. user-role (special _ live.forced h.forced k n)) h.role

    -- rule 13 (C5): also where the new role's create type is taken, since the new role is in S
    owned-type : has (Q w) (chown_type (role_at t₀ m.role).chown (role_at t₀ new).processcreate m.rctype) ≡ true
    owned-type =
        let chown = (types m.role h.role).chown in
        let create = (types new owned-role).processcreate in
        chown-type (λ v. has (Q w) v ≡ true) _ _ m.rctype
        (λ n d. claim.chown _ h.role (omega arith)) (λ n. claim.processcreate _ owned-role (omega arith)) h.rctype

    pub chowned-within : Within t₀ w (chowned (role_at t₀ m.role) u new (role_at t₀ new).processcreate m)
    unfolding chowned
    chowned-within =
        record { role = owned-role; rctype = owned-type; named = h.named; forced = h.forced; owner = λ e. user-role (inl e) }
