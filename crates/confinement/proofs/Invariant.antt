-- What stays true of a run, with the accepted claim on its first row t₀. Roles, users and rights are no more than those of t₀. Each occupied file has an anchor,
-- a place of t₀ that bounds it: a type in the anchor's T, the anchor's effective initial and forced values. Each member of the family is
-- within S and Q with a forced value that is carried. Nothing is said of which files are those of t₀, so that reuse of a place costs nothing.
-- Effective values are those kept beside the files, which calls and claims read: a write of one place leaves what is kept for the others.
-- Assumes nothing.
use Prim.Native.Nat.{ℕ, ◌<◌}
use mathlib.Core.Path.{◌≡◌, refl}
use mathlib.Core.Bool.{true, ◌&&◌}
use mathlib.Core.List.{List}
use mathlib.Core.Logic.{⊎_elim}
use borrow.Author.Tests.{eqb-true}
use lib.Dec.{eqb}
use Rattle.sets.specs.Below.{some_below}
use Rattle.sets.specs.Sets.{has}
use Rattle.sets.proofs.Below.{which, some_at}
use Rattle.model.specs.declared.Process.{Process}
use Rattle.model.specs.Numbers.{FILESYSTEM, PROCESS, PROCESSES, FILES, ROLES, DIR, INHERIT-USER}
use Rattle.model.specs.Layout.{KEPT-FORCED, KEPT-INITIAL, KEPT-TYPE, KIND}
use Rattle.model.specs.Records.{forced_word, process_at, file_word, kept_at, user_role, occupied}
use Rattle.model.specs.Claims.{process_in, S, Q, T, startable, own_forced, carried}
use Rattle.model.specs.Runs.{Family, founder}
use Rattle.model.proofs.Records.{role_in_forced}
use Rattle.model.proofs.Decided.{tested}
use Rattle.model.proofs.Formed.{WellFormed, live-process}
use Rattle.confinement.proofs.Claim.{PlainIn, Accepted, carried-own}
use Rattle.confinement.proofs.Less.{NoMore, fewer-same}

module _ (t₀ w : List ℕ) where
  -- ---- processes

  -- a process within the claim's bounds: role in S, type in Q, its forced value carried; where inherit user is carried, its owner's default role in S
  pub record Within (m : Process) : Type 0 where
    pub role : has (S w) m.role ≡ true
    pub rctype : has (Q w) m.rctype ≡ true
    pub named : role_in_forced m.forced < ROLES
    pub forced : carried t₀ w (forced_word m.forced) ≡ true
    pub owner : carried t₀ w INHERIT-USER ≡ true → has (S w) (user_role t₀ m.owner) ≡ true

  pub record Member (t : List ℕ) (p : ℕ) : Type 0 where
    pub placed : p < PROCESSES
    pub live : occupied t PROCESS p ≡ true
    pub within : Within (process_at t p)

  -- ---- files

  -- a place of the first row that bounds the file x
  pub record Anchor (t : List ℕ) (x : ℕ) : Type 0 where
    pub at : ℕ
    pub placed : at < FILES
    pub used : occupied t₀ FILESYSTEM at ≡ true
    pub dir : file_word t x KIND ≡ DIR → file_word t₀ at KIND ≡ DIR
    pub rctype : has (T w at) (kept_at t KEPT-TYPE x) ≡ true
    pub initial : kept_at t KEPT-INITIAL x ≡ kept_at t₀ KEPT-INITIAL at
    pub forced : kept_at t KEPT-FORCED x ≡ kept_at t₀ KEPT-FORCED at

  -- ---- the row and the family

  pub record Invariant (t : List ℕ) (F : Family) : Type 0 where
    pub formed : WellFormed t
    pub policy : NoMore t₀ t
    pub anchors : (x : ℕ) → x < FILES → occupied t FILESYSTEM x ≡ true → Anchor t x
    pub members : (p : ℕ) → F p ≡ true → Member t p

  module _ (claim : Accepted t₀ w) where
    -- C7: a plain value that is carried is in S
    pub carried-plain : (v : ℕ) → carried t₀ w v ≡ true → PlainIn (S w) v
    unfolding carried
    carried-plain v e =
        ⊎_elim (λ h. rw (eqb-true (own_forced t₀ w) v h) at claim.own)
        (λ h.
        let o = some_at (λ o. startable t₀ w o && eqb (kept_at t₀ KEPT-FORCED o) v) FILES h in
        let m = simp tested at o.2 in
        rw m.1 at (claim.forced o.0 o.1 m.0))
        (which (eqb (own_forced t₀ w) v) (some_below FILES (λ o. startable t₀ w o && eqb (kept_at t₀ KEPT-FORCED o) v)) e)

    -- it holds at the start: each file is its own anchor (C6), and the process is within the bounds (C1, C8)
    pub at-start : Invariant t₀ (founder w)
    at-start =
        record {
          formed = claim.formed;
          policy = record { roles = λ r l. fewer-same _ _ refl; users = λ i l. refl; rights = λ g r k right gl rl kl h. h };
          anchors = λ x l o. record { at = x; placed = l; used = o; dir = λ d. d; rctype = claim.own_type x l o; initial = refl; forced = refl };
          members = λ p e. rw (eqb-true p (process_in w) e) first;
        }
      where
        first : Member t₀ (process_in w)
        first =
            record {
              placed = claim.placed;
              live = claim.live;
              within =
                  record {
                    role = claim.role;
                    rctype = claim.rctype;
                    named = (live-process t₀ claim.formed.formed (process_in w) claim.placed claim.live).named;
                    forced = carried-own t₀ w;
                    owner = claim.owner;
                  };
            }
