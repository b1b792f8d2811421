-- What holds of the role and the type that a transition gives: it holds of each value that they may be taken from.
-- The thing that holds is any, so that "is below 32" and "is in the set S" are one law.
-- Assumes nothing.
use Prim.Native.Nat.{ℕ, ◌≤◌, ◌<◌}
use mathlib.Core.Path.{◌≡◌, refl}
use mathlib.Core.Bool.{true}
use mathlib.Core.Logic.{◌≢◌}
use native.Mathlib.Omega.{arith}
use borrow.Author.Tests.{eqb-false}
use lib.Dec.{eqb}
use Rattle.model.specs.declared.Forced.{Forced}
use Rattle.model.specs.declared.Process.{Process}
use Rattle.model.specs.declared.Role.{Role}
use Rattle.model.specs.Numbers.{ROLES, USERS, TYPES, INHERIT-PARENT, INHERIT-USER, INHERIT-PROCESS, USE-NEW-ROLE-DEF-CREATE}
use Rattle.model.specs.Ranges.{ok_process_forced}
use Rattle.model.specs.Records.{forced_word, forced_of, initial_of}
use Rattle.model.specs.Transitions.{default_or, chown_type, forced_role, initial_role, chown_role, cloned, executed, chowned, with_role}
use Rattle.model.proofs.Records.{by_cond, by-forced, by-initial, role_in_forced, forced-named, forced-word}
use Rattle.model.proofs.Formed.{Live, Defaults, process-forced-iff}

module _ (P : ℕ → Type 0) where
  -- rules 8 and 10
  pub default-or : (default present : ℕ) → (default ≢ INHERIT-PARENT → P default) → P present → P (default_or default present)
  unfolding default_or
  default-or default present d p = by_cond P (eqb default INHERIT-PARENT) _ _ (λ e. p) (λ e. d (eqb-false default INHERIT-PARENT e))

  -- rule 13
  pub chown-type : (chown create present : ℕ) → (chown ≢ INHERIT-PARENT → chown ≢ USE-NEW-ROLE-DEF-CREATE → P chown)
      → (create ≢ INHERIT-PARENT → P create) → P present → P (chown_type chown create present)
  unfolding chown_type
  chown-type chown create present c d p =
      by_cond (λ x. P (default_or x present)) (eqb chown USE-NEW-ROLE-DEF-CREATE) _ _ (λ e. default-or create present d p)
      (λ e. default-or chown present (λ n. c n (eqb-false chown USE-NEW-ROLE-DEF-CREATE e)) p)

  -- rule 20, of a word v that stands for a forced value
  pub forced-role : (v owner present : ℕ) → (v < ROLES → P v) → (v ≡ INHERIT-USER → P owner) → P present
      → P (forced_role (forced_of v) owner present)
  forced-role v owner present plain user p =
      by-forced (λ f. P (forced_role f owner present)) v plain (λ e. p) user (λ e. p) (λ l e f g. p)

  -- rule 18, of a word v that stands for an initial value
  pub initial-role : (v forced : ℕ) → (v < ROLES → P v) → P forced → P (initial_role (initial_of v) forced)
  initial-role v forced plain p = by-initial (λ i. P (initial_role i forced)) v plain (λ e. p) (λ l e. p)

  -- rule 22
  pub chown-role : (f : Forced) (owner present : ℕ) → role_in_forced f < ROLES → (forced_word f < ROLES → P (forced_word f))
      → (ROLES ≤ forced_word f → forced_word f ≢ INHERIT-PROCESS → P owner) → P present → P (chown_role f owner present)
  chown-role (Forced.Plain r) owner present named plain user p = plain named
  chown-role Forced.InheritParent owner present named plain user p = user (omega arith) (omega arith)
  chown-role Forced.InheritUser owner present named plain user p = user (omega arith) (omega arith)
  chown-role Forced.InheritProcess owner present named plain user p = p
  chown-role Forced.UpMixed owner present named plain user p = user (omega arith) (omega arith)

-- ---- what a live process becomes is a live process

below_or : (default present : ℕ) → default ≤ INHERIT-PARENT → present < TYPES → default_or default present < TYPES
below_or default present d p = default-or (λ v. v < TYPES) default present (λ n. omega arith) p

module _ (own : Role) (me : Process) (d : Defaults own) (l : Live me) where
  pub cloned-live : Live (cloned own me)
  unfolding cloned
  cloned-live =
      record {
        live = refl;
        owner = l.owner;
        role = l.role;
        rctype = below_or own.processcreate me.rctype d.processcreate l.rctype;
        named = l.named;
        forced = l.forced;
      }

  -- i and f are the effective initial and forced words of the file
  pub executed-live : (owner i f : ℕ) → owner < ROLES → ok_process_forced f ≡ true → Live (executed own owner (initial_of i) (forced_of f) me)
  unfolding executed
  executed-live owner i f o e =
      let r = (process-forced-iff f).0 e in
      record {
        live = refl;
        owner = l.owner;
        role = initial-role (λ v. v < ROLES) i _ (λ b. b) (forced-role (λ v. v < ROLES) f owner me.role (λ b. b) (λ u. o) l.role);
        rctype = below_or own.execute me.rctype d.execute l.rctype;
        named = forced-named f;
        forced = rw (forced-word f r.0 r.2) e;
      }

  pub chowned-live : (user role create : ℕ) → user < USERS → role < ROLES → create ≤ INHERIT-PARENT → Live (chowned own user role create me)
  unfolding chowned
  chowned-live user role create u r c =
      let h = d.chown in
      record {
        live = refl;
        owner = u;
        role = r;
        rctype = chown-type (λ v. v < TYPES) own.chown create me.rctype (λ n m. omega arith) (λ n. omega arith) l.rctype;
        named = l.named;
        forced = l.forced;
      }

pub with-role-live : (r : ℕ) (me : Process) → r < ROLES → Live me → Live (with_role r me)
unfolding with_role
with-role-live r me h l =
    record { live = refl; owner = l.owner; role = h; rctype = l.rctype; named = l.named; forced = l.forced }
