-- The caller of a granted call, held against the first row: its role is one of that row's, with the rights that it has there. A member's role
-- is in S, and so by C3 has no right to change an object of type k.
-- Assumes nothing.
use Prim.Native.Nat.{ℕ, ◌<◌}
use mathlib.Core.Path.{◌≡◌, sym, ◌∙◌}
use mathlib.Core.Bool.{true, true≢false}
use mathlib.Core.List.{List}
use mathlib.Core.Logic.{◌≢◌}
use native.Mathlib.Omega.{arith}
use Rattle.sets.specs.Sets.{has}
use Rattle.model.specs.Numbers.{GROUPS, FILESYSTEM, TYPES}
use Rattle.model.specs.Records.{process_at, role_at, has_right}
use Rattle.model.specs.Calls.{own_role, may}
use Rattle.model.specs.Claims.{type_in, S}
use Rattle.model.specs.Runs.{Family, changes}
use Rattle.model.proofs.Granted.{Caller}
use Rattle.model.proofs.Formed.{Live}
use Rattle.model.proofs.Kept.{caller-live}
use Rattle.confinement.proofs.Claim.{Accepted}
use Rattle.confinement.proofs.Invariant.{Invariant}
use Rattle.confinement.proofs.Less.{Fewer}

module _ (t₀ w t : List ℕ) (F : Family) (inv : Invariant t₀ w t F) (c : ℕ) where
  pub process : Caller t c → Live (process_at t c)
  process me = caller-live t inv.formed c me

  pub own-role : Caller t c → Fewer (role_at t₀ (process_at t c).role) (own_role t c)
  unfolding own_role
  own-role me = inv.policy.roles (process_at t c).role (process me).role

  pub own-right : Caller t c → (g k right : ℕ) → g < GROUPS → k < TYPES → may t c g k right ≡ true → has_right t₀ g (process_at t c).role k right ≡ true
  unfolding may
  own-right me g k right gl kl = inv.policy.rights g (process_at t c).role k right gl (process me).role kl

  -- ---- members

  pub member : F c ≡ true → Caller t c
  member f = record { placed = (inv.members c f).placed; live = (inv.members c f).live }

  pub member-role : F c ≡ true → has (S w) (process_at t c).role ≡ true
  member-role f = (inv.members c f).within.role

  -- C3
  pub unreached : Accepted t₀ w → F c ≡ true → (k right : ℕ) → k < TYPES → may t c FILESYSTEM k right ≡ true → changes right ≡ true → k ≢ type_in w
  unreached claim f k right kl e h z =
      true≢false (sym (own-right (member f) FILESYSTEM k right (omega arith) kl e) ∙ rw z (claim.changes_not (process_at t c).role right (member-role f) h))
