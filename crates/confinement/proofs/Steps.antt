-- What one call has to come to. A refusal leaves row and family, and is harmless; so only a grant has to be looked at.
-- Assumes nothing.
use Prim.Native.Nat.{ℕ}
use mathlib.Core.Path.{◌≡◌, refl}
use mathlib.Core.Bool.{true, ◌||◌, and-false, or-false}
use mathlib.Core.List.{List}
use mathlib.Core.Logic.{◌≢◌}
use native.Mathlib.Decide.{ℕ_discrete}
use borrow.Author.Tests.{ne_eqb}
use Rattle.sets.proofs.Below.{left}
use Rattle.model.specs.Outcome.{Outcome, granting, refusing, decide}
use Rattle.model.specs.Claims.{type_in}
use Rattle.model.specs.Runs.{Deed, joins, leaves, reaches, creates, deletes, administers, other, Family, family_by, harmless, unadministered}
use Rattle.model.proofs.Decided.{decide-refusing, decide-granting}
use Rattle.confinement.proofs.Invariant.{Invariant}

-- what a call has to come to: the invariant again, and no harm if the caller is a member
abbrev pub Good : List ℕ → List ℕ → List ℕ → Family → ℕ → Deed → Outcome → Type 0
Good t₀ w t F c d e = Invariant t₀ w e.after (family_by F c e.answer d) × (F c ≡ true → harmless (type_in w) t e d ≡ true)

-- a family of members of another
fewer : (t₀ w t : List ℕ) (F G : Family) → ((p : ℕ) → G p ≡ true → F p ≡ true) → Invariant t₀ w t F → Invariant t₀ w t G
fewer t₀ w t F G h inv = record { formed = inv.formed; policy = inv.policy; anchors = inv.anchors; members = λ p g. inv.members p (h p g) }

module _ (t₀ w t : List ℕ) (F : Family) (inv : Invariant t₀ w t F) (c : ℕ) where
  refused : (d : Deed) (n : ℕ) → n ≢ 0 → Good t₀ w t F c d (refusing n t)
  refused joins n z = (fewer t₀ w t F _ (λ p g. simp (ne_eqb n 0 z, and-false, or-false) at g) inv, λ f. refl)
  refused leaves n z = (fewer t₀ w t F _ (λ p g. left _ _ g) inv, λ f. refl)
  refused (reaches g o right) n z = (inv, λ f. rw (ne_eqb n 0 z))
  refused creates n z = (inv, λ f. rw (ne_eqb n 0 z))
  refused (deletes o) n z = (inv, λ f. rw (ne_eqb n 0 z))
  refused administers n z = (inv, λ f. rw (ne_eqb n 0 z))
  refused other n z = (inv, λ f. refl)

  pub by-grant : (d : Deed) (n place : ℕ) (u : List ℕ)
      → (n ≡ 0 → F c || unadministered (granting place u).answer d ≡ true → Good t₀ w t F c d (granting place u))
      → F c || unadministered (decide t n place u).answer d ≡ true → Good t₀ w t F c d (decide t n place u)
  by-grant d n place u h =
      elim (ℕ_discrete n 0) [ yes e ↦ rw (decide-granting t n place u e) (h e) | no z ↦ rw (decide-refusing t n place u z) (λ a. refused d n z) ]
