-- Confinement. The invariant holds at the start of a run, and each call keeps it and is harmless; so by induction over the events.
-- Assumes nothing.
use Prim.Native.Nat.{ℕ}
use mathlib.Core.Path.{◌≡◌}
use mathlib.Core.Bool.{true, not, ◌||◌, and-eq-true_iff}
use mathlib.Core.List.{List, [], ◌∷◌}
use Rattle.sets.specs.Sets.{has}
use Rattle.sets.proofs.Below.{both, all_of}
use Rattle.model.specs.Numbers.{PROCESSES}
use Rattle.model.specs.Records.{process_at}
use Rattle.model.specs.Step.{step}
use Rattle.model.specs.Claims.{S, check}
use Rattle.model.specs.Runs.{Family, founder, members_within, allowed, confined, Event, asks}
use Rattle.confinement.proofs.Calls.{step-good}
use Rattle.confinement.proofs.Claim.{implies-of, Accepted, accepted}
use Rattle.confinement.proofs.Invariant.{Invariant, at-start}

members-within : (t₀ w t : List ℕ) (F : Family) → Invariant t₀ w t F → members_within w t F ≡ true
unfolding members_within
members-within t₀ w t F inv =
    all_of (λ p. not (F p) || has (S w) (process_at t p).role) PROCESSES
    (λ p l. implies-of (F p) (has (S w) (process_at t p).role) (λ f. (inv.members p f).within.role))

run-confined : (t₀ w : List ℕ) → Accepted t₀ w → (run : List Event) (t : List ℕ) (F : Family) → Invariant t₀ w t F
    → allowed t F run ≡ true → confined w t F run ≡ true
unfolding allowed confined
run-confined t₀ w claim [] t F inv a = members-within t₀ w t F inv
run-confined t₀ w claim (asks c call ∷ rest) t F inv a =
    let h = simp and-eq-true_iff at a in
    let g = step-good t₀ w claim t F inv c call h.0 in
    both _ _ (both _ _ (members-within t₀ w t F inv) (implies-of (F c) _ g.1))
    (run-confined t₀ w claim rest (step t c call).after _ g.0 h.1)

-- An accepted claim confines: in every run from its row in which no process outside the family is granted an administration call, each member
-- of the family keeps to the roles of S, is granted no administration call, and writes, deletes and creates no object of type k.
pub an-accepted-claim-confines : (t w : List ℕ) (run : List Event)
    → (check t w).number ≡ 0
    → allowed t (founder w) run ≡ true
    → confined w t (founder w) run ≡ true
an-accepted-claim-confines t w run e a =
    let claim = accepted t w e in
    run-confined t w claim run t (founder w) (at-start t w claim) a
