-- The row has what the roles below r give.
use Rattle.std.proofs.Common.{◌≡◌, ◌<◌, ℕ}
use Rattle.sets.specs.Sets.{union}
use Rattle.model.specs.Words.{◌!◌}
use Rattle.model.specs.Layout.{rights_addr}
use Rattle.claimsets.specs.Family.{GivesBy}
use Rattle.claimsets.proofs.joined.Given as goal

abbrev pub invariant-loop-r : goal.invariant-loop-r
invariant-loop-r g l =
    goal.F-IsAlwaysCallable g l.gives
    × ((f : ℕ → ℕ → ℕ) → ((r : ℕ) → GivesBy (goal.F-post g l.gives r) (f r)) → (k : ℕ) → k < 32 → l.row ! k ≡ union l.r-counter l.roles.bits (λ r. f r (l.t ! rights_addr l.group r k)))
