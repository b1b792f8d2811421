-- The words below k are joined, and the others are as they were.
use Rattle.std.proofs.Common.{◌≡◌, ◌<◌, ◌≤◌, ℕ}
use Rattle.sets.specs.Sets.{joined}
use Rattle.model.specs.Words.{◌!◌}
use Rattle.claimsets.specs.Family.{GivesBy}
use Rattle.claimsets.proofs.join_row.Given as goal

abbrev pub invariant-loop-k : goal.invariant-loop-k
invariant-loop-k g l =
    goal.F-IsAlwaysCallable g l.gives
    × ((f : ℕ → ℕ) → GivesBy (goal.F-post g l.gives) f → (j : ℕ) → j < l.k → l.row ! j ≡ joined (l.initial.row ! j) (f (l.rights ! j)))
    × ((j : ℕ) → l.k ≤ j → l.row ! j ≡ l.initial.row ! j)
