-- The verdict so far is that of the numbers so far, by any test that answers as the closure does.
use Rattle.std.proofs.Common.{◌≡◌, ◌<◌, ℕ, Bool}
use Rattle.sets.specs.Below.{all_below}
use Rattle.sets.proofs.each.Given as goal

abbrev pub invariant-loop-k : goal.invariant-loop-k
invariant-loop-k g l =
    goal.F-IsAlwaysCallable g l.passes
    × ((p : ℕ → Bool) → ((k : ℕ) (b : Bool) → k < l.n → goal.F-post g l.passes k b → b ≡ p k) → l.ok ≡ all_below l.k p)
