-- Every number so far passes, by any test that answers as the closure does.
use Rattle.std.proofs.Common.{◌≡◌, ◌<◌, ℕ, Bool, true}
use Rattle.sets.specs.Below.{all_below}
use Rattle.sets.proofs.every.Given as goal

abbrev pub invariant-loop-k : goal.invariant-loop-k
invariant-loop-k g l =
    goal.F-IsAlwaysCallable g l.passes
    × ((p : ℕ → Bool) → ((k : ℕ) (b : Bool) → k < l.n → goal.F-post g l.passes k b → b ≡ p k) → all_below l.k p ≡ true)
