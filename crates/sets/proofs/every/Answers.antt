-- A number that does not pass is enough.
use Rattle.std.proofs.Common.{refl}
use Rattle.sets.proofs.Walks.{all_left}
use Rattle.sets.proofs.every.Goals as goal

pub returns-then-not-passes : goal.returns-then-not-passes
returns-then-not-passes g c = λ p h. all_left p _ c.loop-k.k _ c.loop-k-test.true (h _ _ c.loop-k-test.true c.if-not-passes.ensures) refl
