-- A number that passes, where none below it did, is the lowest.
use Rattle.std.proofs.Common.{sym}
use Rattle.sets.proofs.Walks.{first_left}
use Rattle.sets.proofs.lowest.Goals as goal

pub returns-then-passes-clause-first : goal.returns-then-passes-clause-first
returns-then-passes-clause-first g c =
    let l = c.loop-k in
    let at = c.loop-k-test.true in
    λ p h. first_left p _ l.k at (l.invariant.1 p h) (sym (h _ _ at c.if-passes.ensures))
