-- No right is no CREATE, and creates nothing.
use Rattle.std.proofs.Common.{rules}
use Rattle.std.proofs.lemmas.List.FromFn.{fill_by_all}
use Rattle.sets.proofs.Sets.{empty-has}
use Rattle.claimsets.specs.Family.{birth, born, row_of}
use Rattle.claimsets.proofs.births.Goals as goal

pub returns : goal.returns
unfolding birth born row_of
returns c =
    fill_by_all _ c.joined.result 32 0 (search rules)
    (c.joined.ensures (birth c.args.t.now) (λ r. ((λ x s p. search rules), rw empty-has)))
