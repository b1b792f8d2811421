use Rattle.std.proofs.Common.{rules}
use Rattle.batch.proofs.Laws.{row_more, slice_more}
use Rattle.batch.proofs.make_all.Goals as goal

pub loop-k-preserved : goal.loop-k-preserved
loop-k-preserved c = record { made = search (rules, row_more); answered = search (rules, slice_more) }
