-- The invariant: after k items the tables and the answers are those after k items. Well-formed tables stay so, so that making an item without their
-- test is making it through the one entry.
-- Assumes nothing.
use Rattle.std.proofs.Common.{◌≡◌}
use Rattle.batch.specs.Batch.{answers_after, tables_after}
use Rattle.batch.proofs.make_all.Given as goal

abbrev pub invariant-loop-k : goal.invariant-loop-k
invariant-loop-k l = record {
  made : l.t ≡ tables_after l.initial.t l.calls l.k;
  answered : l.answers ≡ answers_after l.initial.t l.calls l.initial.answers l.k;
}
