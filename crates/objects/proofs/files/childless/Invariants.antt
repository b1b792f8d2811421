-- The loop has found no child below q; the first child that it meets is enough for the answer false.
-- It may start at the first place that names o: one below names another parent, and so holds no child of o.
-- Assumes nothing.
use Rattle.std.proofs.Common.{◌≡◌, true}
use Rattle.sets.specs.Below.{all_below}
use Rattle.model.specs.Calls.{not_child}
use Rattle.objects.proofs.files.childless.Given as goal

abbrev pub invariant-loop-q : goal.invariant-loop-q
invariant-loop-q l = (all_below l.q (not_child l.t l.o) ≡ true)
