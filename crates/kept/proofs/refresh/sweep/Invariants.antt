-- The invariant: the places below o are kept anew, and as long as none was written the row is as it was.
-- Assumes nothing.
use Rattle.std.proofs.Common.{◌-◌, ◌≤◌, false, ◌≡◌, length}
use Rattle.model.specs.KeptValues.{swept}
use Rattle.kept.proofs.refresh.sweep.Given as goal

abbrev pub invariant-loop-o : goal.invariant-loop-o
invariant-loop-o l = (l.t ≡ swept l.low (l.o - l.low) l.initial.t l.k) × (l.moved ≡ false → l.t ≡ l.initial.t) × (length l.t ≡ length l.initial.t) × (l.o - l.low ≤ l.end - l.low)
