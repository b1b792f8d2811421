-- The invariant: d sweeps are made, and where the last one moved nothing, the next would not either.
-- Assumes nothing.
use Rattle.std.proofs.Common.{◌-◌, ◌≤◌, false, ◌≡◌, length}
use Rattle.model.specs.Numbers.{DEPTHS}
use Rattle.model.specs.KeptValues.{swept, sweeps}
use Rattle.kept.proofs.refresh.refresh.Given as goal

abbrev pub invariant-loop-moved : goal.invariant-loop-moved
invariant-loop-moved l = (l.t ≡ sweeps l.d l.low (l.end - l.low) l.initial.t l.k) × (l.moved ≡ false → swept l.low (l.end - l.low) l.t l.k ≡ l.t) × (length l.t ≡ length l.initial.t) × (l.d ≤ DEPTHS)

abbrev pub decreases-loop-moved : goal.decreases-loop-moved
decreases-loop-moved l = DEPTHS - l.d
