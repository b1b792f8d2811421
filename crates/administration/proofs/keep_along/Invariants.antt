-- The invariant: of the values below k those that were set are kept anew.
-- Assumes nothing.
use Rattle.std.proofs.Common.{◌≡◌}
use Rattle.administration.specs.Written.{along_below}
use Rattle.administration.proofs.keep_along.Given as goal

abbrev pub invariant-loop-k : goal.invariant-loop-k
invariant-loop-k l = (l.t ≡ along_below l.k l.initial.t l.values)
