-- The laws of the climb, as `grind` applies them: each way that it goes, and how many parents it passes at most.
-- Assumes nothing.
use Rattle.model.proofs.Effective.{climb-own, climb-root, climb-up, climb-bound}

pub ruleset climbs = (climb-own, climb-root, climb-up, climb-bound)
