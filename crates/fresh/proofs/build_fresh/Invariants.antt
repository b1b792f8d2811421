-- The first r roles are put over zeros.
use Rattle.std.proofs.Common.{◌≡◌}
use Rattle.fresh.proofs.Built.{put_fresh_roles}
use Rattle.fresh.proofs.build_fresh.Given as goal

abbrev pub invariant-loop-r : goal.invariant-loop-r
invariant-loop-r l = l.t ≡ put_fresh_roles l.r l.initial.t
