-- The set so far has the types below k to which a role has the right.
use Rattle.std.proofs.Common.{◌≡◌}
use Rattle.sets.specs.Sets.{has, collect}
use Rattle.claimsets.specs.Family.{rights_to}
use Rattle.claimsets.proofs.reach.Given as goal

abbrev pub invariant-loop-k : goal.invariant-loop-k
invariant-loop-k l = (l.types.bits ≡ collect l.k (λ k'. has (rights_to l.t l.fn.roles.bits l.group k') l.right))
