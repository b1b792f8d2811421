-- The outer invariant: no role below r breaks the rule; the inner one: role r has no ASSIGN to a type below k. Either walk is left with the rule.
use Rattle.std.proofs.Common.{◌≡◌, true, not, Ok}
use Rattle.sets.specs.Below.{all_below}
use Rattle.claimroles.specs.Roles.{assigns_to, keeps}
use Rattle.claimroles.proofs.check_c2.Given as goal

abbrev pub invariant-loop-k : goal.invariant-loop-k
invariant-loop-k l = (l.kept ≡ Ok tt) × (all_below l.k (λ k'. not (assigns_to l.t l.r k')) ≡ true)

abbrev pub invariant-walk : goal.invariant-walk
invariant-walk l = (l.kept ≡ Ok tt) × (all_below l.r (keeps l.t l.claim.words.now) ≡ true)
