use Rattle.std.proofs.Common.{◌≡◌, refl, add-one, arith, rules}
use Rattle.sets.specs.Sets.{collect}
use Rattle.claimsets.specs.Family.{rights_to, reach}
use Rattle.claimsets.proofs.reach.Goals.{then-has, else-has}
use Rattle.claimsets.proofs.reach.Goals as goal

pub loop-k-init : goal.loop-k-init
unfolding collect
loop-k-init c = refl

pub loop-k-preserved : goal.loop-k-preserved
unfolding collect rights_to
loop-k-preserved c =
    let i = c.loop-k in
    let row = c.joined-row.ensures (λ r x. x) (λ r. ((λ x s p. search rules), refl)) i.k c.loop-k-test.true in
    let has = rw (c.set_at.ensures, row) at c.has.ensures in
    elim c.if-has.branch [
      | then-has w ↦ rw (add-one, ← has, w.if-has.true, w.types-is, w.add-types.ensures, i.invariant)
      | else-has w ↦ rw (add-one, ← has, w.if-has.false, w.types-is) i.invariant
    ]

pub returns : goal.returns
unfolding reach
returns c = let e : c.loop-k.k ≡ 32 = omega arith in rw e at c.loop-k.invariant
