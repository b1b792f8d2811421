-- One role more; past the end of the tables it gives nothing.
use Rattle.std.proofs.Common.{◌≡◌, sym, ◌∙◌, arith, rules, ⊎_elim}
use lib.ListN.{get_or-replicate}
use Rattle.sets.proofs.Sets.{joined-none, union-fits, union-none, union-next}
use Rattle.claimsets.proofs.Family.{rights_part, rights_none}
use Rattle.claimsets.proofs.joined.Goals.{then-has+in-Some, then-has+in_default, else-has}
use Rattle.claimsets.proofs.joined.Goals as goal

pub loop-r-init : goal.loop-r-init
loop-r-init g c = (c.requires, λ f h k m. get_or-replicate 32 k 0 0 m ∙ sym (union-none _ _))

pub loop-r-preserved : goal.loop-r-preserved
loop-r-preserved g c = (
  c.loop-r.invariant.0,
  λ f h k m.
      let r = c.loop-r.r-counter in
      let i = c.loop-r.invariant.1 f h k m in
      let mine = sym c.has.ensures in
      elim c.if-has.branch [
        | then-has+in-Some w ↦
            let part = rights_part _ _ _ _ _ w.rights_addr.ensures w.in-Some.ensures.lookup.0.2 k in
            let j = w.join_row.ensures (f r) ((λ x s p. (h r).0 x s (search rules)), (h r).1) k m in
            rw (union-next, mine ∙ w.if-has.true, w.row-is, j, i, part)
        | then-has+in_default w ↦
            let none = rights_none _ _ _ _ w.rights_addr.ensures (⊎_elim (λ l. l) (λ l. absurd (omega arith)) w.in_default.ensures.lookup.0) k in
            rw (union-next, mine ∙ w.if-has.true, w.row-is, none, (h r).1, i) (sym (joined-none _ (union-fits _ _ r)))
        | else-has w ↦ rw (union-next, mine ∙ w.if-has.false, w.row-is) i
      ],
)

pub returns : goal.returns
returns g c = λ f h k m. let e : c.loop-r.r-counter ≡ 32 = omega arith in rw e at (c.loop-r.invariant.1 f h k m)
