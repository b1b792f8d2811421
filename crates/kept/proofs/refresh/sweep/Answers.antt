use Rattle.std.proofs.Common.{ℕ, ◌-◌, List, ◌≡◌, refl, sym, ap, ◌∙◌, arith, rules}
use Rattle.sets.proofs.Below.{neither}
use Rattle.model.specs.KeptValues.{kept_anew, swept}
use Rattle.kept.proofs.Laws.{swept-next}
use Rattle.kept.proofs.refresh.sweep.Goals as goal

pub loop-o-init : goal.loop-o-init
unfolding swept
loop-o-init c =
    let z : c.args.low - c.args.low ≡ 0 = omega arith in
    (rw z, λ e. refl, refl, omega arith)

pub loop-o-preserved : goal.loop-o-preserved
loop-o-preserved c =
    let x = c.keep_anew-moved in
    let l = c.loop-o in
    let k = c.args.k in (
      x.ensures.0 ∙ ap (λ (u : List ℕ). kept_anew u k l.o) l.invariant.0 ∙ sym (swept-next _ _ _ l.o l.auto.o),
      λ e. let n = neither x.result l.moved e in x.ensures.1 n.0 ∙ l.invariant.1 n.1,
      search rules,
      omega (arith, l.invariant.3),
    )
