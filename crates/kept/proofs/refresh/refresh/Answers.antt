use Rattle.std.proofs.Common.{ℕ, ◌-◌, List, refl, sym, ap, ◌∙◌, arith, rules}
use mathlib.Core.Bool.{false≢true}
use Rattle.sets.proofs.Below.{walks-below}
use Rattle.model.specs.KeptValues.{swept, sweeps}
use Rattle.kept.proofs.Laws.{sweeps-next, all-swept}
use Rattle.kept.proofs.refresh.refresh.Goals as goal

pub loop-moved-init : goal.loop-moved-init
unfolding sweeps
loop-moved-init c = (refl, λ e. absurd (false≢true (sym e)), refl, omega arith)

pub loop-moved-preserved : goal.loop-moved-preserved
loop-moved-preserved c =
    let x = c.sweep-moved in
    let l = c.loop-moved in
    let a = c.args in
    let n = a.end - a.low in (
      x.ensures.0 ∙ ap (λ (u : List ℕ). swept a.low n u a.k) l.invariant.0 ∙ sym (sweeps-next a.low a.t.now a.k n l.d),
      λ e. ap (λ (u : List ℕ). swept a.low n u a.k) (x.ensures.1 e) ∙ sym x.ensures.0,
      search rules,
      omega (arith, walks-below l.moved l.d _ c.loop-moved-test.true),
    )

pub returns : goal.returns
returns c =
    let l = c.loop-moved in
    let a = c.args in
    l.invariant.0
    ∙ all-swept a.low a.t.now a.k (a.end - a.low) l.d l.moved l.invariant.3 c.loop-moved-test.false (rw l.invariant.0 at l.invariant.1)
