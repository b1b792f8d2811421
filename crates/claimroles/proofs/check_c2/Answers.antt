use Rattle.std.proofs.Common.{◌≡◌, sym, ap, ◌∙◌, arith, Result}
use Rattle.model.specs.declared.Rule.{Rule}
use Rattle.model.specs.Refusals.{first_broken}
use Rattle.sets.proofs.Below.{all-next}
use Rattle.sets.proofs.Walks.{all_step}
use Rattle.claimroles.proofs.Roles.{assigns-rows, keeps_mine, keeps_other, loses_able, loses_assigning, c2-keeps, c2-broken}
use Rattle.claimroles.proofs.check_c2.Goals.{then-has+else-not-unempowered+else-loop-k-test, else-has}
use Rattle.claimroles.proofs.check_c2.Goals as goal

pub loop-k-preserved : goal.loop-k-preserved
loop-k-preserved c =
    let i = c.loop-k in
    let a = assigns-rows _ _ i.k _ _ _ c.loop-k-test.true c.rights_row-files.ensures c.rights_row-processes.ensures c.rights_row-ipcs.ensures in
    (i.invariant.0, rw (all-next, i.invariant.1, ← a, ← c.assigns.ensures, c.if-assigns.false))

pub walk-preserved : goal.walk-preserved
walk-preserved c =
    let s = rw c.roles.ensures at c.has.ensures in
    elim c.if-has.branch [
      | then-has+else-not-unempowered+else-loop-k-test w ↦
          let e : w.loop-k.k ≡ 32 = omega arith in
          let u = rw w.role_at.ensures at w.unempowered.ensures in
          (w.kept-is ∙ w.loop-k.invariant.0, all_step _ _ c.walk.invariant.1 (keeps_mine _ _ _ (sym s ∙ w.if-has.true) (sym u ∙ w.if-not-unempowered.false) (rw e at w.loop-k.invariant.1)))
      | else-has w ↦ (w.kept-is ∙ c.walk.invariant.0, all_step _ _ c.walk.invariant.1 (keeps_other _ _ _ (sym s ∙ w.if-has.false)))
    ]

pub returns-after-walk : goal.returns-after-walk
returns-after-walk c =
    let e : c.walk.r ≡ 32 = omega arith in
    rw (c2-keeps, rw e at c.walk.invariant.1) (ap (λ (k : Result (Unit {0}) Rule). first_broken k) c.walk.invariant.0)

pub returns-then-not-unempowered : goal.returns-then-not-unempowered
returns-then-not-unempowered c =
    let s = rw c.roles.ensures at c.has.ensures in
    let u = rw c.role_at.ensures at c.unempowered.ensures in
    c2-broken _ _ c.walk.r c.walk-test.true (loses_able _ _ _ (sym s ∙ c.if-has.true) (sym u ∙ c.if-not-unempowered.true))

pub returns-then-assigns : goal.returns-then-assigns
returns-then-assigns c =
    let i = c.loop-k in
    let s = rw c.roles.ensures at c.has.ensures in
    let a = assigns-rows _ _ i.k _ _ _ c.loop-k-test.true c.rights_row-files.ensures c.rights_row-processes.ensures c.rights_row-ipcs.ensures in
    c2-broken _ _ c.walk.r c.walk-test.true
    (loses_assigning _ _ _ i.k (sym s ∙ c.if-has.true) c.loop-k-test.true (sym a ∙ sym c.assigns.ensures ∙ c.if-assigns.true))
