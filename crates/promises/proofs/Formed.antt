-- The box never spoils its own tables: fresh tables are well formed, each call keeps them so, and number 1 is given only where they are not.
-- Assumes nothing.
use Prim.Native.Nat.{ℕ, suc, zero, ◌<◌}
use mathlib.Core.List.{List, [], ◌∷◌}
use mathlib.Core.Path.{◌∙◌, ◌≡◌, ap, refl, sym}
use mathlib.Core.Bool.{cond, true, true≢false}
use native.Mathlib.Omega.{arith}
use borrow.Author.Tests.{eq-eqb, ne_eqb}
use lib.Dec.{eqb}
use lib.ListN.{length}
use Rattle.model.specs.Numbers.{◌unless◌, FILES, FILESYSTEM}
use Rattle.model.specs.Layout.{FILE-TYPE, KEPT-TYPE, KIND, row_length}
use Rattle.model.specs.Records.{file_word, kept_at, occupied}
use Rattle.model.specs.WellFormed.{well_formed}
use Rattle.model.specs.Fresh.{build_fresh, fresh}
use Rattle.model.specs.declared.Climbed.{Climbed}
use Rattle.model.specs.Effective.{effective, value_at}
use Rattle.model.specs.Queries.{found_by, look, look_no, query, query_no}
use Rattle.model.specs.Step.{step}
use Rattle.model.specs.Runs.{Event, asks, after}
use Rattle.model.proofs.Decided.{decide-granting, decide-refusing, tested}
use Rattle.model.proofs.Formed.{facts, used-file}
use Rattle.model.proofs.Effective.{effective-own}
use Rattle.model.proofs.Kept.{step-act, step_kept}
use Rattle.model.proofs.FreshFormed.{fresh-formed}
use Rattle.promises.specs.Promises.{A-call-keeps-the-tables-well-formed, Fresh-tables-are-well-formed, No-run-from-well-formed-tables-meets-number-1, On-well-formed-tables-act-is-step, On-well-formed-tables-look-is-the-querys-value, Building-fresh-tables-asks-only-for-their-full-length}
use Rattle.promises.proofs.Numbers.{number-1}

pub building-fresh-tables-asks-only-for-their-full-length : Building-fresh-tables-asks-only-for-their-full-length
unfolding build_fresh
building-fresh-tables-asks-only-for-their-full-length t = (
  λ e. decide-granting t (1 unless eqb (length t) row_length) 0 fresh (rw (eq-eqb (length t) row_length e)),
  λ n. rw (ne_eqb (length t) row_length n) (decide-refusing t 1 0 fresh (omega arith)),
)

pub fresh-tables-are-well-formed : Fresh-tables-are-well-formed
fresh-tables-are-well-formed = fresh-formed

pub a-call-keeps-the-tables-well-formed : A-call-keeps-the-tables-well-formed
a-call-keeps-the-tables-well-formed = step_kept

run-kept : (run : List Event) (t : List ℕ) → well_formed t ≡ true → well_formed (after t run) ≡ true
unfolding after
run-kept [] t e = e
run-kept (asks c call ∷ rest) t e = run-kept rest (step t c call).after (step_kept t c call e)

pub no-run-from-well-formed-tables-meets-number-1 : No-run-from-well-formed-tables-meets-number-1
no-run-from-well-formed-tables-meets-number-1 t run (asks c call) e one =
    true≢false (sym (run-kept run t e) ∙ number-1 (after t run) c call one)

pub on-well-formed-tables-act-is-step : On-well-formed-tables-act-is-step
on-well-formed-tables-act-is-step t c call e = sym (step-act t c call e)

-- a refusal answers 0, and number 0 the value, if it is the climb's where the place is occupied
found-value : (n v : ℕ) (e : Climbed) → (n ≡ 0 → v ≡ e.value) → cond (eqb n 0) v 0 ≡ (found_by n e).value
found-value zero v e h = h refl
found-value (suc n) v e h = rw (ne_eqb (suc n) 0 (omega arith))

pub on-well-formed-tables-look-is-the-querys-value : On-well-formed-tables-look-is-the-querys-value
unfolding look query query_no
on-well-formed-tables-look-is-the-querys-value t o e = (
  rw e (found-value (look_no t o) (kept_at t KEPT-TYPE o) (effective t FILE-TYPE o)
      (λ z. unfold value_at in (facts t e).kept KEPT-TYPE o (omega arith) (there z).0)),
  rw e (found-value (look_no t o) (file_word t o KIND) (effective t KIND o)
      (λ z.
      let most = (used-file t (facts t e).formed o (there z).0 (there z).1).kind in
      ap (λ (c : Climbed). c.value) (sym (effective-own t KIND o (λ i. absurd (omega arith)))))),
)
  where
    there : look_no t o ≡ 0 → (o < FILES) × (occupied t FILESYSTEM o ≡ true)
    there z = let h = simp tested at z in (h.0, h.1)
