-- The number of a whole batch is that of the first of its three tests that fails.
-- Assumes nothing.
use Prim.Native.Nat.{ℕ}
use mathlib.Core.Bool.{Bool, ◌&&◌, false, true}
use mathlib.Core.List.{List, [], ◌∷◌}
use mathlib.Core.Path.{◌∙◌, ◌≡◌, ap, refl, sym}
use native.Mathlib.Omega.{arith}
use borrow.Author.Tests.{le-leb}
use lib.ListN.{length}
use Rattle.model.specs.Numbers.{◌unless◌, ◌▹◌}
use Rattle.model.specs.WellFormed.{well_formed}
use Rattle.promises.specs.Tests.{◌if_not◌}
use Rattle.promises.proofs.First.{Numbered, first-number, first-zero, first_of}
use Rattle.batch.specs.Batch.{Batch, answers_after, batch_no, roomy, tables_after, whole}
use Rattle.batch.specs.Promises.{A-batch-is-granted-exactly-when-its-tests-hold, A-batch-is-refused-by-the-first-test-that-fails, No-items-is-a-grant-with-nothing-written, batch_tests}
use Rattle.batch.proofs.Laws.{batch-granted, batch-number, batch-refused}

-- by whether each holds
in_order : (a b c : Bool) → 1 unless a ▹ 2 unless (b && c) ≡ first_of (1 if_not a ∷ 2 if_not b ∷ 2 if_not c ∷ [])
in_order false b c = refl
in_order true false c = refl
in_order true true false = refl
in_order true true true = refl

module _ (t q s : List ℕ) where
  number-first : batch_no t q s ≡ first_of (batch_tests t q s)
  unfolding batch_no
  number-first = in_order (well_formed t) (whole q) (roomy q s)

  numbered : Numbered (batch_tests t q s)
  numbered = (λ e. omega (arith, e), (λ e. omega (arith, e), (λ e. omega (arith, e), tt)))

pub a-batch-is-granted-exactly-when-its-tests-hold : A-batch-is-granted-exactly-when-its-tests-hold
a-batch-is-granted-exactly-when-its-tests-hold t q s =
    rw (batch-number t q s, number-first t q s) (first-zero (batch_tests t q s) (numbered t q s))

pub a-batch-is-refused-by-the-first-test-that-fails : A-batch-is-refused-by-the-first-test-that-fails
a-batch-is-refused-by-the-first-test-that-fails t q s n h =
    let first = first-number (batch_tests t q s) (numbered t q s) n h in (
      λ e. first.0 (sym (number-first t q s) ∙ sym (batch-number t q s) ∙ ap (λ (b : Batch). b.answer.number) e),
      λ f. batch-refused t q s n (sym (number-first t q s ∙ first.1 f)) h,
    )

pub no-items-is-a-grant-with-nothing-written : No-items-is-a-grant-with-nothing-written
unfolding batch_no tables_after answers_after
no-items-is-a-grant-with-nothing-written t s w = batch-granted t [] s (rw (w, le-leb 0 (length s) (omega arith)))
