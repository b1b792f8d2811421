-- The entries by kind, for C and for batches, come to nothing else than the calls that the promises speak of.
-- Assumes nothing.
use Prim.Native.Nat.{ℕ}
use mathlib.Core.Path.{◌≡◌, sym}
use mathlib.Core.Bool.{true, false}
use mathlib.Core.List.{List}
use borrow.Author.Tests.{eq-eqb}
use Rattle.model.specs.declared.Call.{Call}
use Rattle.model.specs.Layout.{row_length}
use Rattle.model.specs.Outcome.{refusing, decide}
use Rattle.model.specs.WellFormed.{well_formed}
use Rattle.model.specs.Step.{step}
use Rattle.model.proofs.Formed.{facts}
use Rattle.model.proofs.Kept.{step-act}
use Rattle.std.specs.Prelude.{Option, Some, None}
use Rattle.decoding.specs.Kinds.{decode_of}
use Rattle.formed.proofs.Whole.{full-drop, full-fits, full-length, full-take, whole_drop, whole-fits, whole_length, whole_take}
use Rattle.kinds.specs.ByKind.{written, done, act_by_kind, step_by_kind}

module _ (t : List ℕ) (caller : ℕ) where
  -- on well-formed tables what was written comes to the same without their test
  pub done-written : (what : Option Call) → well_formed t ≡ true → done t caller what ≡ written t caller what
  unfolding decide
  done-written None w = rw w
  done-written (Some call) w = sym (step-act t caller call w)

  -- on any others it is refused with 1, whatever it is
  pub written-ill : (what : Option Call) → well_formed t ≡ false → written t caller what ≡ refusing 1 t
  unfolding decide step
  written-ill None w = rw w
  written-ill (Some call) w = rw w

module _ (t : List ℕ) (kind caller : ℕ) (n : List ℕ) where
  -- A kind and numbers that say a call are that call.
  pub a-kind-and-numbers-that-say-a-call-are-that-call : (call : Call) → decode_of kind n ≡ Some call
      → step_by_kind t kind caller n ≡ step t caller call
  unfolding step_by_kind
  a-kind-and-numbers-that-say-a-call-are-that-call call e = rw e

  -- Any others are refused: with 1 where the tables are not well formed, and else with 2.
  pub any-others-are-refused-with-1-or-2 : decode_of kind n ≡ None
      → (well_formed t ≡ true → step_by_kind t kind caller n ≡ refusing 2 t) × (well_formed t ≡ false → step_by_kind t kind caller n ≡ refusing 1 t)
  unfolding step_by_kind decide
  any-others-are-refused-with-1-or-2 e = (λ w. rw (e, w), λ w. rw (e, w))

  -- On well-formed tables a call by kind without their test comes to the same.
  pub on-well-formed-tables-act-by-kind-is-step-by-kind : well_formed t ≡ true → act_by_kind t kind caller n ≡ step_by_kind t kind caller n
  unfolding act_by_kind step_by_kind
  on-well-formed-tables-act-by-kind-is-step-by-kind w =
      rw (eq-eqb _ row_length (facts t w).formed.sized) (done-written t caller (decode_of kind n) w)

  -- On any others every call by kind is 1.
  pub on-any-others-step-by-kind-is-1 : well_formed t ≡ false → step_by_kind t kind caller n ≡ refusing 1 t
  unfolding step_by_kind
  on-any-others-step-by-kind-is-1 w = written-ill t caller (decode_of kind n) w

-- a row of full length is its part of that length
pub ruleset full = (full-drop, full-fits, full-length, full-take)

-- a well-formed row has that length, and what is well formed or not is what the entry asks
pub ruleset whole =
    (whole_drop, whole-fits, whole_length, whole_take, on-well-formed-tables-act-by-kind-is-step-by-kind, on-any-others-step-by-kind-is-1)
