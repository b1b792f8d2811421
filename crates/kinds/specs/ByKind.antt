-- A call that is written as a kind and some numbers, done on any row and on tables that are known to be well formed.
-- Assumes nothing.
use Rattle.std.specs.Prelude.{ℕ, cond, List, eqb, length, Option, Some, None}
use Rattle.model.specs.declared.Call.{Call}
use Rattle.model.specs.Numbers.{◌unless◌, ◌▹◌}
use Rattle.model.specs.Layout.{row_length}
use Rattle.model.specs.WellFormed.{well_formed}
use Rattle.model.specs.Outcome.{Outcome, decide, refusing}
use Rattle.model.specs.Step.{act, step}
use Rattle.decoding.specs.Kinds.{decode_of}

-- what is no call is 2, on tables that are well formed
abbrev pub no_call : List ℕ → Outcome
no_call t = decide t (1 unless well_formed t ▹ 2) 0 t

-- what is no call is refused; a call is done as it is by any other way in
abbrev pub written : List ℕ → ℕ → Option Call → Outcome
written t caller None = no_call t
written t caller (Some call) = step t caller call

-- a call by its kind and its numbers, on any row
unfoldable pub step_by_kind : List ℕ → ℕ → ℕ → List ℕ → Outcome
step_by_kind t kind caller n = written t caller (decode_of kind n)

-- the same on tables that are known to be well formed
abbrev pub done : List ℕ → ℕ → Option Call → Outcome
done t caller None = refusing 2 t
done t caller (Some call) = act t caller call

-- a call by its kind and its numbers on tables that are known to be well formed: of them only the length is looked at
unfoldable pub act_by_kind : List ℕ → ℕ → ℕ → List ℕ → Outcome
act_by_kind t kind caller n = cond (eqb (length t) row_length) (done t caller (decode_of kind n)) (refusing 1 t)
