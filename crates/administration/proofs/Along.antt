-- The two steps of an administration call come to its ruling: where no value of a file is set, or the call is refused, the first is all; and else what
-- is kept goes with the words.
-- Assumes nothing.
use Rattle.std.proofs.Common.{ℕ, ◌+◌, ◌≡◌, ◌∙◌, refl, sym, ap, ap₂, Bool, true, false, cond, eqb, set, List, Option, Some, None, Result, Err, Ok, add-one}
use Rattle.model.specs.declared.Change.{Change}
use Rattle.model.specs.declared.Refusal.{Refusal}
use Rattle.model.specs.Numbers.{FILESYSTEM}
use Rattle.model.specs.Layout.{KEPT-TYPE, KEPT-WORDS}
use Rattle.model.specs.KeptValues.{revalued}
use Rattle.model.specs.Outcome.{Outcome, outcome, decide, carry_out}
use Rattle.model.specs.Refusals.{answer_of}
use Rattle.model.specs.Administration.{set_type_no, type_addr, set_program_roles_row, set_type_row, ruling_on}
use Rattle.model.proofs.Decided.{decide-number, decide-granting}
use Rattle.model.proofs.Ends.{refused}
use Rattle.administration.specs.declared.FileValues.{FileValues}
use Rattle.administration.specs.Written.{writing_on, values_of, file_of, sets, along_below, along_with}

-- a file's type is kept along where it is a file's
moved : (b : Bool) (u : List ℕ) (o : ℕ) → cond b (revalued u KEPT-TYPE o) u ≡ along_with u (cond b (Some (FileValues.Type o)) None)
unfolding along_below
moved true u o = refl
moved false u o = refl

-- the ruling is the one on the words, with what is kept
ruling-along : (t : List ℕ) (c : ℕ) (change : Change)
    → carry_out t (ruling_on t c change) ≡ decide t (writing_on t c change).number (writing_on t c change).place (along_with (writing_on t c change).row (values_of change))
unfolding ruling_on writing_on values_of along_below set_program_roles_row set_type_row
ruling-along t c (Change.AddRole s r member) = refl
ruling-along t c (Change.RemoveRole s r member) = refl
ruling-along t c (Change.SetUserRole u r) = refl
ruling-along t c (Change.SetProgramRoles f initial forced) = refl
ruling-along t c (Change.SetProcessForced p v) = refl
ruling-along t c (Change.SetDefaultType which r v) = refl
ruling-along t c (Change.SetRoleAdmin r mark) = refl
ruling-along t c (Change.SetType g o v) =
    ap (λ (u : List ℕ). decide t (set_type_no t c g o v) 0 u) (moved (eqb g FILESYSTEM) (set t (type_addr g o) v) o)
ruling-along t c (Change.AddRight g r k right) = refl
ruling-along t c (Change.RemoveRight g r k right) = refl

-- ---- the second step: from value k on to the next

module _ (k : ℕ) (u : List ℕ) (v : FileValues) (s : List ℕ) where
  pub along_set : sets v k ≡ true → s ≡ along_below k u v → revalued s k (file_of v) ≡ along_below (k + 1) u v
  unfolding along_below
  along_set h e = rw (add-one, h, e)

  pub along_unset : sets v k ≡ false → s ≡ along_below k u v → s ≡ along_below (k + 1) u v
  unfolding along_below
  along_unset h e = rw (add-one, h, e)

pub along_none : (u : List ℕ) (v : FileValues) → u ≡ along_below 0 u v
unfolding along_below
along_none u v = refl

pub ruleset steps = (along_none, along_set, along_unset)

-- ---- both steps, as the first has answered r and left the row s

module _ (t : List ℕ) (c : ℕ) (change : Change) (s : List ℕ) (r : Result ℕ Refusal) where
  -- a refusal leaves the row
  pub refused_whole : (e : Refusal) → outcome (answer_of r) s ≡ carry_out t (writing_on t c change) → r ≡ Err e
      → outcome (answer_of (Err e)) s ≡ carry_out t (ruling_on t c change)
  refused_whole e h is =
      let g = rw is at h in
      let n = ap (λ (o : Outcome). o.answer.number) g ∙ decide-number t _ _ _ in
      g ∙ refused e t _ _ _ n ∙ sym (ruling-along t c change ∙ refused e t _ _ _ n)

  -- granted, what is kept goes with the words
  pub kept_along : (place : ℕ) (u : List ℕ) → outcome (answer_of r) s ≡ carry_out t (writing_on t c change) → r ≡ Ok place
      → u ≡ along_with s (values_of change) → outcome (answer_of (Ok place)) u ≡ carry_out t (ruling_on t c change)
  kept_along place u h is f =
      let g = rw is at h in
      let n = ap (λ (o : Outcome). o.answer.number) g ∙ decide-number t _ _ _ in
      let k = g ∙ decide-granting t _ _ _ (sym n) in
      ap₂ outcome (ap (λ (o : Outcome). o.answer) k) (f ∙ ap (λ (x : List ℕ). along_with x (values_of change)) (ap (λ (o : Outcome). o.after) k))
      ∙ sym (ruling-along t c change ∙ decide-granting t _ _ _ (sym n))
