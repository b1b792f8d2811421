-- Tables that are not well formed are refused with 1; on all others the outer test says nothing, and their part of full length is all of them.
-- Assumes nothing.
use Rattle.std.proofs.Common.{ℕ, ◌≡◌, sym, List, true, Err}
use Rattle.model.specs.declared.Call.{Call}
use Rattle.model.specs.declared.Refusal.{Refusal}
use Rattle.model.specs.Numbers.{◌unless◌}
use Rattle.model.specs.Outcome.{outcome}
use Rattle.model.specs.Refusals.{number_of, answer_of}
use Rattle.model.specs.WellFormed.{well_formed}
use Rattle.model.specs.Step.{step}
use Rattle.model.proofs.Decided.{unless-1}
use Rattle.model.proofs.Ends.{refused_first}
use Rattle.model.proofs.Kept.{step-act}
use Rattle.formed.proofs.Whole.{whole-fits, whole_length, whole_take, whole_drop}

pub damaged : (e : Refusal) (t : List ℕ) (c : ℕ) (call : Call) → number_of e ≡ 1 unless well_formed t → step t c call ≡ outcome (answer_of (Err e)) t
unfolding step
damaged e t c call h = refused_first e t _ _ _ _ h

pub sound : (t : List ℕ) → 0 ≡ 1 unless well_formed t → well_formed t ≡ true
sound t h = (unless-1 (well_formed t)).0 (sym h)

pub ruleset whole = (damaged, sound, step-act, whole-fits, whole_length, whole_take, whole_drop)
