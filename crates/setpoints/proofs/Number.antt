-- What a setpoint's number stands for. The monitor's decision answers 1 where the tables are not well formed, and nothing is lower; on tables that are,
-- looking at the list is asking for it.
-- Assumes nothing.
use Rattle.std.proofs.Common.{ℕ, ◌<◌, ◌≤◌, ◌≡◌, arith, Bool, true, false, ◌&&◌, List, eqb, refl}
use mathlib.Core.Logic.{inl}
use native.Mathlib.Decide.{ℕ_discrete}
use Rattle.std.proofs.lemmas.Bool.Decides.{nat_tests}
use Rattle.model.specs.declared.Call.{Call}
use Rattle.model.specs.Numbers.{FILE, FILESYSTEM, WRITE, ◌unless◌, ◌▹◌, lower}
use Rattle.model.specs.Queries.{look_kind, look_type, query_kind}
use Rattle.model.specs.WellFormed.{well_formed}
use Rattle.model.proofs.Decided.{lower-iff, lower-one, tested}
use Rattle.promises.proofs.Formed.{on-well-formed-tables-look-is-the-querys-value}
use Rattle.promises.proofs.Numbers.{a-call-is-refused-by-the-first-test-that-fails, a-query-answers-0-1-2-or-4, a-query-is-answered-exactly-when-its-tests-hold}
use Rattle.promises.specs.Tests.{Hold, query_tests}
use Rattle.setpoints.specs.declared.Setpoint.{Setpoint}
use Rattle.setpoints.specs.Setpoints.{enter_no, entry, in_range, of_unit, type_for, write_no}
use Rattle.setpoints.proofs.Rounding.{no-entry-is-above-19613300}

module _ (t : List ℕ) (s : Setpoint) where
  -- the tables are the monitor's to test
  write-1 : well_formed t ≡ false → write_no t s ≡ 1
  unfolding write_no
  write-1 e =
      (a-call-is-refused-by-the-first-test-that-fails t s.process (Call.Access FILESYSTEM s.list WRITE) 1 (omega arith)).1 (inl (e, refl))

  -- the list is of its unit, as far as is seen by looking
  abbrev looks_of_unit : Bool
  looks_of_unit = eqb (look_kind t s.list) FILE && eqb (look_type t s.list) (type_for s)

  looked : well_formed t ≡ true → looks_of_unit ≡ of_unit t s
  unfolding of_unit
  looked e = grind (arith, on-well-formed-tables-look-is-the-querys-value t s.list e)

  -- so that the number may be found by looking
  pub number_looked : (places : ℕ) → lower (2 unless in_range s places ▹ 4 unless looks_of_unit) (write_no t s) ≡ enter_no t s places
  unfolding enter_no
  number_looked places = grind (arith, looked, write-1, lower-one)

  -- queries of a list of its unit are answered: a refusal would have answered 0 for its kind
  pub list-answered : of_unit t s ≡ true → Hold (query_tests t s.list)
  unfolding of_unit
  list-answered e =
      elim (ℕ_discrete (query_kind t s.list).number 0) [
        | yes z ↦ (a-query-is-answered-exactly-when-its-tests-hold t _ s.list).0.0 z
        | no n ↦ let z = ((a-query-answers-0-1-2-or-4 t _ s.list).1 n).0 in let k = (simp tested at e).0 in absurd (omega arith)
      ]

-- ---- what a grant tells

pub record Granted (t : List ℕ) (s : Setpoint) (places : ℕ) : Type 0 where
  pub ranged : in_range s places ≡ true
  pub united : of_unit t s ≡ true
  pub written : write_no t s ≡ 0

module _ (t : List ℕ) (s : Setpoint) (places : ℕ) (e : 0 ≡ enter_no t s places) where
  pub granted : Granted t s places
  unfolding enter_no
  granted = grind (arith, nat_tests, lower-iff)

  -- it has a first entry to write, and what it writes there fits a word
  pub has_place : 0 < places
  unfolding in_range
  has_place = grind (arith, nat_tests, granted)

  pub entry_fits : entry s ≤ 19613300
  unfolding in_range
  entry_fits = grind (arith, nat_tests, granted, no-entry-is-above-19613300)

pub ruleset grants = (has_place, entry_fits)
