-- Setpoint lists with a unit (W-202): for every row, setpoint and slice of entries the one answer, and the one slice afterwards. Of the monitor only
-- what it answers is looked at, its decision on a call and its queries, and no word of the tables, which stay as they are.
-- Assumes nothing.
use Rattle.std.specs.Prelude.{ℕ, Bool, cond, ◌&&◌, List, eqb, leb, ltb, length, set}
use Rattle.model.specs.declared.Call.{Call}
use Rattle.model.specs.Numbers.{◌unless◌, ◌▹◌, lower, FILE, FILESYSTEM, TYPES, WRITE}
use Rattle.model.specs.Outcome.{Outcome, decide}
use Rattle.model.specs.Queries.{query_kind, query_type}
use Rattle.model.specs.Step.{step}
use Rattle.setpoints.specs.declared.Setpoint.{Setpoint}
use Rattle.setpoints.specs.Pascals.{pascals}

-- ---- the units

abbrev pub METRES : ℕ
METRES = 0

abbrev pub KILOPASCALS : ℕ
KILOPASCALS = 1

abbrev pub UNITS : ℕ
UNITS = 2

-- the largest amount, in millimetres of head or in pascals
abbrev pub LIMIT : ℕ
LIMIT = 2000000

-- metres or kilopascals, by the unit
abbrev pub by_unit : ℕ → ℕ → ℕ → ℕ
by_unit unit metres kilopascals = cond (eqb unit METRES) metres kilopascals

-- the type that is set aside for lists in the unit
abbrev pub type_for : Setpoint → ℕ
type_for s = by_unit s.unit s.metres s.kilopascals

-- the entry made, in pascals: pascals enter unchanged
unfoldable pub entry : Setpoint → ℕ
entry s = by_unit s.unit (pascals s.amount) s.amount

-- ---- the number

-- every number that the monitor does not look at is in its range, and the slice has places for entries
unfoldable pub in_range : Setpoint → ℕ → Bool
in_range s places =
    ltb s.unit UNITS && leb s.amount LIMIT && ltb s.metres TYPES && ltb s.kilopascals TYPES && ltb 0 places

-- the list is a FILE, and its effective type is its unit's
unfoldable pub of_unit : List ℕ → Setpoint → Bool
of_unit t s = eqb (query_kind t s.list).value FILE && eqb (query_type t s.list).value (type_for s)

-- what the monitor answers where the process asks to WRITE the list
unfoldable pub write_no : List ℕ → Setpoint → ℕ
write_no t s = (step t s.process (Call.Access FILESYSTEM s.list WRITE)).answer.number

-- the lowest number that applies, of the library's own tests and of the monitor's decision
unfoldable pub enter_no : List ℕ → Setpoint → ℕ → ℕ
enter_no t s places = lower (2 unless in_range s places ▹ 4 unless of_unit t s) (write_no t s)

-- ---- the answer, and the entries afterwards: a grant writes the first, a refusal none

unfoldable pub enter : List ℕ → Setpoint → List ℕ → Outcome
enter t s entries = decide entries (enter_no t s (length entries)) 0 (set entries 0 (entry s))
