-- What is promised of setpoints, each as a sentence: a type whose name says it, proved under the same name in small letters (proofs).
-- Assumes nothing.
use Rattle.std.specs.Prelude.{ℕ, ◌+◌, ◌-◌, ◌*◌, ◌≤◌, ◌&&◌, not, true, List, [], ◌∷◌, ◌↔◌, ◌≢◌, ◌≡◌, eqb, ltb, length, set}
use Rattle.model.specs.Numbers.{FILES, PROCESSES}
use Rattle.model.specs.Outcome.{Outcome, granting, refusing}
use Rattle.model.specs.WellFormed.{well_formed}
use Rattle.model.specs.Queries.{query_type}
use Rattle.model.specs.Claims.{check, type_in}
use Rattle.model.specs.Runs.{Event, after, allowed, family_over, founder}
use Rattle.promises.specs.Tests.{FirstFails, Hold, Test, ◌if_not◌}
use Rattle.setpoints.specs.declared.Setpoint.{Setpoint}
use Rattle.setpoints.specs.Pascals.{MILLIMETRE, PASCAL, pascals}
use Rattle.setpoints.specs.Setpoints.{METRES, LIMIT, enter, entry, in_range, of_unit, write_no}

-- ---- granted and refused exactly when

-- the tests in the order of their numbers; that the process is live and that its role may write is the monitor's to say
abbrev pub setpoint_tests : List ℕ → Setpoint → ℕ → List Test
setpoint_tests t s places =
    1 if_not well_formed t
    ∷ 2 if_not (ltb s.process PROCESSES && ltb s.list FILES && in_range s places)
    ∷ 3 if_not not (eqb (write_no t s) 3)
    ∷ 4 if_not of_unit t s
    ∷ 5 if_not eqb (write_no t s) 0
    ∷ []

-- A setpoint is granted exactly when all its tests hold, and then the first entry is written, and nothing else.
abbrev pub A-setpoint-is-granted-exactly-when-its-tests-hold : Type 0
A-setpoint-is-granted-exactly-when-its-tests-hold =
    (t : List ℕ) (s : Setpoint) (entries : List ℕ)
    → (enter t s entries ≡ granting 0 (set entries 0 (entry s))) ↔ Hold (setpoint_tests t s (length entries))

-- It is refused with a number exactly when that is the number of the first test that fails, and then no entry is written.
abbrev pub A-setpoint-is-refused-by-the-first-test-that-fails : Type 0
A-setpoint-is-refused-by-the-first-test-that-fails =
    (t : List ℕ) (s : Setpoint) (entries : List ℕ) (n : ℕ)
    → n ≢ 0
    → (enter t s entries ≡ refusing n entries) ↔ FirstFails (setpoint_tests t s (length entries)) n

-- ---- the entry

-- how far a whole number of pascals is from so many millimetres of head, in hundred-thousandths of a pascal
abbrev pub distance : ℕ → ℕ → ℕ
distance mm p = (mm * MILLIMETRE - p * PASCAL) + (p * PASCAL - mm * MILLIMETRE)

-- q pascals are no nearer than p, and where they are as near, no higher: a half goes up
abbrev pub NoNearer : ℕ → ℕ → ℕ → Type 0
NoNearer mm p q = (distance mm p ≤ distance mm q) × (distance mm q ≡ distance mm p → q ≤ p)

abbrev pub Nearest : ℕ → ℕ → Type 0
Nearest mm p = (q : ℕ) → NoNearer mm p q

-- Millimetres of head enter as the nearest pascals, the upper where two are as near, and there is one such number.
abbrev pub Head-enters-as-the-nearest-pascals : Type 0
Head-enters-as-the-nearest-pascals = (mm p : ℕ) → Nearest mm p ↔ (p ≡ pascals mm)

-- No entry is above 19,613,300 pascals.
abbrev pub No-entry-is-above-19613300 : Type 0
No-entry-is-above-19613300 = (s : Setpoint) → s.amount ≤ LIMIT → entry s ≤ 19613300

-- ---- the customer's morning

-- a refusal, and no entry is written
abbrev pub Refused : Outcome → List ℕ → Type 0
Refused e entries = (e.answer.number ≢ 0) × (e.after ≡ entries)

-- Metres never enter a list whose effective type is the kilopascals', where the two types differ.
abbrev pub Metres-never-enter-a-list-in-kilopascals : Type 0
Metres-never-enter-a-list-in-kilopascals =
    (t : List ℕ) (s : Setpoint) (entries : List ℕ)
    → s.metres ≢ s.kilopascals
    → s.unit ≡ METRES
    → (query_type t s.list).value ≡ s.kilopascals
    → Refused (enter t s entries) entries

-- With an accepted claim, no member of the family is ever granted an entry in a list of the claim's type, in either unit, whatever has happened,
-- as long as no process outside the family was granted an administration call.
abbrev pub A-confined-family-enters-nothing-in-a-protected-list : Type 0
A-confined-family-enters-nothing-in-a-protected-list =
    (t w : List ℕ) (run : List Event) (s : Setpoint) (entries : List ℕ)
    → (check t w).number ≡ 0
    → allowed t (founder w) run ≡ true
    → family_over t (founder w) run s.process ≡ true
    → (query_type (after t run) s.list).value ≡ type_in w
    → Refused (enter (after t run) s entries) entries
