-- A setpoint's number is that of the first test that fails: the lower of two numbers, each the first of its own list, is the first of both lists in one
-- order, since a free place is no list of any unit.
-- Assumes nothing.
use Rattle.std.proofs.Common.{ℕ, ◌≡◌, arith, List, length, set}
use Rattle.std.proofs.lemmas.Bool.Decides.{nat_tests}
use Rattle.model.specs.declared.Call.{Call}
use Rattle.model.specs.Numbers.{FILESYSTEM, WRITE, lower}
use Rattle.model.proofs.Decided.{decide-granting, decide-number, decide-refusing}
use Rattle.promises.specs.Tests.{call_tests}
use Rattle.promises.proofs.First.{Numbered, first_of, first-number, first-zero}
use Rattle.promises.proofs.Numbers.{step-first}
use Rattle.setpoints.specs.declared.Setpoint.{Setpoint}
use Rattle.setpoints.specs.Promises.{A-setpoint-is-granted-exactly-when-its-tests-hold, A-setpoint-is-refused-by-the-first-test-that-fails, setpoint_tests}
use Rattle.setpoints.specs.Setpoints.{enter, enter_no, entry, write_no}
use Rattle.setpoints.proofs.Number.{list-answered}

module _ (t : List ℕ) (s : Setpoint) where
  write-first : write_no t s ≡ first_of (call_tests t s.process (Call.Access FILESYSTEM s.list WRITE))
  unfolding write_no
  write-first = step-first t s.process (Call.Access FILESYSTEM s.list WRITE)

  enter-first : (places : ℕ) → enter_no t s places ≡ first_of (setpoint_tests t s places)
  unfolding enter_no lower
  enter-first places = grind (arith, nat_tests, write-first, list-answered t s)

numbered : (t : List ℕ) (s : Setpoint) (places : ℕ) → Numbered (setpoint_tests t s places)
numbered t s places = (omega arith, (omega arith, (omega arith, (omega arith, (omega arith, tt)))))

pub a-setpoint-is-granted-exactly-when-its-tests-hold : A-setpoint-is-granted-exactly-when-its-tests-hold
unfolding enter
a-setpoint-is-granted-exactly-when-its-tests-hold t s entries =
    let first = enter-first t s (length entries) in
    let hold = first-zero (setpoint_tests t s (length entries)) (numbered t s (length entries)) in
    let number = decide-number entries (enter_no t s (length entries)) 0 (set entries 0 (entry s)) in
    (λ e. grind (arith, first, hold, number), λ h. grind (arith, first, hold, decide-granting))

pub a-setpoint-is-refused-by-the-first-test-that-fails : A-setpoint-is-refused-by-the-first-test-that-fails
unfolding enter
a-setpoint-is-refused-by-the-first-test-that-fails t s entries n z =
    let first = enter-first t s (length entries) in
    let fails = first-number (setpoint_tests t s (length entries)) (numbered t s (length entries)) n z in
    let number = decide-number entries (enter_no t s (length entries)) 0 (set entries 0 (entry s)) in
    (λ e. grind (arith, first, fails, number), λ f. grind (arith, first, fails, decide-refusing))
