-- The customer's morning. What is granted has its unit's type and the monitor's WRITE, so that metres enter no list in kilopascals, and a confined
-- family, to which WRITE is never granted there, enters nothing.
-- Assumes nothing.
use Rattle.std.proofs.Common.{ℕ, arith, List, length}
use Rattle.std.proofs.lemmas.Bool.Decides.{nat_tests}
use Rattle.model.specs.declared.Call.{Call}
use Rattle.model.specs.Numbers.{FILESYSTEM, WRITE}
use Rattle.model.specs.Layout.{FILE-TYPE}
use Rattle.model.specs.Runs.{after}
use Rattle.model.proofs.Decided.{decide-refusing}
use Rattle.promises.proofs.Confined.{whatever-has-happened-a-member-does-no-harm}
use Rattle.promises.proofs.Effective.{a-query-answers-the-effective-value}
use Rattle.promises.proofs.Numbers.{a-query-is-answered-exactly-when-its-tests-hold}
use Rattle.setpoints.specs.declared.Setpoint.{Setpoint}
use Rattle.setpoints.specs.Promises.{A-confined-family-enters-nothing-in-a-protected-list, Metres-never-enter-a-list-in-kilopascals, Refused}
use Rattle.setpoints.specs.Setpoints.{enter, of_unit, write_no}
use Rattle.setpoints.proofs.Number.{Granted, granted, list-answered}

-- what cannot be granted is refused, and leaves the entries
refused : (t : List ℕ) (s : Setpoint) (entries : List ℕ) → (Granted t s (length entries) → ⊥) → Refused (enter t s entries) entries
unfolding enter
refused t s entries h = grind (arith, decide-refusing, granted t s (length entries))

pub metres-never-enter-a-list-in-kilopascals : Metres-never-enter-a-list-in-kilopascals
unfolding of_unit
metres-never-enter-a-list-in-kilopascals t s entries differ metres of-kilopascals = refused t s entries (λ g. grind (arith, nat_tests, g))

pub a-confined-family-enters-nothing-in-a-protected-list : A-confined-family-enters-nothing-in-a-protected-list
unfolding write_no
a-confined-family-enters-nothing-in-a-protected-list t w run s entries accepted allowed member protected =
    let u = after t run in
    let value = a-query-answers-the-effective-value u FILE-TYPE s.list in
    let answered = (a-query-is-answered-exactly-when-its-tests-hold u FILE-TYPE s.list).0 in
    let harmless = whatever-has-happened-a-member-does-no-harm t w run s.process (Call.Access FILESYSTEM s.list WRITE) accepted allowed member in
    refused u s entries (λ g. grind (arith, nat_tests, g, list-answered u s, value, answered, harmless))
