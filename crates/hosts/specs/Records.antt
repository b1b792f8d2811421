-- A host's row of process records, lent beside the tables, and the change of role on it (rule 15).
-- Assumes nothing.
use Rattle.std.specs.Prelude.{ℕ, zero, suc, ◌<◌, Bool, true, false, cond, not, ◌&&◌, ◌≡◌, List, [], ◌∷◌, length, get_or, ltb, eqb}
use Rattle.sets.specs.Below.{all_below}
use Rattle.sets.specs.Sets.{has}
use Rattle.model.specs.declared.Answer.{Answer}
use Rattle.model.specs.declared.Call.{Call}
use Rattle.model.specs.declared.Forced.{Forced}
use Rattle.model.specs.declared.Process.{Process}
use Rattle.model.specs.Numbers.{◌unless◌, ◌▹◌, PROCESSES, ROLES, TYPES, USERS, is_first}
use Rattle.model.specs.Outcome.{Outcome}
use Rattle.model.specs.Records.{forced_word, process_at, put_process, free_process, role_at}
use Rattle.model.specs.WellFormed.{well_formed}
use Rattle.model.specs.Step.{step}

-- ---- what may be lent

-- the record at a place; past the end a free one
unfoldable pub record_at : List Process → ℕ → Process
record_at row p = get_or row p free_process

-- a forced value that a process may have: a plain role, or a special case that is not inherit parent
abbrev pub forced_ok : Forced → Bool
forced_ok (Forced.Plain r) = ltb r ROLES
forced_ok Forced.InheritParent = false
forced_ok Forced.InheritUser = true
forced_ok Forced.InheritProcess = true
forced_ok Forced.UpMixed = true

-- a record that may stand at place p: live with every number in its range, or free with zeros only, but process 0 is live
unfoldable pub record_ok : ℕ → Process → Bool
record_ok p r =
    cond r.live
    (ltb r.owner USERS && ltb r.role ROLES && ltb r.rctype TYPES && forced_ok r.forced)
    (not (is_first p) && eqb r.owner 0 && eqb r.role 0 && eqb r.rctype 0 && eqb (forced_word r.forced) 0)

-- 64 records, each of which may stand at its place
unfoldable pub row_ok : List Process → Bool
row_ok row = eqb (length row) PROCESSES && all_below PROCESSES (λ p. record_ok p (record_at row p))

-- ---- the tables that hold a row, and the row that tables hold

-- the tables with the first n records at their places
unfoldable pub holding_first : ℕ → List ℕ → List Process → List ℕ
holding_first zero t row = t
holding_first (suc n) t row = put_process (holding_first n t row) n (record_at row n)

abbrev pub holding : List ℕ → List Process → List ℕ
holding t row = holding_first PROCESSES t row

-- n records from place p on
abbrev pub records_from : List ℕ → ℕ → ℕ → List Process
records_from t p zero = []
records_from t p (suc n) = process_at t p ∷ records_from t (suc p) n

unfoldable pub records_of : List ℕ → List Process
records_of t = records_from t 0 PROCESSES

-- ---- the change of role

-- what a call on a row comes to: an answer, and the row after it
pub record RowOutcome : Type 0 where
  pub answer : Answer
  pub row : List Process

abbrev pub row_outcome : Answer → List Process → RowOutcome
row_outcome a row = record { answer = a; row = row }

-- what a call on tables comes to, for the row that they hold
abbrev pub held : Outcome → RowOutcome
held o = row_outcome o.answer (records_of o.after)

-- number 1, and the row as found, where the tables are not well formed or the row may not be lent;
-- else the definition's change role, on the tables that hold the row
unfoldable pub change_role_at : List ℕ → List Process → ℕ → ℕ → RowOutcome
change_role_at t row c role =
    cond (well_formed t && row_ok row)
    (held (step (holding t row) c (Call.ChangeRole role)))
    (row_outcome (record { number = 1; place = 0 }) row)

-- the roles of tables u are those of tables t
abbrev pub SameRoles : List ℕ → List ℕ → Type 0
SameRoles t u = (r : ℕ) → r < ROLES → role_at u r ≡ role_at t r

-- ---- its parts, on one record

-- the record with another role, and nothing else changed
abbrev pub patched : Process → ℕ → Process
patched p role = record { live = p.live; owner = p.owner; role = role; rctype = p.rctype; forced = p.forced }

-- the number that decides: of the tables and the row, and then numbers 2, 3 and 5 of change role, asked of the caller's record
unfoldable pub row_no : List ℕ → List Process → ℕ → ℕ → ℕ
row_no t row c role =
    1 unless (well_formed t && row_ok row)
    ▹ (2 unless (ltb c PROCESSES && ltb role ROLES) ▹ 3 unless (record_at row c).live)
    ▹ 5 unless has (role_at t (record_at row c).role).compatible.bits role
