-- What the change of role on a row comes to: what its number says, and where that grants, the row with the caller's record patched.
-- The definition asks the tables that hold the row; at a live caller they have its record, and its role is as lent (`Held.antt`).
-- Assumes nothing.
use Rattle.std.proofs.Common.{ℕ, zero, suc, ◌<◌, ◌≡◌, sym, ◌∙◌, arith, ◌&&◌, List, length, set, ltb}
use Rattle.std.proofs.lemmas.List.{get_or-set_same}
use Rattle.std.proofs.lemmas.Bool.Decides.{nat_tests}
use Rattle.std.proofs.Math.ListN.{length-set, get_or-eq_default}
use lib.Seq.{get_or-set_other}
use Rattle.sets.specs.Sets.{has}
use Rattle.model.specs.declared.Call.{Call}
use Rattle.model.specs.declared.Process.{Process}
use Rattle.model.specs.Numbers.{◌unless◌, ◌▹◌, PROCESSES, ROLES}
use Rattle.model.specs.Outcome.{decide}
use Rattle.model.specs.Records.{process_at, put_process, role_at}
use Rattle.model.specs.Transitions.{with_role}
use Rattle.model.specs.Calls.{own_role, change_role_no, change_role_row}
use Rattle.model.specs.Step.{caller_no, ruling, number, act, step}
use Rattle.model.proofs.Granted.{granted-by}
use Rattle.model.proofs.Records.{process-put-same, process-put-other}
use Rattle.model.proofs.Formed.{Live, facts, test, live-process}
use Rattle.model.proofs.Kept.{step-act}
use Rattle.hosts.specs.Records.{record_at, holding, records_of, RowOutcome, row_outcome, held, change_role_at, patched, row_no}
use Rattle.hosts.proofs.Held.{Holds, sized, holds, records-are, live-mark}

module _ (t : List ℕ) (row : List Process) (c role : ℕ) where
  abbrev me : Process
  me = record_at row c

  -- the tests of the caller's record
  abbrev tests : ℕ
  tests = (2 unless (ltb c PROCESSES && ltb role ROLES) ▹ 3 unless me.live) ▹ 5 unless has (role_at t me.role).compatible.bits role

  -- what a number comes to: the caller's record is patched where it grants
  abbrev ended : ℕ → RowOutcome
  ended zero = row_outcome (record { number = 0; place = 0 }) (set row c (patched me role))
  ended (suc n) = row_outcome (record { number = suc n; place = 0 }) row

  -- ---- tables u that hold the row and have the roles that are lent

  module _ (u : List ℕ) (h : Holds t u row PROCESSES) (size : length row ≡ PROCESSES) where
    -- at a live caller own role is the one that was lent, and once a number refuses, what is tested after it does not matter
    same_number : number u c (Call.ChangeRole role) ≡ tests
    unfolding number caller_no ruling change_role_no own_role
    same_number = grind (arith, nat_tests, live-mark u h.formed c, live-process u h.formed.formed c, h.there c, h.roles me.role)

    -- granted, the tables afterwards hold the patched row
    abbrev new : Process
    new = with_role role (process_at u c)

    patched-there : Live (process_at u c) → c < PROCESSES → (p : ℕ) → p < PROCESSES → process_at (put_process u c new) p ≡ record_at (set row c (patched me role)) p
    unfolding with_role record_at
    patched-there was l p m =
        grind (arith, get_or-set_same {A = Process}, process-put-same u h.formed.formed.sized c new, process-put-other u c new, h.there, get_or-set_other row c)

    held-after : 0 ≡ tests → records_of (change_role_row u c role) ≡ set row c (patched me role)
    unfolding change_role_row
    held-after e =
        let caller = ((granted-by u c (Call.ChangeRole role)).0 (same_number ∙ sym e)).caller in
        grind (arith, records-are (put_process u c new) (set row c (patched me role)), length-set {A = Process}, patched-there, live-process u h.formed.formed c)

    -- the definition's call; refused, they hold the row as found
    pub stepped : held (step u c (Call.ChangeRole role)) ≡ ended tests
    unfolding act ruling decide
    stepped = grind (arith, step-act u c (Call.ChangeRole role) (test u h.formed), same_number, held-after, records-are u row size h.there)

  -- ---- any tables and any row

  pub changed : change_role_at t row c role ≡ ended (row_no t row c role)
  unfolding change_role_at row_no
  changed = grind (arith, nat_tests, stepped (holding t row), holds t row, facts t, sized t row)

  -- a grant is for a live record, so that its place is in the row
  pub within : 0 ≡ row_no t row c role → c < length row
  unfolding row_no record_at
  within z = grind (arith, nat_tests, get_or-eq_default {A = Process})

pub ruleset changes = (changed, within)
