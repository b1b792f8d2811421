-- The change of role on the records that tables hold is the definition's on those tables, whatever well-formed tables with the same roles are lent beside them:
-- the same answer, and the row that they hold afterwards. They keep the roles, so that the next call is the definition's too.
-- Assumes nothing.
use Prim.Native.Nat.{ℕ}
use mathlib.Core.Path.{◌≡◌, refl, sym, ◌∙◌}
use mathlib.Core.Bool.{true}
use mathlib.Core.List.{List}
use Rattle.model.specs.declared.Call.{Call}
use Rattle.model.specs.declared.Process.{Process}
use Rattle.model.specs.Numbers.{PROCESSES}
use Rattle.model.specs.Records.{process_at}
use Rattle.model.specs.Transitions.{with_role}
use Rattle.model.specs.Calls.{change_role_row}
use Rattle.model.specs.Step.{ruling, act, step}
use Rattle.model.specs.WellFormed.{well_formed}
use Rattle.model.proofs.Decided.{decided}
use Rattle.model.proofs.Granted.{granted-by}
use Rattle.model.proofs.Records.{process-put-policy}
use Rattle.model.proofs.Formed.{facts, test}
use Rattle.model.proofs.Kept.{step-act}
use Rattle.hosts.specs.Records.{row_ok, holding, records_of, held, change_role_at, SameRoles, row_no}
use Rattle.hosts.proofs.Held.{Holds, holds, records-sized, record-there, records-ok}
use Rattle.hosts.proofs.Laws.{changed, stepped}

-- tables that hold a row that may be lent are well formed
pub holding-well-formed : (t : List ℕ) (row : List Process) → well_formed t ≡ true → row_ok row ≡ true → well_formed (holding t row) ≡ true
holding-well-formed t row formed ok = test (holding t row) (holds t row ok (facts t formed)).formed

-- t is what the host lends beside its records, u are the definition's tables
pub change-agrees : (t u : List ℕ) (c role : ℕ) → well_formed t ≡ true → well_formed u ≡ true → SameRoles t u → change_role_at t (records_of u) c role ≡ held (step u c (Call.ChangeRole role))
unfolding row_no
change-agrees t u c role formed ok same =
    let w = facts u ok in
    let h : Holds t u (records_of u) PROCESSES = record { formed = w; there = record-there u; roles = same } in
    changed t (records_of u) c role ∙ rw (formed, records-ok u w) (sym (stepped t (records_of u) c role u h (records-sized u)))

pub roles-stay : (t u : List ℕ) (c role : ℕ) → well_formed u ≡ true → SameRoles t u → SameRoles t (step u c (Call.ChangeRole role)).after
unfolding act ruling change_role_row
roles-stay t u c role ok same =
    rw (step-act u c (Call.ChangeRole role) ok) (decided u _ _ _ (SameRoles t) same
    (λ e r l. (process-put-policy u c (with_role role (process_at u c)) ((granted-by u c (Call.ChangeRole role)).0 e).caller.placed).roles r l ∙ same r l))

-- where the tables that are lent are the definition's
pub change-is : (t : List ℕ) (c role : ℕ) → well_formed t ≡ true → change_role_at t (records_of t) c role ≡ held (step t c (Call.ChangeRole role))
change-is t c role formed = change-agrees t t c role formed formed (λ r l. refl)
