-- Only administration changes what roles may do: every other call writes one process, file or IPC object, or nothing, and what is kept; those tables lie apart from
-- the roles, users and rights.
-- Assumes nothing.
use Prim.Native.Nat.{ℕ}
use mathlib.Core.List.{List}
use mathlib.Core.Path.{◌∙◌, refl}
use mathlib.Core.Logic.{◌≢◌}
use native.Mathlib.Omega.{arith}
use borrow.Author.Tests.{ltb-true}
use Rattle.model.specs.declared.Call.{Call}
use Rattle.model.specs.Numbers.{FILES, IPCS, ◌unless◌, ◌▹◌}
use Rattle.model.specs.WellFormed.{well_formed}
use Rattle.model.specs.Policy.{SamePolicy}
use Rattle.model.specs.Calls.{change_owner_row, change_role_row, clone_row, create_ipc_row, create_row, delete_ipc_row, delete_row, execute_row, exit_row}
use Rattle.model.specs.Step.{ruling, step, number}
use Rattle.model.specs.Runs.{administers, deed}
use Rattle.model.proofs.Records.{file-put-policy, ipc-put-policy, policy-same, policy-stays, process-put-policy}
use Rattle.model.proofs.KeptValues.{settled-written, unkept-written}
use Rattle.model.proofs.Decided.{decided}
use Rattle.model.proofs.Granted.{Granted, clone-granted, create-granted, create-ipc-granted, granted-by}
use Rattle.promises.specs.Promises.{Only-administration-changes-roles-users-or-rights}
use Rattle.promises.proofs.Numbers.{step-granted, step-number}

-- a write of what is kept, after one of a file
same_then : {t u v : List ℕ} → SamePolicy t u → SamePolicy u v → SamePolicy t v
same_then a b =
    record {
      roles = λ r l. b.roles r l ∙ a.roles r l;
      users = λ i l. b.users i l ∙ a.users i l;
      rights = λ g r k right l m n. b.rights g r k right l m n ∙ a.rights g r k right l m n;
    }

call-policy : (t : List ℕ) (c : ℕ) (call : Call) → deed call ≢ administers → Granted t c call → SamePolicy t (ruling t c call).row
unfolding ruling clone_row exit_row execute_row change_owner_row change_role_row create_row delete_row create_ipc_row delete_ipc_row
call-policy t c (Call.Access g o right) d h = policy-same t
call-policy t c Call.Clone d h = process-put-policy t _ _ ((clone-granted t c).0 h.ruled).room
call-policy t c Call.Exit d h = process-put-policy t _ _ h.caller.placed
call-policy t c (Call.Execute f) d h = process-put-policy t _ _ h.caller.placed
call-policy t c (Call.ChangeOwner u) d h = process-put-policy t _ _ h.caller.placed
call-policy t c (Call.ChangeRole r) d h = process-put-policy t _ _ h.caller.placed
call-policy t c (Call.Create kind y) d h =
    let l = ((create-granted t c y).0 h.ruled).room in
    same_then (file-put-policy t _ _ l) (policy-stays (settled-written _ _) (omega arith) (omega arith))
call-policy t c (Call.Delete o) d h =
    let l = ltb-true o FILES h.ranged in
    same_then (file-put-policy t _ _ l) (policy-stays (unkept-written _ _) (omega arith) (omega arith))
call-policy t c Call.CreateIpc d h = ipc-put-policy t _ _ ((create-ipc-granted t c).0 h.ruled).room
call-policy t c (Call.DeleteIpc i) d h = ipc-put-policy t _ _ (ltb-true i IPCS h.ranged)
call-policy t c (Call.Administer change) d h = absurd (d refl)

pub only-administration-changes-roles-users-or-rights : Only-administration-changes-roles-users-or-rights
unfolding step
only-administration-changes-roles-users-or-rights t c call d =
    decided t (1 unless well_formed t ▹ number t c call) (ruling t c call).place (ruling t c call).row (SamePolicy t) (policy-same t)
    (λ e. call-policy t c call d ((granted-by t c call).0 ((step-granted t c call).0 (step-number t c call ∙ e)).1))
