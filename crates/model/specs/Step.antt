-- One call: for every row, process and call the one answer, and the one row afterwards.
-- Assumes nothing.
use Rattle.std.specs.Prelude.{ℕ, ◌&&◌, List, ltb}
use Rattle.model.specs.declared.Call.{Call}
use Rattle.model.specs.Numbers.{◌unless◌, ◌▹◌, FILESYSTEM, PROCESS, IPC, PROCESSES}
use Rattle.model.specs.Ranges.{ranged}
use Rattle.model.specs.Records.{occupied, free_place}
use Rattle.model.specs.WellFormed.{well_formed}
use Rattle.model.specs.Outcome.{Outcome, decide, Ruling, ruled}
use Rattle.model.specs.Calls.{access_no, clone_no, clone_row, exit_no, exit_row, execute_no, execute_row, change_owner_no, change_owner_row, change_role_no, change_role_row, create_no, create_row, delete_no, delete_row, create_ipc_no, create_ipc_row, delete_ipc_no, delete_ipc_row}
use Rattle.model.specs.Administration.{ruling_on}

-- every number of the call is in its range, the caller's too, and the caller is live
unfoldable pub caller_no : List ℕ → ℕ → Call → ℕ
caller_no t c call = 2 unless (ltb c PROCESSES && ranged call) ▹ 3 unless occupied t PROCESS c

-- what the rules say of each call
unfoldable pub ruling : List ℕ → ℕ → Call → Ruling
ruling t c (Call.Access g o right) = ruled (access_no t c g o right) 0 t
ruling t c Call.Clone = ruled (clone_no t c) (free_place t PROCESS) (clone_row t c)
ruling t c Call.Exit = ruled (exit_no c) 0 (exit_row t c)
ruling t c (Call.Execute f) = ruled (execute_no t c f) 0 (execute_row t c f)
ruling t c (Call.ChangeOwner u) = ruled (change_owner_no t c) 0 (change_owner_row t c u)
ruling t c (Call.ChangeRole r) = ruled (change_role_no t c r) 0 (change_role_row t c r)
ruling t c (Call.Create kind y) = ruled (create_no t c y) (free_place t FILESYSTEM) (create_row t c kind y)
ruling t c (Call.Delete o) = ruled (delete_no t c o) 0 (delete_row t o)
ruling t c Call.CreateIpc = ruled (create_ipc_no t c) (free_place t IPC) (create_ipc_row t c)
ruling t c (Call.DeleteIpc i) = ruled (delete_ipc_no t c i) 0 (delete_ipc_row t i)
ruling t c (Call.Administer change) = ruling_on t c change

-- the number of a call on tables that are known to be well formed
unfoldable pub number : List ℕ → ℕ → Call → ℕ
number t c call = caller_no t c call ▹ (ruling t c call).number

-- a call on tables that are known to be well formed
unfoldable pub act : List ℕ → ℕ → Call → Outcome
act t c call = decide t (number t c call) (ruling t c call).place (ruling t c call).row

-- process c makes a call on any row: tables that are not well formed are number 1
unfoldable pub step : List ℕ → ℕ → Call → Outcome
step t c call = decide t (1 unless well_formed t ▹ number t c call) (ruling t c call).place (ruling t c call).row
