-- Well formed but for the length: a part of the test. Nothing here has to be believed, since the contract of the whole is the definition.
use Rattle.std.specs.Prelude.{ℕ, Bool, ◌&&◌, List}
use Rattle.sets.specs.Below.{all_below}
use Rattle.model.specs.Numbers.{FILESYSTEM, PROCESS, PROCESSES, FILES, IPCS, ROLES, USERS, FIRST-PROCESS, ROOT}
use Rattle.model.specs.Records.{occupied}
use Rattle.model.specs.WellFormed.{process_ok, user_ok, role_ok, ipc_ok, file_ok}
use Rattle.fitting.specs.Steps.{step_ok}

unfoldable pub tables_ok : List ℕ → Bool
tables_ok t =
    all_below PROCESSES (process_ok t)
    && all_below USERS (user_ok t)
    && all_below ROLES (role_ok t)
    && all_below IPCS (ipc_ok t)
    && all_below FILES (λ o. file_ok t o && step_ok t o)
    && occupied t PROCESS FIRST-PROCESS
    && occupied t FILESYSTEM ROOT
