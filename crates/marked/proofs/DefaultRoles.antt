-- Rule 26, computed (W-204). A helper that assigns the roles 6 and 7 moves users between these two: it takes none out of another role, puts none
-- into one, and is refused even where another role is to stay. Role Admin, which has no assign roles, moves any user (H4).
-- Assumes nothing.
use Prim.Native.Nat.{ℕ}
use mathlib.Core.Path.{◌≡◌, refl}
use mathlib.Core.List.{List, [], ◌∷◌}
use Rattle.model.specs.declared.Call.{Call}
use Rattle.model.specs.declared.Change.{Change}
use Rattle.model.specs.Numbers.{PROCESS, COMPATIBLE-ROLES, ASSIGN-ROLES, CLONE}
use Rattle.model.specs.Records.{user_role}
use Rattle.model.specs.Fresh.{fresh}
use Rattle.model.specs.Runs.{Event, asks, after}
use Rattle.marked.proofs.Computing.{administers, numbers, acted, answered, computing}

-- process 1 takes role 5, the helper's; user 1 begins with role 6 and user 2 with role 8
pub setup : List Event
setup =
    administers 0 (Change.AddRole ASSIGN-ROLES 5 6)
    ∷ administers 0 (Change.AddRole ASSIGN-ROLES 5 7)
    ∷ administers 0 (Change.SetUserRole 1 6)
    ∷ administers 0 (Change.SetUserRole 2 8)
    ∷ administers 0 (Change.AddRight PROCESS 0 0 CLONE)
    ∷ administers 0 (Change.AddRole COMPATIBLE-ROLES 0 5)
    ∷ asks 0 Call.Clone
    ∷ asks 1 (Call.ChangeRole 5)
    ∷ []

abbrev pub tables : List ℕ
tables = after fresh setup

-- the helper: from 6 to 7, from 7 to 7; from 8 to 7, from 7 to 8, from 8 to 8; then Role Admin from 8 to 6, and the helper from 6 to 7
pub moves : List Event
moves =
    administers 1 (Change.SetUserRole 1 7)
    ∷ administers 1 (Change.SetUserRole 1 7)
    ∷ administers 1 (Change.SetUserRole 2 7)
    ∷ administers 1 (Change.SetUserRole 1 8)
    ∷ administers 1 (Change.SetUserRole 2 8)
    ∷ administers 0 (Change.SetUserRole 2 6)
    ∷ administers 1 (Change.SetUserRole 2 7)
    ∷ []

pub old-and-new-are-asked : numbers tables moves ≡ 0 ∷ 0 ∷ 5 ∷ 5 ∷ 5 ∷ 0 ∷ 0 ∷ []
old-and-new-are-asked = simp computing (unfold acted answered fresh setup moves in refl)

pub both-users-have-role-7 : user_role (after tables moves) 1 ∷ user_role (after tables moves) 2 ∷ [] ≡ 7 ∷ 7 ∷ []
both-users-have-role-7 = simp computing (unfold acted fresh setup moves in refl)
