-- A program's roles, computed (W-207; rules 27 and 28). A helper that assigns the roles 6 and 7 and may modify files of type 0 sets these two of a
-- program at once; another role, or a special one, as either of them is refused, and both values stay. Role Admin sets any that are in range.
-- Assumes nothing.
use Prim.Native.Nat.{ℕ}
use mathlib.Core.Path.{◌≡◌, refl}
use mathlib.Core.List.{List, [], ◌∷◌, ◌++◌}
use Rattle.model.specs.declared.Call.{Call}
use Rattle.model.specs.declared.Change.{Change}
use Rattle.model.specs.Numbers.{ASSIGN-ROLES, CLONE, COMPATIBLE-ROLES, CREATE, FILE, FILESYSTEM, INHERIT-USER, MODIFY-ATTRIBUTE, PROCESS, USE-FORCED-ROLE}
use Rattle.model.specs.Layout.{FORCED, INITIAL, KEPT-FORCED, KEPT-INITIAL}
use Rattle.model.specs.Records.{file_word, kept_at}
use Rattle.model.specs.Fresh.{fresh}
use Rattle.model.specs.Runs.{Event, asks, after}
use Rattle.marked.proofs.Computing.{administers, numbers, acted, answered, computing, setting, setting-values}

-- the program is file 1, in the root
pub program : List Event
program = administers 0 (Change.AddRight FILESYSTEM 0 0 CREATE) ∷ asks 0 (Call.Create FILE 0) ∷ []

-- process 1 takes role 5, the helper's
pub setup : List Event
setup =
    administers 0 (Change.AddRole ASSIGN-ROLES 5 6)
    ∷ administers 0 (Change.AddRole ASSIGN-ROLES 5 7)
    ∷ administers 0 (Change.AddRight FILESYSTEM 5 0 MODIFY-ATTRIBUTE)
    ∷ administers 0 (Change.AddRight PROCESS 0 0 CLONE)
    ∷ administers 0 (Change.AddRole COMPATIBLE-ROLES 0 5)
    ∷ asks 0 Call.Clone
    ∷ asks 1 (Call.ChangeRole 5)
    ∷ program

abbrev pub tables : List ℕ
tables = after fresh setup

-- 6 and 7; then another role as forced or as initial, and a special value as either; one that is out of range beside another role; a free place
pub helped : List Event
helped =
    administers 1 (Change.SetProgramRoles 1 6 7)
    ∷ administers 1 (Change.SetProgramRoles 1 7 8)
    ∷ administers 1 (Change.SetProgramRoles 1 8 6)
    ∷ administers 1 (Change.SetProgramRoles 1 7 INHERIT-USER)
    ∷ administers 1 (Change.SetProgramRoles 1 USE-FORCED-ROLE 6)
    ∷ administers 1 (Change.SetProgramRoles 1 8 USE-FORCED-ROLE)
    ∷ administers 1 (Change.SetProgramRoles 2 6 7)
    ∷ []

-- Role Admin: both special, and use forced role as the forced value, which it cannot be
pub any : List Event
any = administers 0 (Change.SetProgramRoles 1 USE-FORCED-ROLE INHERIT-USER) ∷ administers 0 (Change.SetProgramRoles 1 7 USE-FORCED-ROLE) ∷ []

pub both-are-asked : numbers tables (helped ++ any) ≡ 0 ∷ 5 ∷ 5 ∷ 5 ∷ 5 ∷ 2 ∷ 4 ∷ 0 ∷ 2 ∷ []
both-are-asked = simp computing (unfold acted answered fresh setup program helped any in refl)

-- the two values of file 1
pub roles : List ℕ → List ℕ
roles t = file_word t 1 INITIAL ∷ file_word t 1 FORCED ∷ []

pub both-are-set : roles (after tables helped) ∷ roles (after tables (helped ++ any)) ∷ [] ≡ (6 ∷ 7 ∷ []) ∷ (33 ∷ 34 ∷ []) ∷ []
both-are-set = simp computing (unfold acted fresh setup program helped any roles in refl)

-- both of a directory are kept for what inherits them
pub below : List Event
below = program ++ (administers 0 (Change.SetProgramRoles 0 4 9) ∷ [])

pub both-are-kept : kept_at (after fresh below) KEPT-INITIAL 1 ∷ kept_at (after fresh below) KEPT-FORCED 1 ∷ [] ≡ 4 ∷ 9 ∷ []
both-are-kept = simp computing (unfold below program in simp setting-values (unfold setting acted fresh in refl))
