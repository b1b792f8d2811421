-- That the theorem of confinement speaks of something, and needs what it asks, by computation. A planner's process (role 1) may start
-- a program, clone, and take role 2; type 2 is protected. Its claim is accepted, and the family lives. Then each hypothesis is dropped.
-- Assumes nothing.
use Prim.Native.Nat.{ℕ}
use mathlib.Core.Path.{◌≡◌, refl}
use mathlib.Core.Bool.{true, false}
use mathlib.Core.List.{List, [], ◌∷◌, ◌++◌}
use lib.ListN.{replicate}
use Rattle.model.specs.declared.Call.{Call}
use Rattle.model.specs.declared.Change.{Change}
use Rattle.model.specs.Numbers.{FILESYSTEM, PROCESS, FILE, INHERIT-PARENT, COMPATIBLE-ROLES, FILE-CREATE, WRITE, EXECUTE, CREATE, CLONE}
use Rattle.model.specs.Records.{process_at}
use Rattle.model.specs.Fresh.{fresh}
use Rattle.model.specs.Effective.{climb, effective, value_at}
use Rattle.model.specs.Claims.{claim_no, check}
use Rattle.model.specs.Runs.{Event, asks, after, founder, allowed, confined, members_within}
use Rattle.marked.proofs.Computing.{administers, numbers, acted, answered, judged, computing, setting, setting-values}

-- process 0 makes a program (type 3, forced role 1) and a list (type 2), and clones process 1, which starts the program
pub setup : List Event
setup =
    administers 0 (Change.AddRight FILESYSTEM 0 0 CREATE)
    ∷ administers 0 (Change.AddRight PROCESS 0 0 CLONE)
    ∷ administers 0 (Change.AddRight FILESYSTEM 0 3 EXECUTE)
    ∷ administers 0 (Change.AddRight FILESYSTEM 1 3 EXECUTE)
    ∷ administers 0 (Change.AddRight PROCESS 1 0 CLONE)
    ∷ administers 0 (Change.AddRole COMPATIBLE-ROLES 1 2)
    ∷ asks 0 (Call.Create FILE 0)
    ∷ administers 0 (Change.SetType FILESYSTEM 1 3)
    ∷ administers 0 (Change.SetProgramRoles 1 INHERIT-PARENT 1)
    ∷ asks 0 (Call.Create FILE 0)
    ∷ administers 0 (Change.SetType FILESYSTEM 2 2)
    ∷ asks 0 Call.Clone
    ∷ asks 1 (Call.Execute 1)
    ∷ []

abbrev pub tables : List ℕ
tables = after fresh setup

-- process 1, type 2, S = {1, 2}, Q = {0}, T of the root {0}, of the program {3}, of the list {2}
pub claim : List ℕ
claim = 1 ∷ 2 ∷ 6 ∷ 1 ∷ 1 ∷ 8 ∷ 4 ∷ replicate 253 0

pub the-claim-is-accepted : (check tables claim).number ≡ 0
unfolding check claim_no
the-claim-is-accepted = simp computing (unfold acted judged fresh setup claim in refl)

-- a member clones, the clone starts the program, the founder takes role 2, and both reach for the list
pub life : List Event
life =
    asks 1 Call.Clone
    ∷ asks 2 (Call.Execute 1)
    ∷ asks 1 (Call.ChangeRole 2)
    ∷ asks 1 (Call.Access FILESYSTEM 2 WRITE)
    ∷ asks 2 (Call.Access FILESYSTEM 2 WRITE)
    ∷ []

-- every hypothesis of the theorem is met
pub the-life-is-allowed : allowed tables (founder claim) life ≡ true
unfolding allowed life claim
the-life-is-allowed = simp computing (unfold acted fresh setup in refl)

-- and the calls of the family but the two writes are granted
pub the-family-lives : numbers tables life ≡ 0 ∷ 0 ∷ 0 ∷ 5 ∷ 5 ∷ []
the-family-lives = simp computing (unfold acted answered fresh setup life in refl)

-- ---- dropped: that no outsider administers. Process 0 gives role 1 WRITE to the list, and the planner writes it

pub careless : List Event
careless = administers 0 (Change.AddRight FILESYSTEM 1 2 WRITE) ∷ asks 1 (Call.Access FILESYSTEM 2 WRITE) ∷ []

pub the-planner-writes : numbers tables careless ≡ 0 ∷ 0 ∷ []
the-planner-writes = simp computing (unfold acted answered fresh setup careless in refl)

-- the hypothesis fails, and the promise with it
pub an-outsider-that-administers-breaks-it : allowed tables (founder claim) careless ∷ confined claim tables (founder claim) careless ∷ [] ≡ false ∷ false ∷ []
unfolding allowed confined careless claim
an-outsider-that-administers-breaks-it = simp computing (unfold acted members_within value_at effective climb fresh setup in refl)

-- ---- dropped: that C6 counts all 32 roles. The root forces role 5, and role 0, outside S, creates files of the startable type 3

pub trap : List Event
trap = administers 0 (Change.SetProgramRoles 0 INHERIT-PARENT 5) ∷ administers 0 (Change.SetDefaultType FILE-CREATE 0 3) ∷ []

abbrev pub trapped : List ℕ
trapped = after fresh (setup ++ trap)

-- the checker names rule 6
pub C6-counts-the-roles-outside-S : (check trapped claim).rule ≡ 6
unfolding check claim_no
C6-counts-the-roles-outside-S = simp computing (unfold trap in simp setting-values (unfold setting acted judged fresh setup claim in refl))

-- and rightly: an outsider creates the file, the planner starts it, and holds role 5
pub escape : List Event
escape = asks 0 (Call.Create FILE 0) ∷ asks 1 (Call.Execute 3) ∷ []

pub the-planner-holds-role-5 : (process_at (after trapped escape) 1).role ≡ 5
the-planner-holds-role-5 = simp computing (unfold trap in simp setting-values (unfold setting acted fresh setup escape in refl))

-- no outsider administers, and still the promise fails
pub a-role-outside-S-leads-out : allowed trapped (founder claim) escape ∷ confined claim trapped (founder claim) escape ∷ [] ≡ true ∷ false ∷ []
unfolding allowed confined escape claim
a-role-outside-S-leads-out = simp computing (unfold trap in simp setting-values (unfold setting acted members_within fresh setup in refl))
