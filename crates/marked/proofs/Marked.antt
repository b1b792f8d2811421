-- The marked examples a1 to a10, computed from the definition in one list. a3 to a7 are one night of calls from fresh tables: process 0
-- administers first and clones four children, and each child then goes one example's way. Every call of the night is granted.
-- Assumes nothing.
use Prim.Native.Nat.{ℕ, zero, suc}
use mathlib.Core.Path.{◌≡◌, refl}
use mathlib.Core.List.{List, [], ◌∷◌, ◌++◌}
use lib.ListN.{replicate}
use Rattle.model.specs.declared.Call.{Call}
use Rattle.model.specs.declared.Change.{Change}
use Rattle.model.specs.declared.Verdict.{Verdict}
use Rattle.model.specs.declared.Found.{Found}
use Rattle.model.specs.Numbers.{FILESYSTEM, PROCESS, FILE, DIR, INHERIT-PARENT, USE-FORCED-ROLE, INHERIT-USER, UP-MIXED, USE-NEW-ROLE-DEF-CREATE, COMPATIBLE-ROLES, PROCESS-CREATE, PROCESS-EXECUTE, PROCESS-CHOWN, READ, WRITE, EXECUTE, CREATE, CHANGE-OWNER, CLONE}
use Rattle.model.specs.Layout.{FILE-TYPE, INITIAL, FORCED}
use Rattle.model.specs.Records.{forced_word, process_at}
use Rattle.model.specs.Fresh.{fresh}
use Rattle.model.specs.Effective.{climb, effective}
use Rattle.model.specs.Queries.{query_no, query}
use Rattle.model.specs.Claims.{claim_no, check}
use Rattle.model.specs.Runs.{Event, asks, after}
use Rattle.marked.proofs.Computing.{administers, numbers, acted, answered, judged, computing, setting, setting-values}

-- ---- a night of calls from fresh tables

-- process 0 is Role Admin: it gives rights and roles, makes three programs, and clones four children
pub setup : List Event
setup =
    administers 0 (Change.AddRight FILESYSTEM 0 0 CREATE)
    ∷ administers 0 (Change.AddRight PROCESS 0 0 CLONE)
    ∷ administers 0 (Change.AddRight FILESYSTEM 3 0 EXECUTE)
    ∷ administers 0 (Change.AddRight PROCESS 9 5 CHANGE-OWNER)
    ∷ administers 0 (Change.AddRight PROCESS 0 5 CHANGE-OWNER)
    ∷ administers 0 (Change.AddRole COMPATIBLE-ROLES 0 3)
    ∷ administers 0 (Change.SetUserRole 1 4)
    ∷ administers 0 (Change.SetUserRole 2 8)
    ∷ administers 0 (Change.SetDefaultType PROCESS-EXECUTE 3 5)
    ∷ administers 0 (Change.SetDefaultType PROCESS-CHOWN 0 USE-NEW-ROLE-DEF-CREATE)
    ∷ administers 0 (Change.SetDefaultType PROCESS-CREATE 4 6)
    ∷ asks 0 (Call.Create FILE 0)
    ∷ administers 0 (Change.SetProgramRoles 1 7 UP-MIXED)
    ∷ asks 0 (Call.Create FILE 0)
    ∷ administers 0 (Change.SetProgramRoles 2 USE-FORCED-ROLE 9)
    ∷ asks 0 (Call.Create FILE 0)
    ∷ administers 0 (Change.SetProgramRoles 3 INHERIT-PARENT INHERIT-USER)
    ∷ asks 0 Call.Clone
    ∷ asks 0 Call.Clone
    ∷ asks 0 Call.Clone
    ∷ asks 0 Call.Clone
    ∷ []

-- process p takes role 3 and executes a program
pub executes : ℕ → ℕ → List Event
executes p file = asks p (Call.ChangeRole 3) ∷ asks p (Call.Execute file) ∷ []

pub evening : List Event
evening = setup ++ executes 1 1 ++ executes 2 2 ++ executes 3 3 ++ executes 4 3

pub morning : List Event
morning = asks 2 (Call.ChangeOwner 1) ∷ asks 3 (Call.ChangeOwner 1) ∷ asks 4 (Call.ChangeOwner 2) ∷ []

-- each right needed is held
pub night-granted : numbers fresh (evening ++ morning) ≡ replicate 32 0
night-granted = simp computing (unfold answered fresh evening morning setup executes in refl)

-- role, type and forced value of a process
pub shown : List ℕ → ℕ → List ℕ
shown t p = (process_at t p).role ∷ (process_at t p).rctype ∷ forced_word (process_at t p).forced ∷ []

-- ---- the other examples

-- n directories, the first in `parent` and each other in the one before it; the first takes place `place`
pub chain : ℕ → ℕ → ℕ → List Event
chain zero parent place = []
chain (suc n) parent place = asks 0 (Call.Create DIR parent) ∷ chain n place (suc place)

-- the last of these, at place 15, has depth 15
pub deep : List Event
deep = administers 0 (Change.AddRight FILESYSTEM 0 0 CREATE) ∷ chain 15 0 1

-- a claim for process 0 and type 0, with every T empty
pub claim : ℕ → ℕ → List ℕ
claim s q = 0 ∷ 0 ∷ s ∷ q ∷ replicate 256 0

-- what a query and a claim are answered
pub of_query : Found → List ℕ
of_query e = e.number ∷ e.value ∷ e.climbed ∷ e.place ∷ []

pub of_claim : Verdict → List ℕ
of_claim v = v.number ∷ v.rule ∷ []

-- a1 to a10: what each comes to
pub a1-to-a10 : (
    numbers fresh (asks 0 (Call.Access FILESYSTEM 0 READ) ∷ [])
    ∷ numbers fresh (administers 0 (Change.AddRight FILESYSTEM 1 2 WRITE) ∷ [])
    ∷ shown (after fresh evening) 1
    ∷ shown (after fresh evening) 2
    ∷ shown (after fresh (evening ++ morning)) 2
    ∷ shown (after fresh (evening ++ morning)) 3
    ∷ shown (after fresh (evening ++ morning)) 4
    ∷ of_query (query (after fresh deep) FILE-TYPE 15)
    ∷ numbers fresh (asks 0 Call.Exit ∷ [])
    ∷ of_claim (check fresh (claim 0 0))
    ∷ of_claim (check fresh (claim 1 1))
    ∷ [])
    ≡ (5 ∷ [])
    ∷ (0 ∷ [])
    ∷ (7 ∷ 5 ∷ 36 ∷ [])
    ∷ (9 ∷ 5 ∷ 9 ∷ [])
    ∷ (9 ∷ 5 ∷ 9 ∷ [])
    ∷ (4 ∷ 6 ∷ 34 ∷ [])
    ∷ (8 ∷ 5 ∷ 34 ∷ [])
    ∷ (0 ∷ 0 ∷ 15 ∷ 0 ∷ [])
    ∷ (6 ∷ [])
    ∷ (9 ∷ 1 ∷ [])
    ∷ (9 ∷ 2 ∷ [])
    ∷ []
unfolding check claim_no query query_no
a1-to-a10 = simp computing (unfold acted answered judged climb effective fresh evening morning setup executes shown deep chain claim of_query of_claim in refl)

-- ---- readings that go wrong: taking the execute type from the role after is a3, counting only the roles of S in C6 is in Confined

-- copying a forced value only if it sets the role: with initial 7 and forced 9, execute gives role 7, and the next owner change gives 9
pub starting : List Event
starting =
    administers 0 (Change.AddRight FILESYSTEM 0 0 CREATE)
    ∷ administers 0 (Change.AddRight FILESYSTEM 0 0 EXECUTE)
    ∷ administers 0 (Change.AddRight PROCESS 7 0 CHANGE-OWNER)
    ∷ asks 0 (Call.Create FILE 0)
    ∷ administers 0 (Change.SetProgramRoles 1 7 9)
    ∷ asks 0 (Call.Execute 1)
    ∷ []

pub handing : List Event
handing = asks 0 (Call.ChangeOwner 1) ∷ []

pub a-forced-value-is-always-copied :
    (process_at (after fresh starting) 0).role ∷ (process_at (after fresh (starting ++ handing)) 0).role ∷ [] ≡ 7 ∷ 9 ∷ []
a-forced-value-is-always-copied = simp computing (unfold acted fresh starting handing in refl)

-- stopping a climb at a parent with a plain initial role when the forced value was asked: file 2 has a type 5 of its own, initial 7 of its parent and
-- forced 9 of the root; place 3 is free
pub inheriting : List Event
inheriting =
    administers 0 (Change.AddRight FILESYSTEM 0 0 CREATE)
    ∷ administers 0 (Change.SetProgramRoles 0 INHERIT-PARENT 9)
    ∷ asks 0 (Call.Create DIR 0)
    ∷ administers 0 (Change.SetProgramRoles 1 7 INHERIT-PARENT)
    ∷ asks 0 (Call.Create FILE 1)
    ∷ administers 0 (Change.SetType FILESYSTEM 2 5)
    ∷ []

pub each-value-climbs-by-itself :
    of_query (query (after fresh inheriting) FILE-TYPE 2)
    ∷ of_query (query (after fresh inheriting) INITIAL 2)
    ∷ of_query (query (after fresh inheriting) FORCED 2)
    ∷ of_query (query (after fresh inheriting) FORCED 3)
    ∷ []
    ≡ (0 ∷ 5 ∷ 0 ∷ 2 ∷ []) ∷ (0 ∷ 7 ∷ 1 ∷ 1 ∷ []) ∷ (0 ∷ 9 ∷ 2 ∷ 0 ∷ []) ∷ (4 ∷ 0 ∷ 0 ∷ 0 ∷ []) ∷ []
unfolding query query_no
each-value-climbs-by-itself = simp computing (unfold inheriting in simp setting-values (unfold setting acted climb effective fresh of_query in refl))
