-- The tests that are made of a call, a query and a claim, each with the number that its failure gives, in the order in which they are made.
-- A call has tests 1 to 3 in common with all others; its own are numbered 4 to 8 ("Nine numbers").
-- Assumes nothing.
use Rattle.std.specs.Prelude.{ℕ, Bool, ◌&&◌, false, not, true, List, [], ◌∷◌, ◌≡◌, ◌⊎◌, eqb, ltb, length}
use Rattle.sets.specs.Sets.{has}
use Rattle.model.specs.declared.Call.{Call}
use Rattle.model.specs.declared.Change.{Change}
use Rattle.model.specs.Numbers.{ASSIGN, CHANGE-OWNER, CLONE, COMPATIBLE-ROLES, CREATE, DEEPEST, DELETE, DIR, EXECUTE, FILE, FILES, FILESYSTEM, IPC, IPCS, MODIFY-ATTRIBUTE, PROCESS, PROCESSES, TYPES, is_first}
use Rattle.model.specs.Layout.{DEPTH, KEPT-TYPE, KIND, claim_length}
use Rattle.model.specs.Ranges.{ranged}
use Rattle.model.specs.Records.{file_word, free_place, kept_at, occupied, process_at, user_role}
use Rattle.model.specs.WellFormed.{well_formed}
use Rattle.model.specs.KeptValues.{type_of}
use Rattle.model.specs.Calls.{may, own_role, removable}
use Rattle.model.specs.Administration.{assigned_type, may_admin, may_assign, passes, right_needed}
use Rattle.model.specs.Claims.{C1, C2, C3, C4, C5, C6, C7, C8, C9, process_in, type_in}

pub record Test : Type 0 where
  pub number : ℕ
  pub holds : Bool

infix 70 ◌if_not◌
-- number n is given where the test fails, and none before it does
abbrev pub ◌if_not◌ : ℕ → Bool → Test
n if_not test = record { number = n; holds = test }

-- every test of a list holds
abbrev pub Hold : List Test → Type 0
Hold [] = Unit
Hold (x ∷ rest) = (x.holds ≡ true) × Hold rest

-- n is the number of the first test of a list that fails
abbrev pub FirstFails : List Test → ℕ → Type 0
FirstFails [] n = ⊥
FirstFails (x ∷ rest) n = ((x.holds ≡ false) × (n ≡ x.number)) ⊎ ((x.holds ≡ true) × FirstFails rest n)

-- ---- administration calls: `passes` is the Role Admin mark, or the rule (H4)

-- rules 24, 25 and 30: one role of a role's set
abbrev member_tests : List ℕ → ℕ → ℕ → ℕ → ℕ → List Test
member_tests t c s r member = 5 if_not passes t c (eqb s COMPATIBLE-ROLES && may_assign t c member && may_admin t c r) ∷ []

-- rules 27, 28, 29 and 32: what is set of an object
abbrev modify_tests : List ℕ → ℕ → ℕ → ℕ → Bool → List Test
modify_tests t c g o rule = 4 if_not occupied t g o ∷ 5 if_not passes t c (rule && may t c g (type_of t g o) MODIFY-ATTRIBUTE) ∷ []

-- rules 33 and 34: one right
abbrev right_tests : List ℕ → ℕ → ℕ → ℕ → ℕ → ℕ → List Test
right_tests t c g r k right = 5 if_not passes t c (may t c g k (right_needed right) && may_admin t c r) ∷ []

-- rule 26 for a user's role, H9 for default types and the mark, rule 32 and H10 for an object's type
abbrev pub change_tests : List ℕ → ℕ → Change → List Test
change_tests t c (Change.AddRole s r member) = member_tests t c s r member
change_tests t c (Change.RemoveRole s r member) = member_tests t c s r member
change_tests t c (Change.SetUserRole u r) = 5 if_not passes t c (may_assign t c r && may_assign t c (user_role t u)) ∷ []
change_tests t c (Change.SetProgramRoles f initial forced) = modify_tests t c FILESYSTEM f (may_assign t c initial && may_assign t c forced)
change_tests t c (Change.SetProcessForced p v) = modify_tests t c PROCESS p (may_assign t c v)
change_tests t c (Change.SetDefaultType which r v) = 5 if_not (own_role t c).mark ∷ []
change_tests t c (Change.SetRoleAdmin r mark) = 5 if_not (own_role t c).mark ∷ []
change_tests t c (Change.SetType g o v) = modify_tests t c g o (may t c g (assigned_type t o v) ASSIGN)
change_tests t c (Change.AddRight g r k right) = right_tests t c g r k right
change_tests t c (Change.RemoveRight g r k right) = right_tests t c g r k right

-- ---- calls

abbrev pub own_tests : List ℕ → ℕ → Call → List Test
own_tests t c (Call.Access g o right) = 4 if_not occupied t g o ∷ 5 if_not may t c g (type_of t g o) right ∷ []
own_tests t c Call.Clone = 5 if_not may t c PROCESS (process_at t c).rctype CLONE ∷ 8 if_not ltb (free_place t PROCESS) PROCESSES ∷ []
own_tests t c Call.Exit = 6 if_not not (is_first c) ∷ []
own_tests t c (Call.Execute f) = 4 if_not eqb (file_word t f KIND) FILE ∷ 5 if_not may t c FILESYSTEM (kept_at t KEPT-TYPE f) EXECUTE ∷ []
own_tests t c (Call.ChangeOwner u) = 5 if_not may t c PROCESS (process_at t c).rctype CHANGE-OWNER ∷ []
own_tests t c (Call.ChangeRole r) = 5 if_not has (own_role t c).compatible.bits r ∷ []
own_tests t c (Call.Create kind y) =
    4 if_not eqb (file_word t y KIND) DIR
    ∷ 5 if_not may t c FILESYSTEM (kept_at t KEPT-TYPE y) CREATE
    ∷ 7 if_not ltb (file_word t y DEPTH) DEEPEST
    ∷ 8 if_not ltb (free_place t FILESYSTEM) FILES
    ∷ []
own_tests t c (Call.Delete o) =
    4 if_not occupied t FILESYSTEM o
    ∷ 5 if_not may t c FILESYSTEM (kept_at t KEPT-TYPE o) DELETE
    ∷ 6 if_not removable t o
    ∷ []
own_tests t c Call.CreateIpc = 5 if_not may t c IPC (own_role t c).ipccreate CREATE ∷ 8 if_not ltb (free_place t IPC) IPCS ∷ []
own_tests t c (Call.DeleteIpc i) = 4 if_not occupied t IPC i ∷ 5 if_not may t c IPC (type_of t IPC i) DELETE ∷ []
own_tests t c (Call.Administer change) = change_tests t c change

abbrev pub call_tests : List ℕ → ℕ → Call → List Test
call_tests t c call =
    1 if_not well_formed t ∷ 2 if_not (ltb c PROCESSES && ranged call) ∷ 3 if_not occupied t PROCESS c ∷ own_tests t c call

-- ---- queries and claims

abbrev pub query_tests : List ℕ → ℕ → List Test
query_tests t o = 1 if_not well_formed t ∷ 2 if_not ltb o FILES ∷ 4 if_not occupied t FILESYSTEM o ∷ []

-- before the rules are looked at
abbrev pub claim_tests : List ℕ → List ℕ → List Test
claim_tests t w =
    1 if_not (well_formed t && eqb (length w) claim_length)
    ∷ 2 if_not (ltb (process_in w) PROCESSES && ltb (type_in w) TYPES)
    ∷ 3 if_not occupied t PROCESS (process_in w)
    ∷ []

-- C1 to C9, where number 9 carries the number of the rule
abbrev pub rules : List ℕ → List ℕ → List Test
rules t w =
    1 if_not C1 t w
    ∷ 2 if_not C2 t w
    ∷ 3 if_not C3 t w
    ∷ 4 if_not C4 t w
    ∷ 5 if_not C5 t w
    ∷ 6 if_not C6 t w
    ∷ 7 if_not C7 t w
    ∷ 8 if_not C8 t w
    ∷ 9 if_not C9 t w
    ∷ []
