-- How a call is written as a kind and some numbers: the numbers that a kind takes come first, in the order given here, and the rest are 0.
-- Whatever else is written, a kind that is not among these or a number that is not taken and not 0, is unknown. Kinds 14 and 15 were calls until W-207,
-- and will not be given to others.
-- Assumes nothing.
use Rattle.std.specs.Prelude.{ℕ, Bool, cond, ◌||◌, List, ltb, eqb, Option, Some, None}
use Rattle.sets.specs.Below.{all_below}
use Rattle.model.specs.declared.Call.{Call}
use Rattle.model.specs.declared.Change.{Change}
use Rattle.model.specs.Words.{◌!◌}

abbrev pub CALL-ACCESS : ℕ
CALL-ACCESS = 1

abbrev pub CALL-CLONE : ℕ
CALL-CLONE = 2

abbrev pub CALL-EXIT : ℕ
CALL-EXIT = 3

abbrev pub CALL-EXECUTE : ℕ
CALL-EXECUTE = 4

abbrev pub CALL-CHANGE-OWNER : ℕ
CALL-CHANGE-OWNER = 5

abbrev pub CALL-CHANGE-ROLE : ℕ
CALL-CHANGE-ROLE = 6

abbrev pub CALL-CREATE : ℕ
CALL-CREATE = 7

abbrev pub CALL-DELETE : ℕ
CALL-DELETE = 8

abbrev pub CALL-CREATE-IPC : ℕ
CALL-CREATE-IPC = 9

abbrev pub CALL-DELETE-IPC : ℕ
CALL-DELETE-IPC = 10

abbrev pub CALL-ADD-ROLE : ℕ
CALL-ADD-ROLE = 11

abbrev pub CALL-REMOVE-ROLE : ℕ
CALL-REMOVE-ROLE = 12

abbrev pub CALL-SET-USER-ROLE : ℕ
CALL-SET-USER-ROLE = 13

abbrev pub CALL-SET-PROCESS-FORCED : ℕ
CALL-SET-PROCESS-FORCED = 16

abbrev pub CALL-SET-DEFAULT-TYPE : ℕ
CALL-SET-DEFAULT-TYPE = 17

abbrev pub CALL-SET-ROLE-ADMIN : ℕ
CALL-SET-ROLE-ADMIN = 18

abbrev pub CALL-SET-TYPE : ℕ
CALL-SET-TYPE = 19

abbrev pub CALL-ADD-RIGHT : ℕ
CALL-ADD-RIGHT = 20

abbrev pub CALL-REMOVE-RIGHT : ℕ
CALL-REMOVE-RIGHT = 21

abbrev pub CALL-SET-PROGRAM-ROLES : ℕ
CALL-SET-PROGRAM-ROLES = 22

-- how many numbers can be written beside a kind and a caller
abbrev pub NUMBERS : ℕ
NUMBERS = 5

-- the call, where all numbers but the first `count` are 0
unfoldable pub takes : ℕ → List ℕ → Call → Option Call
takes count n call = cond (all_below NUMBERS (λ i. ltb i count || eqb (n ! i) 0)) (Some call) None

infixr 20 ◌⇒◌∣◌
-- the first where the test holds, or else the rest
abbrev pub ◌⇒◌∣◌ : Bool → Option Call → Option Call → Option Call
ok ⇒ x ∣ rest = cond ok x rest

unfoldable pub decode_of : ℕ → List ℕ → Option Call
decode_of kind n =
    eqb kind CALL-ACCESS ⇒ takes 3 n (Call.Access (n ! 0) (n ! 1) (n ! 2)) ∣
    eqb kind CALL-CLONE ⇒ takes 0 n Call.Clone ∣
    eqb kind CALL-EXIT ⇒ takes 0 n Call.Exit ∣
    eqb kind CALL-EXECUTE ⇒ takes 1 n (Call.Execute (n ! 0)) ∣
    eqb kind CALL-CHANGE-OWNER ⇒ takes 1 n (Call.ChangeOwner (n ! 0)) ∣
    eqb kind CALL-CHANGE-ROLE ⇒ takes 1 n (Call.ChangeRole (n ! 0)) ∣
    eqb kind CALL-CREATE ⇒ takes 2 n (Call.Create (n ! 0) (n ! 1)) ∣
    eqb kind CALL-DELETE ⇒ takes 1 n (Call.Delete (n ! 0)) ∣
    eqb kind CALL-CREATE-IPC ⇒ takes 0 n Call.CreateIpc ∣
    eqb kind CALL-DELETE-IPC ⇒ takes 1 n (Call.DeleteIpc (n ! 0)) ∣
    eqb kind CALL-ADD-ROLE ⇒ takes 3 n (Call.Administer (Change.AddRole (n ! 0) (n ! 1) (n ! 2))) ∣
    eqb kind CALL-REMOVE-ROLE ⇒ takes 3 n (Call.Administer (Change.RemoveRole (n ! 0) (n ! 1) (n ! 2))) ∣
    eqb kind CALL-SET-USER-ROLE ⇒ takes 2 n (Call.Administer (Change.SetUserRole (n ! 0) (n ! 1))) ∣
    eqb kind CALL-SET-PROCESS-FORCED ⇒ takes 2 n (Call.Administer (Change.SetProcessForced (n ! 0) (n ! 1))) ∣
    eqb kind CALL-SET-DEFAULT-TYPE ⇒ takes 3 n (Call.Administer (Change.SetDefaultType (n ! 0) (n ! 1) (n ! 2))) ∣
    eqb kind CALL-SET-ROLE-ADMIN ⇒ takes 2 n (Call.Administer (Change.SetRoleAdmin (n ! 0) (n ! 1))) ∣
    eqb kind CALL-SET-TYPE ⇒ takes 3 n (Call.Administer (Change.SetType (n ! 0) (n ! 1) (n ! 2))) ∣
    eqb kind CALL-ADD-RIGHT ⇒ takes 4 n (Call.Administer (Change.AddRight (n ! 0) (n ! 1) (n ! 2) (n ! 3))) ∣
    eqb kind CALL-REMOVE-RIGHT ⇒ takes 4 n (Call.Administer (Change.RemoveRight (n ! 0) (n ! 1) (n ! 2) (n ! 3))) ∣
    eqb kind CALL-SET-PROGRAM-ROLES ⇒ takes 3 n (Call.Administer (Change.SetProgramRoles (n ! 0) (n ! 1) (n ! 2))) ∣
    None
