-- The ranges of values ("Tables"), and whether every number of a call is in its range (number 2).
-- Assumes nothing.
use Rattle.std.specs.Prelude.{ℕ, Bool, true, cond, ◌&&◌, ◌||◌, ltb, leb, eqb}
use Rattle.model.specs.declared.Call.{Call}
use Rattle.model.specs.declared.Change.{Change}
use Rattle.model.specs.Numbers.{GROUPS, PROCESSES, FILES, IPCS, ROLES, USERS, TYPES, RIGHTS, FILE, DIR, INHERIT-PARENT, USE-FORCED-ROLE, INHERIT-USER, UP-MIXED, USE-NEW-ROLE-DEF-CREATE, ADMIN, ROLE-SETS, DEFAULT-TYPES, PROCESS-CHOWN, IPC-CREATE, by_group, places}

-- ---- values

-- file type and create, process create and execute: 0 to 32
abbrev pub ok_type : ℕ → Bool
ok_type v = leb v INHERIT-PARENT

-- chown: 0 to 33
abbrev pub ok_chown : ℕ → Bool
ok_chown v = leb v USE-NEW-ROLE-DEF-CREATE

-- initial: 0 to 33
abbrev pub ok_initial : ℕ → Bool
ok_initial v = leb v USE-FORCED-ROLE

-- process forced: 0 to 31 and 34 to 36
abbrev pub ok_process_forced : ℕ → Bool
ok_process_forced v = ltb v ROLES || (leb INHERIT-USER v && leb v UP-MIXED)

-- file forced: the same with 32
abbrev pub ok_forced : ℕ → Bool
ok_forced v = leb v INHERIT-PARENT || (leb INHERIT-USER v && leb v UP-MIXED)

-- a role's default type: IPC create is plain, chown may be 33
abbrev pub ok_default : ℕ → ℕ → Bool
ok_default which v = cond (eqb which IPC-CREATE) (ltb v TYPES) (cond (eqb which PROCESS-CHOWN) (ok_chown v) (ok_type v))

-- an object's type: only a file's may be inherit parent
abbrev pub ok_type_in : ℕ → ℕ → Bool
ok_type_in g v = by_group g (ok_type v) (ltb v TYPES) (ltb v TYPES)

-- ---- the numbers of a call

-- which set, the role whose set it is, the member
abbrev pub ranged_member : ℕ → ℕ → ℕ → Bool
ranged_member s r member = ltb s ROLE-SETS && ltb r ROLES && ltb member ROLES

abbrev pub ranged_right : ℕ → ℕ → ℕ → ℕ → Bool
ranged_right g r k right = ltb g GROUPS && ltb r ROLES && ltb k TYPES && ltb right RIGHTS

abbrev pub ranged_change : Change → Bool
ranged_change (Change.AddRole s r member) = ranged_member s r member
ranged_change (Change.RemoveRole s r member) = ranged_member s r member
ranged_change (Change.SetUserRole u r) = ltb u USERS && ltb r ROLES
ranged_change (Change.SetProgramRoles f initial forced) = ltb f FILES && ok_initial initial && ok_forced forced
ranged_change (Change.SetProcessForced p v) = ltb p PROCESSES && ok_process_forced v
ranged_change (Change.SetDefaultType which r v) = ltb which DEFAULT-TYPES && ltb r ROLES && ok_default which v
ranged_change (Change.SetRoleAdmin r mark) = ltb r ROLES && leb mark 1
ranged_change (Change.SetType g o v) = ltb g GROUPS && ltb o (places g) && ok_type_in g v
ranged_change (Change.AddRight g r k right) = ranged_right g r k right
ranged_change (Change.RemoveRight g r k right) = ranged_right g r k right

-- access asks for no special right
abbrev pub ranged : Call → Bool
ranged (Call.Access g o right) = ltb g GROUPS && ltb o (places g) && ltb right ADMIN
ranged Call.Clone = true
ranged Call.Exit = true
ranged (Call.Execute f) = ltb f FILES
ranged (Call.ChangeOwner u) = ltb u USERS
ranged (Call.ChangeRole r) = ltb r ROLES
ranged (Call.Create kind y) = (eqb kind FILE || eqb kind DIR) && ltb y FILES
ranged (Call.Delete o) = ltb o FILES
ranged Call.CreateIpc = true
ranged (Call.DeleteIpc i) = ltb i IPCS
ranged (Call.Administer change) = ranged_change change
