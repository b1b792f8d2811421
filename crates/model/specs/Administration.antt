-- The administration calls ("Administration calls"; rules 23 to 34, H4, H5 and H7 to H11). Each writes one word of the row, that for a program's roles
-- two; and where these are values of a file, what is kept beside the files goes with them. Adding what is there and removing what is not leaves the
-- word as it was (H11), since `added` and `removed` do.
-- Assumes nothing.
use Rattle.std.specs.Prelude.{ℕ, ◌+◌, Bool, true, false, cond, ◌&&◌, ◌||◌, List, [], ◌∷◌, ltb, eqb, set}
use Rattle.sets.specs.Sets.{has, added, removed}
use Rattle.model.specs.declared.Change.{Change}
use Rattle.model.specs.Numbers.{◌unless◌, ◌▹◌, FILESYSTEM, PROCESS, COMPATIBLE-ROLES, INHERIT-PARENT, MODIFY-ATTRIBUTE, ADMIN, ASSIGN, ACCESS-CONTROL, SUPERVISOR, ROOT-TYPE, is_root, by_group}
use Rattle.model.specs.Layout.{PROCESS-TYPE, PROCESS-FORCED, MARK, DEFAULTS, IPC-TYPE, PARENT, FILE-TYPE, INITIAL, KEPT-TYPE, KEPT-INITIAL, KEPT-FORCED, user_addr, role_addr, file_addr, process_addr, ipc_addr, rights_addr}
use Rattle.model.specs.Words.{◌!◌, put}
use Rattle.model.specs.Records.{file_word, kept_at, user_role, occupied}
use Rattle.model.specs.KeptValues.{type_of, revalued}
use Rattle.model.specs.Outcome.{Ruling, ruled}
use Rattle.model.specs.Calls.{own_role, may}

-- H4: a caller whose role is Role Admin passes every test of rules 23 to 34; others pass as the rule says
unfoldable pub passes : List ℕ → ℕ → Bool → Bool
passes t c rule = (own_role t c).mark || rule

-- own assign roles, own admin roles
abbrev pub may_assign : List ℕ → ℕ → ℕ → Bool
may_assign t c r = has (own_role t c).assign.bits r

abbrev pub may_admin : List ℕ → ℕ → ℕ → Bool
may_admin t c r = has (own_role t c).admin.bits r

-- one number of a set, added or removed
abbrev pub changed : Bool → ℕ → ℕ → ℕ
changed adding s i = cond adding (added s i) (removed s i)

-- ---- add or remove one role of a role's set: compatible roles by rule 25 (H5), admin and assign roles by Role Admin only (rules 24, 30)

unfoldable pub change_set_no : List ℕ → ℕ → ℕ → ℕ → ℕ → ℕ
change_set_no t c s r member = 5 unless passes t c (eqb s COMPATIBLE-ROLES && may_assign t c member && may_admin t c r)

unfoldable pub change_set_row : Bool → List ℕ → ℕ → ℕ → ℕ → List ℕ
change_set_row adding t s r member = set t (role_addr r + s) (changed adding (t ! (role_addr r + s)) member)

-- ---- set a user's default role (rule 26): the new role and the one before it are in own assign roles

unfoldable pub set_user_role_no : List ℕ → ℕ → ℕ → ℕ → ℕ
set_user_role_no t c u r = 5 unless passes t c (may_assign t c r && may_assign t c (user_role t u))

unfoldable pub set_user_role_row : List ℕ → ℕ → ℕ → List ℕ
set_user_role_row t u r = set t (user_addr u) r

-- ---- what is set of an object (rules 27, 28, 29 and 32): the object is there, own role has MODIFY_ATTRIBUTE to its type, and what else the rule asks holds

unfoldable pub modify_no : List ℕ → ℕ → ℕ → ℕ → Bool → ℕ
modify_no t c g o rule =
    4 unless occupied t g o
    ▹ 5 unless passes t c (rule && may t c g (type_of t g o) MODIFY-ATTRIBUTE)

-- ---- set a program's roles, the initial and the forced value of a file at once (rules 27 and 28, W-207): both are in own assign roles
-- A special value is in no role set, so where either is one only Role Admin sets them (H7). The two words lie side by side, and each is kept anew.

abbrev pub program_roles_no : List ℕ → ℕ → ℕ → ℕ → ℕ → ℕ
program_roles_no t c f initial forced = modify_no t c FILESYSTEM f (may_assign t c initial && may_assign t c forced)

unfoldable pub set_program_roles_row : List ℕ → ℕ → ℕ → ℕ → List ℕ
set_program_roles_row t f initial forced =
    revalued (revalued (put t (file_addr f + INITIAL) (initial ∷ forced ∷ [])) KEPT-INITIAL f) KEPT-FORCED f

-- ---- set the forced value of a process (rule 29, H7); its current role does not move (H8)

abbrev pub process_forced_no : List ℕ → ℕ → ℕ → ℕ → ℕ
process_forced_no t c p v = modify_no t c PROCESS p (may_assign t c v)

unfoldable pub set_process_forced_row : List ℕ → ℕ → ℕ → List ℕ
set_process_forced_row t p v = set t (process_addr p + PROCESS-FORCED) v

-- ---- set a default type, set the Role Admin mark: Role Admin only (H9)

unfoldable pub role_admin_no : List ℕ → ℕ → ℕ
role_admin_no t c = 5 unless passes t c false

unfoldable pub set_default_type_row : List ℕ → ℕ → ℕ → ℕ → List ℕ
set_default_type_row t which r v = set t (role_addr r + (DEFAULTS + which)) v

unfoldable pub set_role_admin_row : List ℕ → ℕ → ℕ → List ℕ
set_role_admin_row t r mark = set t (role_addr r + MARK) mark

-- ---- set an object's type (rule 32): ASSIGN to the new type

-- H10: the effective type that a file which inherits would have, at a root that of a root without a type
unfoldable pub inherited : List ℕ → ℕ → ℕ
inherited t o = cond (is_root o) ROOT-TYPE (kept_at t KEPT-TYPE (file_word t o PARENT))

unfoldable pub assigned_type : List ℕ → ℕ → ℕ → ℕ
assigned_type t o v = cond (eqb v INHERIT-PARENT) (inherited t o) v

abbrev pub set_type_no : List ℕ → ℕ → ℕ → ℕ → ℕ → ℕ
set_type_no t c g o v = modify_no t c g o (may t c g (assigned_type t o v) ASSIGN)

abbrev pub type_addr : ℕ → ℕ → ℕ
type_addr g o = by_group g (file_addr o + FILE-TYPE) (process_addr o + PROCESS-TYPE) (ipc_addr o + IPC-TYPE)

unfoldable pub set_type_row : List ℕ → ℕ → ℕ → ℕ → List ℕ
set_type_row t g o v = cond (eqb g FILESYSTEM) (revalued (set t (type_addr g o) v) KEPT-TYPE o) (set t (type_addr g o) v)

-- ---- add or remove one right for a group, role and type

-- what is asked to the type: rule 33 for the rights 0 to 27, rule 34 for the special rights
abbrev pub right_needed : ℕ → ℕ
right_needed right = cond (ltb right ADMIN) ACCESS-CONTROL SUPERVISOR

unfoldable pub change_right_no : List ℕ → ℕ → ℕ → ℕ → ℕ → ℕ → ℕ
change_right_no t c g r k right = 5 unless passes t c (may t c g k (right_needed right) && may_admin t c r)

unfoldable pub change_right_row : Bool → List ℕ → ℕ → ℕ → ℕ → ℕ → List ℕ
change_right_row adding t g r k right = set t (rights_addr g r k) (changed adding (t ! rights_addr g r k) right)

-- ---- what the rules say of each; none answers a place

unfoldable pub ruling_on : List ℕ → ℕ → Change → Ruling
ruling_on t c (Change.AddRole s r member) = ruled (change_set_no t c s r member) 0 (change_set_row true t s r member)
ruling_on t c (Change.RemoveRole s r member) = ruled (change_set_no t c s r member) 0 (change_set_row false t s r member)
ruling_on t c (Change.SetUserRole u r) = ruled (set_user_role_no t c u r) 0 (set_user_role_row t u r)
ruling_on t c (Change.SetProgramRoles f initial forced) = ruled (program_roles_no t c f initial forced) 0 (set_program_roles_row t f initial forced)
ruling_on t c (Change.SetProcessForced p v) = ruled (process_forced_no t c p v) 0 (set_process_forced_row t p v)
ruling_on t c (Change.SetDefaultType which r v) = ruled (role_admin_no t c) 0 (set_default_type_row t which r v)
ruling_on t c (Change.SetRoleAdmin r mark) = ruled (role_admin_no t c) 0 (set_role_admin_row t r mark)
ruling_on t c (Change.SetType g o v) = ruled (set_type_no t c g o v) 0 (set_type_row t g o v)
ruling_on t c (Change.AddRight g r k right) = ruled (change_right_no t c g r k right) 0 (change_right_row true t g r k right)
ruling_on t c (Change.RemoveRight g r k right) = ruled (change_right_no t c g r k right) 0 (change_right_row false t g r k right)
