-- The tables ("Tables"): a record as the words that it is kept in, and the places of each group's objects.
-- Assumes nothing.
use Rattle.std.specs.Prelude.{ℕ, ◌+◌, Bool, true, false, cond, not, List, [], ◌∷◌, ltb, eqb}
use Rattle.sets.specs.Below.{first_below}
use Rattle.sets.specs.Sets.{has}
use Rattle.sets.specs.declared.RoleSet.{RoleSet}
use Rattle.model.specs.declared.Kind.{Kind}
use Rattle.model.specs.declared.Initial.{Initial}
use Rattle.model.specs.declared.Forced.{Forced}
use Rattle.model.specs.declared.Process.{Process}
use Rattle.model.specs.declared.File.{File}
use Rattle.model.specs.declared.Ipc.{Ipc}
use Rattle.model.specs.declared.Role.{Role}
use Rattle.model.specs.Numbers.{FREE, FILE, DIR, ROLES, by_group, places, INHERIT-PARENT, USE-FORCED-ROLE, INHERIT-USER, INHERIT-PROCESS, UP-MIXED, COMPATIBLE-ROLES, ADMIN-ROLES, ASSIGN-ROLES, FILE-CREATE, PROCESS-CREATE, PROCESS-EXECUTE, PROCESS-CHOWN, IPC-CREATE}
use Rattle.model.specs.Layout.{LIVE, OWNER, ROLE, PROCESS-TYPE, PROCESS-FORCED, PROCESS-WORDS, MARK, DEFAULTS, ROLE-WORDS, IPC-LIVE, IPC-TYPE, IPC-WORDS, process_addr, user_addr, role_addr, ipc_addr, file_addr, kept_addr, rights_addr}
use Rattle.model.specs.Words.{◌!◌, block, put}

-- ---- special cases as numbers, and numbers as special cases

abbrev pub flag : Bool → ℕ
flag true = 1
flag false = 0

abbrev pub kind_word : Kind → ℕ
kind_word Kind.Free = FREE
kind_word Kind.File = FILE
kind_word Kind.Dir = DIR

unfoldable pub kind_of : ℕ → Kind
kind_of w = cond (eqb w FREE) Kind.Free (cond (eqb w FILE) Kind.File Kind.Dir)

abbrev pub initial_word : Initial → ℕ
initial_word (Initial.Plain r) = r
initial_word Initial.InheritParent = INHERIT-PARENT
initial_word Initial.UseForcedRole = USE-FORCED-ROLE

unfoldable pub initial_of : ℕ → Initial
initial_of w = cond (ltb w ROLES) (Initial.Plain w) (cond (eqb w INHERIT-PARENT) Initial.InheritParent Initial.UseForcedRole)

abbrev pub forced_word : Forced → ℕ
forced_word (Forced.Plain r) = r
forced_word Forced.InheritParent = INHERIT-PARENT
forced_word Forced.InheritUser = INHERIT-USER
forced_word Forced.InheritProcess = INHERIT-PROCESS
forced_word Forced.UpMixed = UP-MIXED

unfoldable pub forced_of : ℕ → Forced
forced_of w =
    cond (ltb w ROLES) (Forced.Plain w)
    (cond (eqb w INHERIT-PARENT) Forced.InheritParent
    (cond (eqb w INHERIT-USER) Forced.InheritUser
    (cond (eqb w INHERIT-PROCESS) Forced.InheritProcess Forced.UpMixed)))

-- ---- processes

abbrev pub process_words : Process → List ℕ
process_words r = flag r.live ∷ r.owner ∷ r.role ∷ r.rctype ∷ forced_word r.forced ∷ []

abbrev pub process_of : List ℕ → Process
process_of w = record { live = eqb (w ! LIVE) 1; owner = w ! OWNER; role = w ! ROLE; rctype = w ! PROCESS-TYPE; forced = forced_of (w ! PROCESS-FORCED) }

unfoldable pub process_at : List ℕ → ℕ → Process
process_at t p = process_of (block t (process_addr p) PROCESS-WORDS)

unfoldable pub put_process : List ℕ → ℕ → Process → List ℕ
put_process t p r = put t (process_addr p) (process_words r)

abbrev pub free_process : Process
free_process = record { live = false; owner = 0; role = 0; rctype = 0; forced = Forced.Plain 0 }

-- ---- files

abbrev pub file_words : File → List ℕ
file_words f = kind_word f.kind ∷ f.parent ∷ f.depth ∷ f.rctype ∷ initial_word f.initial ∷ forced_word f.forced ∷ []

unfoldable pub put_file : List ℕ → ℕ → File → List ℕ
put_file t o f = put t (file_addr o) (file_words f)

abbrev pub free_file : File
free_file = record { kind = Kind.Free; parent = 0; depth = 0; rctype = 0; initial = Initial.Plain 0; forced = Forced.Plain 0 }

-- one word of a file, by its name in the layout
unfoldable pub file_word : List ℕ → ℕ → ℕ → ℕ
file_word t o k = t ! (file_addr o + k)

-- value k kept beside a file: its effective type, initial or forced value
unfoldable pub kept_at : List ℕ → ℕ → ℕ → ℕ
kept_at t k o = t ! (kept_addr o + k)

-- ---- IPC objects

abbrev pub ipc_words : Ipc → List ℕ
ipc_words i = flag i.live ∷ i.rctype ∷ []

abbrev pub ipc_of : List ℕ → Ipc
ipc_of w = record { live = eqb (w ! IPC-LIVE) 1; rctype = w ! IPC-TYPE }

unfoldable pub ipc_at : List ℕ → ℕ → Ipc
ipc_at t i = ipc_of (block t (ipc_addr i) IPC-WORDS)

unfoldable pub put_ipc : List ℕ → ℕ → Ipc → List ℕ
put_ipc t i r = put t (ipc_addr i) (ipc_words r)

abbrev pub free_ipc : Ipc
free_ipc = record { live = false; rctype = 0 }

-- ---- roles, users, rights

abbrev pub set_of : ℕ → RoleSet
set_of w = record { bits = w }

abbrev pub role_words : Role → List ℕ
role_words r =
    r.compatible.bits ∷ r.admin.bits ∷ r.assign.bits ∷ flag r.mark ∷
    r.filecreate ∷ r.processcreate ∷ r.execute ∷ r.chown ∷ r.ipccreate ∷ []

abbrev pub role_of : List ℕ → Role
role_of w =
    record {
      compatible = set_of (w ! COMPATIBLE-ROLES);
      admin = set_of (w ! ADMIN-ROLES);
      assign = set_of (w ! ASSIGN-ROLES);
      mark = eqb (w ! MARK) 1;
      filecreate = w ! (DEFAULTS + FILE-CREATE);
      processcreate = w ! (DEFAULTS + PROCESS-CREATE);
      execute = w ! (DEFAULTS + PROCESS-EXECUTE);
      chown = w ! (DEFAULTS + PROCESS-CHOWN);
      ipccreate = w ! (DEFAULTS + IPC-CREATE);
    }

unfoldable pub role_at : List ℕ → ℕ → Role
role_at t r = role_of (block t (role_addr r) ROLE-WORDS)

-- a user's default role
unfoldable pub user_role : List ℕ → ℕ → ℕ
user_role t u = t ! user_addr u

-- rule 16: role r is compatible with type k of group g for a right
unfoldable pub has_right : List ℕ → ℕ → ℕ → ℕ → ℕ → Bool
has_right t g r k right = has (t ! rights_addr g r k) right

-- ---- the places of a group's objects

abbrev pub place_addr : ℕ → ℕ → ℕ
place_addr g p = by_group g (file_addr p) (process_addr p) (ipc_addr p)

-- a place's first word, its live mark or its kind, is 0 where the place is free
unfoldable pub occupied : List ℕ → ℕ → ℕ → Bool
occupied t g p = not (eqb (t ! place_addr g p) 0)

-- the lowest free place; one past the last where there is none
unfoldable pub free_place : List ℕ → ℕ → ℕ
free_place t g = first_below (places g) (λ p. not (occupied t g p))
