-- What each granted call writes: one record, one word, or the two words of a program's roles, and nothing else (Promises); access writes nothing.
-- Beside that, which of the values kept for files it may move (W-206). And the place that it answers.
-- Assumes nothing.
use Rattle.std.specs.Prelude.{◌+◌, ◌*◌, ℕ, zero, suc, ◌<◌, ◌≤◌, List, [], ◌∷◌, Bool, false, true, ◌&&◌, ◌||◌, ◌≡◌, ◌⊎◌, eqb, length}
use Rattle.sets.specs.Sets.{added, removed}
use Rattle.model.specs.declared.Call.{Call}
use Rattle.model.specs.declared.Change.{Change}
use Rattle.model.specs.declared.File.{File}
use Rattle.model.specs.declared.Ipc.{Ipc}
use Rattle.model.specs.declared.Process.{Process}
use Rattle.model.specs.Numbers.{FILES, FILESYSTEM, INHERIT-PARENT, IPC, PROCESS}
use Rattle.model.specs.Layout.{DEFAULTS, DEPTH, FILE-TYPE, INITIAL, KEPT-AT, KEPT-FORCED, KEPT-INITIAL, KEPT-TYPE, KEPT-WORDS, MARK, PARENT, PROCESS-FORCED, file_addr, ipc_addr, process_addr, rights_addr, role_addr, user_addr}
use Rattle.model.specs.Words.{◌!◌, block}
use Rattle.model.specs.Records.{file_word, file_words, forced_of, free_file, free_ipc, free_place, free_process, initial_of, ipc_words, kept_at, kind_of, process_at, process_words, role_at, user_role}
use Rattle.model.specs.Transitions.{cloned, executed, chowned, with_role, created}
use Rattle.model.specs.Calls.{own_role, role_under}
use Rattle.model.specs.Administration.{type_addr}

-- the words that then stand at an address of the row, one after the other
pub record Write : Type 0 where
  pub at : ℕ
  pub words : List ℕ

-- address b is outside the n words at a
abbrev Outside : ℕ → ℕ → ℕ → Type 0
Outside b a n = (b < a) ⊎ (a + n ≤ b)

-- row u is row t with those words there, and every other word of every table as it was, but for what is kept beside the files
pub record Wrote (t u : List ℕ) (x : Write) : Type 0 where
  pub sized : length u ≡ length t
  pub there : block u x.at (length x.words) ≡ x.words
  pub others : (b : ℕ) → Outside b x.at (length x.words) → Outside b KEPT-AT (FILES * KEPT-WORDS) → u ! b ≡ t ! b

-- ---- call by call

abbrev no_words : Write
no_words = record { at = 0; words = [] }

abbrev one_word : ℕ → ℕ → Write
one_word at v = record { at = at; words = v ∷ [] }

abbrev process_record : ℕ → Process → Write
process_record p r = record { at = process_addr p; words = process_words r }

abbrev file_record : ℕ → File → Write
file_record o f = record { at = file_addr o; words = file_words f }

abbrev ipc_record : ℕ → Ipc → Write
ipc_record i r = record { at = ipc_addr i; words = ipc_words r }

-- one word of a set of roles or of rights, with a member added or removed
abbrev set_with : List ℕ → ℕ → ℕ → Write
set_with t at i = one_word at (added (t ! at) i)

abbrev set_without : List ℕ → ℕ → ℕ → Write
set_without t at i = one_word at (removed (t ! at) i)

abbrev pub change_writes : List ℕ → Change → Write
change_writes t (Change.AddRole s r member) = set_with t (role_addr r + s) member
change_writes t (Change.RemoveRole s r member) = set_without t (role_addr r + s) member
change_writes t (Change.SetUserRole u r) = one_word (user_addr u) r
change_writes t (Change.SetProgramRoles f initial forced) = record { at = file_addr f + INITIAL; words = initial ∷ forced ∷ [] }
change_writes t (Change.SetProcessForced p v) = one_word (process_addr p + PROCESS-FORCED) v
change_writes t (Change.SetDefaultType which r v) = one_word (role_addr r + (DEFAULTS + which)) v
change_writes t (Change.SetRoleAdmin r mark) = one_word (role_addr r + MARK) mark
change_writes t (Change.SetType g o v) = one_word (type_addr g o) v
change_writes t (Change.AddRight g r k right) = set_with t (rights_addr g r k) right
change_writes t (Change.RemoveRight g r k right) = set_without t (rights_addr g r k) right

-- what process c writes with a granted call
abbrev pub writes : List ℕ → ℕ → Call → Write
writes t c (Call.Access g o right) = no_words
writes t c Call.Clone = process_record (free_place t PROCESS) (cloned (own_role t c) (process_at t c))
writes t c Call.Exit = process_record c free_process
writes t c (Call.Execute f) =
    process_record c
    (executed (own_role t c) (user_role t (process_at t c).owner) (initial_of (kept_at t KEPT-INITIAL f)) (forced_of (kept_at t KEPT-FORCED f)) (process_at t c))
writes t c (Call.ChangeOwner u) =
    process_record c (chowned (own_role t c) u (role_under t c u) (role_at t (role_under t c u)).processcreate (process_at t c))
writes t c (Call.ChangeRole r) = process_record c (with_role r (process_at t c))
writes t c (Call.Create kind y) =
    file_record (free_place t FILESYSTEM) (created (own_role t c) (kind_of kind) y (file_word t y DEPTH + 1))
writes t c (Call.Delete o) = file_record o free_file
writes t c Call.CreateIpc = ipc_record (free_place t IPC) (record { live = true; rctype = (own_role t c).ipccreate })
writes t c (Call.DeleteIpc i) = ipc_record i free_ipc
writes t c (Call.Administer change) = change_writes t change

-- ---- which of the values kept beside the files a granted call may move

-- from file q, which has d parents, the climb for the word `slot` passes file o, or begins or ends there
abbrev pub climbs_past : ℕ → List ℕ → ℕ → ℕ → ℕ → Bool
climbs_past zero t slot o q = eqb q o
climbs_past (suc d) t slot o q = eqb q o || (eqb (file_word t q slot) INHERIT-PARENT && climbs_past d t slot o (file_word t q PARENT))

-- value k of file o was set: that of o itself, and of every file that inherits it, through files that inherit it too
abbrev inherits_from : List ℕ → ℕ → ℕ → ℕ → ℕ → Bool
inherits_from t k o j q = eqb j k && climbs_past (file_word t q DEPTH) t (FILE-TYPE + k) o q

abbrev pub change_moves : List ℕ → Change → ℕ → ℕ → Bool
change_moves t (Change.AddRole s r member) j q = false
change_moves t (Change.RemoveRole s r member) j q = false
change_moves t (Change.SetUserRole u r) j q = false
change_moves t (Change.SetProgramRoles f initial forced) j q = inherits_from t KEPT-INITIAL f j q || inherits_from t KEPT-FORCED f j q
change_moves t (Change.SetProcessForced p v) j q = false
change_moves t (Change.SetDefaultType which r v) j q = false
change_moves t (Change.SetRoleAdmin r mark) j q = false
change_moves t (Change.SetType g o v) j q = eqb g FILESYSTEM && inherits_from t KEPT-TYPE o j q
change_moves t (Change.AddRight g r k right) j q = false
change_moves t (Change.RemoveRight g r k right) j q = false

-- value j kept for file q: a creation or a removal may move that of its place, and a value that is set that of what inherits it
abbrev pub moves_kept : List ℕ → Call → ℕ → ℕ → Bool
moves_kept t (Call.Access g o right) j q = false
moves_kept t Call.Clone j q = false
moves_kept t Call.Exit j q = false
moves_kept t (Call.Execute f) j q = false
moves_kept t (Call.ChangeOwner u) j q = false
moves_kept t (Call.ChangeRole r) j q = false
moves_kept t (Call.Create kind y) j q = eqb q (free_place t FILESYSTEM)
moves_kept t (Call.Delete o) j q = eqb q o
moves_kept t Call.CreateIpc j q = false
moves_kept t (Call.DeleteIpc i) j q = false
moves_kept t (Call.Administer change) j q = change_moves t change j q

-- the place that a granted call takes, in the table of the group that it creates in
abbrev pub place_taken : List ℕ → Call → ℕ
place_taken t (Call.Access g o right) = 0
place_taken t Call.Clone = free_place t PROCESS
place_taken t Call.Exit = 0
place_taken t (Call.Execute f) = 0
place_taken t (Call.ChangeOwner u) = 0
place_taken t (Call.ChangeRole r) = 0
place_taken t (Call.Create kind y) = free_place t FILESYSTEM
place_taken t (Call.Delete o) = 0
place_taken t Call.CreateIpc = free_place t IPC
place_taken t (Call.DeleteIpc i) = 0
place_taken t (Call.Administer change) = 0
