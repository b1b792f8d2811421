-- The process calls ("Process calls"), each by a live caller with numbers in range: the first of its tests 4 to 8 that fails, and the row that a
-- grant leaves. That the tables are well formed, the numbers in range and the caller live, 1 to 3, is tested before any of this (Step).
-- Assumes nothing.
use Rattle.std.specs.Prelude.{ℕ, ◌+◌, Bool, true, not, ◌&&◌, ◌||◌, List, ltb, eqb}
use Rattle.sets.specs.Below.{all_below}
use Rattle.sets.specs.Sets.{has}
use Rattle.model.specs.declared.Role.{Role}
use Rattle.model.specs.Numbers.{◌unless◌, ◌▹◌, FILESYSTEM, PROCESS, IPC, PROCESSES, FILES, IPCS, FILE, DIR, DEEPEST, EXECUTE, CREATE, DELETE, CHANGE-OWNER, CLONE, is_first, is_root}
use Rattle.model.specs.Layout.{KIND, PARENT, DEPTH, KEPT-TYPE, KEPT-INITIAL, KEPT-FORCED}
use Rattle.model.specs.Records.{process_at, put_process, free_process, put_file, free_file, file_word, kept_at, kind_of, initial_of, forced_of, put_ipc, free_ipc, role_at, user_role, has_right, occupied, free_place}
use Rattle.model.specs.KeptValues.{type_of, settled, unkept}
use Rattle.model.specs.Transitions.{cloned, executed, chown_role, chowned, with_role, created}

-- ---- the caller

-- own role: the caller's current role before the call
unfoldable pub own_role : List ℕ → ℕ → Role
own_role t c = role_at t (process_at t c).role

-- rule 16: own role has the right to type k of group g
unfoldable pub may : List ℕ → ℕ → ℕ → ℕ → ℕ → Bool
may t c g k right = has_right t g (process_at t c).role k right

-- rule 16 for the caller itself: own role has the right to own process type
abbrev pub may_self : List ℕ → ℕ → ℕ → Bool
may_self t c right = may t c PROCESS (process_at t c).rctype right

-- ---- access: that right to the effective type; no change

unfoldable pub access_no : List ℕ → ℕ → ℕ → ℕ → ℕ → ℕ
access_no t c g o right = 4 unless occupied t g o ▹ 5 unless may t c g (type_of t g o) right

-- ---- clone: CLONE to own process type; the child takes the lowest free place

unfoldable pub clone_no : List ℕ → ℕ → ℕ
clone_no t c = 5 unless may_self t c CLONE ▹ 8 unless ltb (free_place t PROCESS) PROCESSES

unfoldable pub clone_row : List ℕ → ℕ → List ℕ
clone_row t c = put_process t (free_place t PROCESS) (cloned (own_role t c) (process_at t c))

-- ---- exit: no right needed; the place becomes free

unfoldable pub exit_no : ℕ → ℕ
exit_no c = 6 unless not (is_first c)

unfoldable pub exit_row : List ℕ → ℕ → List ℕ
exit_row t c = put_process t c free_process

-- ---- execute a FILE: EXECUTE to its effective type

unfoldable pub execute_no : List ℕ → ℕ → ℕ → ℕ
execute_no t c f = 4 unless eqb (file_word t f KIND) FILE ▹ 5 unless may t c FILESYSTEM (kept_at t KEPT-TYPE f) EXECUTE

unfoldable pub execute_row : List ℕ → ℕ → ℕ → List ℕ
execute_row t c f =
    put_process t c
    (executed (own_role t c) (user_role t (process_at t c).owner) (initial_of (kept_at t KEPT-INITIAL f)) (forced_of (kept_at t KEPT-FORCED f)) (process_at t c))

-- ---- change owner to a user: CHANGE_OWNER to own process type

unfoldable pub change_owner_no : List ℕ → ℕ → ℕ
change_owner_no t c = 5 unless may_self t c CHANGE-OWNER

-- rule 22: the caller's role once u owns it
unfoldable pub role_under : List ℕ → ℕ → ℕ → ℕ
role_under t c u = chown_role (process_at t c).forced (user_role t u) (process_at t c).role

unfoldable pub change_owner_row : List ℕ → ℕ → ℕ → List ℕ
change_owner_row t c u =
    put_process t c (chowned (own_role t c) u (role_under t c u) (role_at t (role_under t c u)).processcreate (process_at t c))

-- ---- change role: rule 15, also for the present role

unfoldable pub change_role_no : List ℕ → ℕ → ℕ → ℕ
change_role_no t c r = 5 unless has (own_role t c).compatible.bits r

unfoldable pub change_role_row : List ℕ → ℕ → ℕ → List ℕ
change_role_row t c r = put_process t c (with_role r (process_at t c))

-- ---- create file or directory: CREATE to the effective type of the parent DIR; the lowest free place

unfoldable pub create_no : List ℕ → ℕ → ℕ → ℕ
create_no t c y =
    4 unless eqb (file_word t y KIND) DIR
    ▹ 5 unless may t c FILESYSTEM (kept_at t KEPT-TYPE y) CREATE
    ▹ 7 unless ltb (file_word t y DEPTH) DEEPEST
    ▹ 8 unless ltb (free_place t FILESYSTEM) FILES

unfoldable pub create_row : List ℕ → ℕ → ℕ → ℕ → List ℕ
create_row t c kind y =
    settled (put_file t (free_place t FILESYSTEM) (created (own_role t c) (kind_of kind) y (file_word t y DEPTH + 1))) (free_place t FILESYSTEM)

-- ---- delete file or directory: DELETE to its effective type; the place becomes free

-- place q holds no child of o: a root is nobody's child
unfoldable pub not_child : List ℕ → ℕ → ℕ → Bool
not_child t o q = is_root q || not (occupied t FILESYSTEM q) || not (eqb (file_word t q PARENT) o)

unfoldable pub childless : List ℕ → ℕ → Bool
childless t o = all_below FILES (not_child t o)

-- neither a root nor a DIR with children
unfoldable pub removable : List ℕ → ℕ → Bool
removable t o = not (is_root o) && (not (eqb (file_word t o KIND) DIR) || childless t o)

unfoldable pub delete_no : List ℕ → ℕ → ℕ → ℕ
delete_no t c o =
    4 unless occupied t FILESYSTEM o
    ▹ 5 unless may t c FILESYSTEM (kept_at t KEPT-TYPE o) DELETE
    ▹ 6 unless removable t o

unfoldable pub delete_row : List ℕ → ℕ → List ℕ
delete_row t o = unkept (put_file t o free_file) o

-- ---- create IPC: CREATE to own role's IPC create type, which the object gets (rule 14)

unfoldable pub create_ipc_no : List ℕ → ℕ → ℕ
create_ipc_no t c = 5 unless may t c IPC (own_role t c).ipccreate CREATE ▹ 8 unless ltb (free_place t IPC) IPCS

unfoldable pub create_ipc_row : List ℕ → ℕ → List ℕ
create_ipc_row t c = put_ipc t (free_place t IPC) (record { live = true; rctype = (own_role t c).ipccreate })

-- ---- delete IPC: DELETE to its type

unfoldable pub delete_ipc_no : List ℕ → ℕ → ℕ → ℕ
delete_ipc_no t c i = 4 unless occupied t IPC i ▹ 5 unless may t c IPC (type_of t IPC i) DELETE

unfoldable pub delete_ipc_row : List ℕ → ℕ → List ℕ
delete_ipc_row t i = put_ipc t i free_ipc
