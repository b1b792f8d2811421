-- Well formed ("Tables", last paragraph but one), as a test that computes.
-- Assumes nothing.
use Rattle.std.specs.Prelude.{ℕ, ◌+◌, Bool, cond, ◌&&◌, List, length, ltb, leb, eqb}
use Rattle.sets.specs.Below.{all_below}
use Rattle.model.specs.Numbers.{FILESYSTEM, PROCESS, PROCESSES, FILES, IPCS, ROLES, USERS, TYPES, FREE, DIR, DEEPEST, FILE-CREATE, PROCESS-CREATE, PROCESS-EXECUTE, PROCESS-CHOWN, IPC-CREATE, FIRST-PROCESS, ROOT, is_root}
use Rattle.model.specs.Layout.{LIVE, OWNER, ROLE, PROCESS-TYPE, PROCESS-FORCED, PROCESS-WORDS, MARK, DEFAULTS, ROLE-WORDS, IPC-LIVE, IPC-TYPE, IPC-WORDS, KIND, PARENT, DEPTH, FILE-TYPE, INITIAL, FORCED, FILE-WORDS, KEPT-WORDS, process_addr, user_addr, role_addr, ipc_addr, file_addr, row_length}
use Rattle.model.specs.Words.{◌!◌, block}
use Rattle.model.specs.Ranges.{ok_type, ok_initial, ok_forced, ok_process_forced, ok_default}
use Rattle.model.specs.Records.{kept_at, occupied}
use Rattle.model.specs.Effective.{value_at}

-- ---- the words of a record: those of a free place are zeros only

abbrev pub process_words_ok : List ℕ → Bool
process_words_ok w =
    cond (eqb (w ! LIVE) 0)
    (eqb (w ! OWNER) 0 && eqb (w ! ROLE) 0 && eqb (w ! PROCESS-TYPE) 0 && eqb (w ! PROCESS-FORCED) 0)
    (eqb (w ! LIVE) 1
    && ltb (w ! OWNER) USERS
    && ltb (w ! ROLE) ROLES
    && ltb (w ! PROCESS-TYPE) TYPES
    && ok_process_forced (w ! PROCESS-FORCED))

abbrev pub ipc_words_ok : List ℕ → Bool
ipc_words_ok w = cond (eqb (w ! IPC-LIVE) 0) (eqb (w ! IPC-TYPE) 0) (eqb (w ! IPC-LIVE) 1 && ltb (w ! IPC-TYPE) TYPES)

-- a set may be any
abbrev pub role_words_ok : List ℕ → Bool
role_words_ok w =
    leb (w ! MARK) 1
    && ok_default FILE-CREATE (w ! (DEFAULTS + FILE-CREATE))
    && ok_default PROCESS-CREATE (w ! (DEFAULTS + PROCESS-CREATE))
    && ok_default PROCESS-EXECUTE (w ! (DEFAULTS + PROCESS-EXECUTE))
    && ok_default PROCESS-CHOWN (w ! (DEFAULTS + PROCESS-CHOWN))
    && ok_default IPC-CREATE (w ! (DEFAULTS + IPC-CREATE))

-- the root is a DIR with itself as parent and depth 0; any other file has an occupied DIR as parent and a depth one above it
abbrev pub link_ok : ℕ → List ℕ → List ℕ → Bool
link_ok o w parent =
    cond (is_root o)
    (eqb (w ! KIND) DIR && eqb (w ! PARENT) ROOT && eqb (w ! DEPTH) 0)
    (ltb (w ! PARENT) FILES
    && eqb (parent ! KIND) DIR
    && eqb (w ! DEPTH) (parent ! DEPTH + 1)
    && leb (w ! DEPTH) DEEPEST)

-- the words of the place o, and those of its parent
abbrev pub file_words_ok : ℕ → List ℕ → List ℕ → Bool
file_words_ok o w parent =
    cond (eqb (w ! KIND) FREE)
    (eqb (w ! PARENT) 0 && eqb (w ! DEPTH) 0 && eqb (w ! FILE-TYPE) 0 && eqb (w ! INITIAL) 0 && eqb (w ! FORCED) 0)
    (leb (w ! KIND) DIR && ok_type (w ! FILE-TYPE) && ok_initial (w ! INITIAL) && ok_forced (w ! FORCED) && link_ok o w parent)

-- ---- the tables

unfoldable pub process_ok : List ℕ → ℕ → Bool
process_ok t p = process_words_ok (block t (process_addr p) PROCESS-WORDS)

unfoldable pub user_ok : List ℕ → ℕ → Bool
user_ok t u = ltb (t ! user_addr u) ROLES

unfoldable pub role_ok : List ℕ → ℕ → Bool
role_ok t r = role_words_ok (block t (role_addr r) ROLE-WORDS)

unfoldable pub ipc_ok : List ℕ → ℕ → Bool
ipc_ok t i = ipc_words_ok (block t (ipc_addr i) IPC-WORDS)

unfoldable pub file_ok : List ℕ → ℕ → Bool
file_ok t o =
    file_words_ok o (block t (file_addr o) FILE-WORDS) (block t (file_addr (block t (file_addr o) FILE-WORDS ! PARENT)) FILE-WORDS)

-- W-206: each value kept for a file place is the climb's; the words of a free place are zeros, so that its kept ones are zeros too
unfoldable pub kept_ok : List ℕ → ℕ → Bool
kept_ok t o = all_below KEPT-WORDS (λ k. eqb (kept_at t k o) (value_at t (FILE-TYPE + k) o))

-- every table has its full length, every number is in its range, free places hold zeros, process 0 is live, the files are a tree, and what is
-- kept beside them is what the climb gives
unfoldable pub well_formed : List ℕ → Bool
well_formed t =
    eqb (length t) row_length
    && all_below PROCESSES (process_ok t)
    && all_below USERS (user_ok t)
    && all_below ROLES (role_ok t)
    && all_below IPCS (ipc_ok t)
    && all_below FILES (file_ok t)
    && all_below FILES (kept_ok t)
    && occupied t PROCESS FIRST-PROCESS
    && occupied t FILESYSTEM ROOT
