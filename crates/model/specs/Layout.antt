-- The layout: what each word of a record is, where each table begins in the row, and what each word of a claim is. A table begins where the
-- one before it ends: small ones that are read often first.
-- Assumes nothing.
use Rattle.std.specs.Prelude.{ℕ, ◌+◌, ◌*◌}
use Rattle.model.specs.Numbers.{GROUPS, ROLES, USERS, TYPES, PROCESSES, FILES, IPCS, ROLE-SETS, DEFAULT-TYPES}

-- ---- the words of a process

abbrev pub LIVE : ℕ
LIVE = 0

abbrev pub OWNER : ℕ
OWNER = 1

abbrev pub ROLE : ℕ
ROLE = 2

abbrev pub PROCESS-TYPE : ℕ
PROCESS-TYPE = 3

abbrev pub PROCESS-FORCED : ℕ
PROCESS-FORCED = 4

abbrev pub PROCESS-WORDS : ℕ
PROCESS-WORDS = 5

-- ---- the words of a role: its sets, the Role Admin mark, its default types

abbrev pub MARK : ℕ
MARK = ROLE-SETS

abbrev pub DEFAULTS : ℕ
DEFAULTS = MARK + 1

abbrev pub ROLE-WORDS : ℕ
ROLE-WORDS = DEFAULTS + DEFAULT-TYPES

-- ---- the words of an IPC object

abbrev pub IPC-LIVE : ℕ
IPC-LIVE = 0

abbrev pub IPC-TYPE : ℕ
IPC-TYPE = 1

abbrev pub IPC-WORDS : ℕ
IPC-WORDS = 2

-- ---- the words of a file

abbrev pub KIND : ℕ
KIND = 0

abbrev pub PARENT : ℕ
PARENT = 1

abbrev pub DEPTH : ℕ
DEPTH = 2

abbrev pub FILE-TYPE : ℕ
FILE-TYPE = 3

abbrev pub INITIAL : ℕ
INITIAL = 4

abbrev pub FORCED : ℕ
FORCED = 5

abbrev pub FILE-WORDS : ℕ
FILE-WORDS = 6

-- ---- the words kept beside a file: its effective type, initial and forced value; word FILE-TYPE + k of the file is its own value k

abbrev pub KEPT-TYPE : ℕ
KEPT-TYPE = 0

abbrev pub KEPT-INITIAL : ℕ
KEPT-INITIAL = 1

abbrev pub KEPT-FORCED : ℕ
KEPT-FORCED = 2

abbrev pub KEPT-WORDS : ℕ
KEPT-WORDS = 3

-- ---- where each table begins

abbrev pub PROCESSES-AT : ℕ
PROCESSES-AT = 0

-- one word each, the default role
abbrev pub USERS-AT : ℕ
USERS-AT = PROCESSES-AT + PROCESSES * PROCESS-WORDS

abbrev pub ROLES-AT : ℕ
ROLES-AT = USERS-AT + USERS

abbrev pub IPCS-AT : ℕ
IPCS-AT = ROLES-AT + ROLES * ROLE-WORDS

abbrev pub FILES-AT : ℕ
FILES-AT = IPCS-AT + IPCS * IPC-WORDS

abbrev pub KEPT-AT : ℕ
KEPT-AT = FILES-AT + FILES * FILE-WORDS

-- one word for each group, role and type, a set of rights
abbrev pub RIGHTS-AT : ℕ
RIGHTS-AT = KEPT-AT + FILES * KEPT-WORDS

-- the full length of all tables
abbrev pub row_length : ℕ
row_length = RIGHTS-AT + GROUPS * (ROLES * TYPES)

-- ---- where a record, and a set of rights, begins

abbrev pub process_addr : ℕ → ℕ
process_addr p = PROCESSES-AT + p * PROCESS-WORDS

abbrev pub user_addr : ℕ → ℕ
user_addr u = USERS-AT + u

abbrev pub role_addr : ℕ → ℕ
role_addr r = ROLES-AT + r * ROLE-WORDS

abbrev pub ipc_addr : ℕ → ℕ
ipc_addr i = IPCS-AT + i * IPC-WORDS

abbrev pub file_addr : ℕ → ℕ
file_addr o = FILES-AT + o * FILE-WORDS

abbrev pub kept_addr : ℕ → ℕ
kept_addr o = KEPT-AT + o * KEPT-WORDS

abbrev pub rights_addr : ℕ → ℕ → ℕ → ℕ
rights_addr g r k = RIGHTS-AT + g * (ROLES * TYPES) + r * TYPES + k

-- ---- the words of a claim: a process, a filesystem type, the sets S and Q, and T(o) for each file place o

abbrev pub CLAIM-PROCESS : ℕ
CLAIM-PROCESS = 0

abbrev pub CLAIM-TYPE : ℕ
CLAIM-TYPE = 1

abbrev pub CLAIM-S : ℕ
CLAIM-S = 2

abbrev pub CLAIM-Q : ℕ
CLAIM-Q = 3

abbrev pub CLAIM-T : ℕ
CLAIM-T = 4

abbrev pub claim_length : ℕ
claim_length = CLAIM-T + FILES
