-- The numbers that stand for things ("Tables"), and how the first refusal that applies is found ("Nine numbers").
-- Assumes nothing.
use Rattle.std.specs.Prelude.{ℕ, zero, suc, Bool, cond, not, ◌&&◌, ◌||◌, eqb, ltb}

-- ---- how many there are of each

abbrev pub GROUPS : ℕ
GROUPS = 3

abbrev pub ROLES : ℕ
ROLES = 32

abbrev pub USERS : ℕ
USERS = 32

abbrev pub TYPES : ℕ
TYPES = 32

abbrev pub PROCESSES : ℕ
PROCESSES = 64

abbrev pub FILES : ℕ
FILES = 256

abbrev pub IPCS : ℕ
IPCS = 64

-- depths are 0 to 15
abbrev pub DEEPEST : ℕ
DEEPEST = 15

abbrev pub DEPTHS : ℕ
DEPTHS = 16

-- ---- the three groups of types

abbrev pub FILESYSTEM : ℕ
FILESYSTEM = 0

abbrev pub PROCESS : ℕ
PROCESS = 1

abbrev pub IPC : ℕ
IPC = 2

-- one of three, by the group
abbrev pub by_group : {A : Type 0} → ℕ → A → A → A → A
by_group g file process ipc = cond (eqb g FILESYSTEM) file (cond (eqb g PROCESS) process ipc)

-- how many places the objects of a group have
abbrev pub places : ℕ → ℕ
places g = by_group g FILES PROCESSES IPCS

-- ---- kinds of a file place

abbrev pub FREE : ℕ
FREE = 0

abbrev pub FILE : ℕ
FILE = 1

abbrev pub DIR : ℕ
DIR = 2

-- ---- special role values and type values; 0 to 31 are plain

abbrev pub INHERIT-PARENT : ℕ
INHERIT-PARENT = 32

abbrev pub USE-FORCED-ROLE : ℕ
USE-FORCED-ROLE = 33

abbrev pub INHERIT-USER : ℕ
INHERIT-USER = 34

abbrev pub INHERIT-PROCESS : ℕ
INHERIT-PROCESS = 35

abbrev pub UP-MIXED : ℕ
UP-MIXED = 36

abbrev pub USE-NEW-ROLE-DEF-CREATE : ℕ
USE-NEW-ROLE-DEF-CREATE = 33

-- ---- rights; 8 to 27 are spare, the last four are the special rights

abbrev pub READ : ℕ
READ = 0

abbrev pub WRITE : ℕ
WRITE = 1

abbrev pub EXECUTE : ℕ
EXECUTE = 2

abbrev pub CREATE : ℕ
CREATE = 3

abbrev pub DELETE : ℕ
DELETE = 4

abbrev pub CHANGE-OWNER : ℕ
CHANGE-OWNER = 5

abbrev pub CLONE : ℕ
CLONE = 6

abbrev pub MODIFY-ATTRIBUTE : ℕ
MODIFY-ATTRIBUTE = 7

abbrev pub ADMIN : ℕ
ADMIN = 28

abbrev pub ASSIGN : ℕ
ASSIGN = 29

abbrev pub ACCESS-CONTROL : ℕ
ACCESS-CONTROL = 30

abbrev pub SUPERVISOR : ℕ
SUPERVISOR = 31

abbrev pub RIGHTS : ℕ
RIGHTS = 32

-- ---- which of a role's three sets, which of its five default types

abbrev pub COMPATIBLE-ROLES : ℕ
COMPATIBLE-ROLES = 0

abbrev pub ADMIN-ROLES : ℕ
ADMIN-ROLES = 1

abbrev pub ASSIGN-ROLES : ℕ
ASSIGN-ROLES = 2

abbrev pub ROLE-SETS : ℕ
ROLE-SETS = 3

abbrev pub FILE-CREATE : ℕ
FILE-CREATE = 0

abbrev pub PROCESS-CREATE : ℕ
PROCESS-CREATE = 1

abbrev pub PROCESS-EXECUTE : ℕ
PROCESS-EXECUTE = 2

abbrev pub PROCESS-CHOWN : ℕ
PROCESS-CHOWN = 3

abbrev pub IPC-CREATE : ℕ
IPC-CREATE = 4

abbrev pub DEFAULT-TYPES : ℕ
DEFAULT-TYPES = 5

-- ---- the places that are never removed, and what inherit parent reads as at the root

abbrev pub FIRST-PROCESS : ℕ
FIRST-PROCESS = 0

abbrev pub ROOT : ℕ
ROOT = 0

abbrev pub is_first : ℕ → Bool
is_first p = eqb p FIRST-PROCESS

abbrev pub is_root : ℕ → Bool
is_root o = eqb o ROOT

abbrev pub ROOT-TYPE : ℕ
ROOT-TYPE = 0

abbrev pub ROOT-INITIAL : ℕ
ROOT-INITIAL = USE-FORCED-ROLE

abbrev pub ROOT-FORCED : ℕ
ROOT-FORCED = UP-MIXED

-- ---- the first refusal that applies; 0 where none does

infixl 40 ◌unless◌
infixr 30 ◌▹◌
-- n where the test fails
abbrev pub ◌unless◌ : ℕ → Bool → ℕ
n unless ok = cond ok 0 n

-- the first number, and the second where the first is 0
abbrev pub ◌▹◌ : ℕ → ℕ → ℕ
zero ▹ m = m
suc n ▹ m = suc n

-- of two numbers that were found apart, the lower, where 0 is none
unfoldable pub lower : ℕ → ℕ → ℕ
lower n m = cond (eqb n 0 || (not (eqb m 0) && ltb m n)) m n
