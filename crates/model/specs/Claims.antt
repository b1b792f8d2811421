-- Claims ("Claims"): what a claim says, when an object is startable and a value carried, rules C1 to C9, the first rule broken.
-- Assumes nothing.
use Rattle.std.specs.Prelude.{ℕ, zero, suc, ◌+◌, Bool, cond, not, ◌&&◌, ◌||◌, List, length, ltb, leb, eqb}
use Rattle.sets.specs.Below.{all_below, some_below}
use Rattle.sets.specs.Sets.{has, inside}
use Rattle.model.specs.declared.Role.{Role}
use Rattle.model.specs.declared.Verdict.{Verdict}
use Rattle.model.specs.Numbers.{◌unless◌, ◌▹◌, GROUPS, FILESYSTEM, PROCESS, PROCESSES, FILES, ROLES, USERS, TYPES, DIR, INHERIT-USER, UP-MIXED, WRITE, EXECUTE, CREATE, DELETE, CHANGE-OWNER, ASSIGN}
use Rattle.model.specs.Words.{◌!◌}
use Rattle.model.specs.Layout.{KIND, KEPT-TYPE, KEPT-INITIAL, KEPT-FORCED, CLAIM-PROCESS, CLAIM-TYPE, CLAIM-S, CLAIM-Q, CLAIM-T, claim_length}
use Rattle.model.specs.Records.{process_at, forced_word, file_word, kept_at, role_at, user_role, has_right, occupied}
use Rattle.model.specs.WellFormed.{well_formed}

-- ---- a claim: a process, a filesystem type k, a role set S, a process type set Q, and a type set T(o) for each file place o

abbrev pub process_in : List ℕ → ℕ
process_in w = w ! CLAIM-PROCESS

abbrev pub type_in : List ℕ → ℕ
type_in w = w ! CLAIM-TYPE

abbrev pub S : List ℕ → ℕ
S w = w ! CLAIM-S

abbrev pub Q : List ℕ → ℕ
Q w = w ! CLAIM-Q

abbrev pub T : List ℕ → ℕ → ℕ
T w o = w ! (CLAIM-T + o)

-- ---- words that the rules use

-- a test of every role in S
abbrev pub every_role : List ℕ → (ℕ → Bool) → Bool
every_role w p = all_below ROLES (λ r. not (has (S w) r) || p r)

-- role r has the right to a type in the set s, in group g
unfoldable pub to_some : List ℕ → ℕ → ℕ → ℕ → ℕ → Bool
to_some t g r s right = some_below TYPES (λ k. has s k && has_right t g r k right)

-- a role in S has the right to a type in the set s
unfoldable pub some_role_to : List ℕ → List ℕ → ℕ → ℕ → ℕ → Bool
some_role_to t w g s right = some_below ROLES (λ r. has (S w) r && to_some t g r s right)

-- a plain value is in the set s; a special one need not be
abbrev pub plain_in : ℕ → ℕ → Bool
plain_in s v = leb ROLES v || has s v

-- object o is startable: a role in S has EXECUTE to a type in T(o)
unfoldable pub startable : List ℕ → List ℕ → ℕ → Bool
startable t w o = some_role_to t w FILESYSTEM (T w o) EXECUTE

-- the process's forced value
abbrev pub own_forced : List ℕ → List ℕ → ℕ
own_forced t w = forced_word (process_at t (process_in w)).forced

-- v is carried: it is the process's forced value, or the effective forced value of a startable object
unfoldable pub carried : List ℕ → List ℕ → ℕ → Bool
carried t w v = eqb (own_forced t w) v || some_below FILES (λ o. startable t w o && eqb (kept_at t KEPT-FORCED o) v)

-- ---- the rules

-- C1: the process's role is in S and its type in Q
unfoldable pub C1 : List ℕ → List ℕ → Bool
C1 t w = has (S w) (process_at t (process_in w)).role && has (Q w) (process_at t (process_in w)).rctype

-- no type of any group to which role r has ASSIGN
unfoldable pub assigns_nothing : List ℕ → ℕ → Bool
assigns_nothing t r = all_below GROUPS (λ g. all_below TYPES (λ k. not (has_right t g r k ASSIGN)))

-- C2 of role r: it is not Role Admin, has no admin or assign role, and no ASSIGN
unfoldable pub powerless : List ℕ → ℕ → Bool
powerless t r =
    not (role_at t r).mark && eqb (role_at t r).admin.bits 0 && eqb (role_at t r).assign.bits 0 && assigns_nothing t r

-- C2: no role in S is Role Admin, has an admin or assign role, or has ASSIGN to any type of any group
unfoldable pub C2 : List ℕ → List ℕ → Bool
C2 t w = every_role w (powerless t)

-- C3 of role r: it has no right that changes an object of type k, and creates none
unfoldable pub spares : List ℕ → ℕ → ℕ → Bool
spares t k r =
    not (has_right t FILESYSTEM r k WRITE)
    && not (has_right t FILESYSTEM r k CREATE)
    && not (has_right t FILESYSTEM r k DELETE)
    && not (eqb (role_at t r).filecreate k)

-- C3: no role in S has WRITE, CREATE or DELETE to k, or file create type k
unfoldable pub C3 : List ℕ → List ℕ → Bool
C3 t w = every_role w (spares t (type_in w))

-- C4: compatible roles of S are in S
unfoldable pub C4 : List ℕ → List ℕ → Bool
C4 t w = every_role w (λ r. inside (role_at t r).compatible.bits (S w))

-- C5 of a role: its plain process create, execute and chown types are in q
abbrev pub stays_in : ℕ → Role → Bool
stays_in q r = plain_in q r.processcreate && plain_in q r.execute && plain_in q r.chown

-- C5: plain process create, execute and chown types of roles in S are in Q
unfoldable pub C5 : List ℕ → List ℕ → Bool
C5 t w = every_role w (λ r. stays_in (Q w) (role_at t r))

-- C6 for a DIR o and each of all 32 roles: with CREATE to a type in T(o), the role's plain file create type is in T(o)
unfoldable pub creates_inside : List ℕ → List ℕ → ℕ → Bool
creates_inside t w o =
    all_below ROLES (λ r. not (to_some t FILESYSTEM r (T w o) CREATE) || plain_in (T w o) (role_at t r).filecreate)

-- C6 for the place o: T of a free place is empty; T(o) holds o's effective type; a DIR holds what is created in it
unfoldable pub holds : List ℕ → List ℕ → ℕ → Bool
holds t w o =
    cond (occupied t FILESYSTEM o)
    (has (T w o) (kept_at t KEPT-TYPE o) && (not (eqb (file_word t o KIND) DIR) || creates_inside t w o))
    (eqb (T w o) 0)

-- C6
unfoldable pub C6 : List ℕ → List ℕ → Bool
C6 t w = all_below FILES (holds t w)

-- C7 for the place o, where it is startable: its plain effective initial and forced values are in S
unfoldable pub starts : List ℕ → List ℕ → ℕ → Bool
starts t w o =
    not (startable t w o) || (plain_in (S w) (kept_at t KEPT-INITIAL o) && plain_in (S w) (kept_at t KEPT-FORCED o))

-- C7: a plain effective initial role of a startable object is in S, and so is each plain carried value
unfoldable pub C7 : List ℕ → List ℕ → Bool
C7 t w = plain_in (S w) (own_forced t w) && all_below FILES (starts t w)

-- C8: if inherit user is carried, the default role of the process's owner is in S
unfoldable pub C8 : List ℕ → List ℕ → Bool
C8 t w = not (carried t w INHERIT-USER) || has (S w) (user_role t (process_at t (process_in w)).owner)

-- C9: if a role in S has CHANGE_OWNER to a type in Q, and inherit user or up mixed is carried, every user's default role is in S
unfoldable pub C9 : List ℕ → List ℕ → Bool
C9 t w =
    not (some_role_to t w PROCESS (Q w) CHANGE-OWNER && (carried t w INHERIT-USER || carried t w UP-MIXED))
    || all_below USERS (λ u. has (S w) (user_role t u))

-- ---- the checker

-- the first rule broken, 0 where none is
unfoldable pub broken : List ℕ → List ℕ → ℕ
broken t w =
    1 unless C1 t w
    ▹ 2 unless C2 t w
    ▹ 3 unless C3 t w
    ▹ 4 unless C4 t w
    ▹ 5 unless C5 t w
    ▹ 6 unless C6 t w
    ▹ 7 unless C7 t w
    ▹ 8 unless C8 t w
    ▹ 9 unless C9 t w

-- numbers 1, 2 and 3 of a claim: 3 speaks of its process
unfoldable pub claim_no : List ℕ → List ℕ → ℕ
claim_no t w =
    1 unless (well_formed t && eqb (length w) claim_length)
    ▹ 2 unless (ltb (process_in w) PROCESSES && ltb (type_in w) TYPES)
    ▹ 3 unless occupied t PROCESS (process_in w)

-- a refusal's number; or else 0, or 9 with the first rule broken
abbrev pub verdict : ℕ → ℕ → Verdict
verdict zero zero = record { number = 0; rule = 0 }
verdict zero (suc r) = record { number = 9; rule = suc r }
verdict (suc n) r = record { number = suc n; rule = 0 }

unfoldable pub check : List ℕ → List ℕ → Verdict
check t w = verdict (claim_no t w) (broken t w)
