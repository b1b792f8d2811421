-- What the monitor promises, each as a sentence: a type whose name says it, proved under the same name in small letters (proofs).
-- What a function of the library answers is by its contract what `step`, `query`, `check`, `build_fresh` or `well_formed` says, so that what holds of
-- the definition here holds of the box.
-- Assumes nothing.
use Rattle.std.specs.Prelude.{◌+◌, ◌<◌, ◌≤◌, suc, zero, ℕ, Bool, ◌||◌, false, true, List, [], ◌∷◌, ◌↔◌, ◌≢◌, ◌⊎◌, ◌≡◌, Result, eqb, length}
use Rattle.sets.specs.Sets.{has}
use Rattle.sets.specs.declared.RoleSet.{RoleSet}
use Rattle.model.specs.declared.Answer.{Answer}
use Rattle.model.specs.declared.Call.{Call}
use Rattle.model.specs.declared.Change.{Change}
use Rattle.model.specs.declared.Climbed.{Climbed}
use Rattle.model.specs.declared.Objection.{Objection}
use Rattle.model.specs.declared.Refusal.{Refusal}
use Rattle.model.specs.declared.Rule.{Rule}
use Rattle.model.specs.Numbers.{DEEPEST, DIR, FILE, FILES, FILESYSTEM, INHERIT-PARENT, ROOT, UP-MIXED, USE-FORCED-ROLE, lower, places}
use Rattle.model.specs.Layout.{FILE-TYPE, FORCED, INITIAL, KEPT-WORDS, KIND, PARENT, role_addr, row_length}
use Rattle.model.specs.Words.{◌!◌}
use Rattle.model.specs.Records.{file_word, kept_at, occupied, free_place, has_right}
use Rattle.model.specs.WellFormed.{well_formed}
use Rattle.model.specs.Policy.{SamePolicy}
use Rattle.model.specs.Outcome.{Outcome, outcome, granting, refusing}
use Rattle.model.specs.Refusals.{code, first_broken, answer_of, found_of, verdict_of}
use Rattle.model.specs.Fresh.{fresh, build_fresh}
use Rattle.model.specs.Effective.{effective, root_value, value_at}
use Rattle.model.specs.Queries.{look_kind, look_type, query, query_kind, query_type}
use Rattle.model.specs.Step.{act, step}
use Rattle.model.specs.Claims.{check, type_in}
use Rattle.model.specs.Runs.{Event, administers, allowed, confined, deed, family_over, founder, happens, harmless, after}
use Rattle.promises.specs.Tests.{FirstFails, Hold, call_tests, claim_tests, query_tests, rules}
use Rattle.promises.specs.Before.{set_forced, set_initial}
use Rattle.promises.specs.Writes.{moves_kept, writes, place_taken, Wrote}

-- ---- one of nine numbers

-- n is one of the numbers that are listed
abbrev pub is_one_of : ℕ → List ℕ → Bool
is_one_of n [] = false
is_one_of n (m ∷ rest) = eqb n m || is_one_of n rest

-- A call is answered 0, a grant, or one of the numbers 1 to 8.
abbrev pub A-call-answers-0-to-8 : Type 0
A-call-answers-0-to-8 = (t : List ℕ) (c : ℕ) (call : Call) → (step t c call).answer.number ≤ 8

-- Every answer fits two bytes: one for its number and one for its place (W-205).
abbrev pub Every-answer-fits-two-bytes : Type 0
Every-answer-fits-two-bytes =
    (t : List ℕ) (c : ℕ) (call : Call) → ((step t c call).answer.number < 256) × ((step t c call).answer.place < 256)

-- Exit knows only the numbers 1, 2, 3 and 6.
abbrev pub Exit-answers-0-1-2-3-or-6 : Type 0
Exit-answers-0-1-2-3-or-6 = (t : List ℕ) (c : ℕ) → is_one_of (step t c Call.Exit).answer.number (0 ∷ 1 ∷ 2 ∷ 3 ∷ 6 ∷ []) ≡ true

-- A query refuses only with 1, 2 or 4, and then answers zeros.
abbrev pub A-query-answers-0-1-2-or-4 : Type 0
A-query-answers-0-1-2-or-4 =
    (t : List ℕ) (slot o : ℕ)
    → (is_one_of (query t slot o).number (0 ∷ 1 ∷ 2 ∷ 4 ∷ []) ≡ true)
    × ((query t slot o).number ≢ 0 → ((query t slot o).value ≡ 0) × ((query t slot o).climbed ≡ 0) × ((query t slot o).place ≡ 0))

-- A claim is answered 0, 1, 2, 3 or 9; with 9 comes the number of a rule, 1 to 9, and with any other number 0.
abbrev pub A-claim-answers-0-1-2-3-or-9 : Type 0
A-claim-answers-0-1-2-3-or-9 =
    (t w : List ℕ)
    → (is_one_of (check t w).number (0 ∷ 1 ∷ 2 ∷ 3 ∷ 9 ∷ []) ≡ true)
    × ((check t w).number ≢ 9 → (check t w).rule ≡ 0)
    × ((check t w).number ≡ 9 → (1 ≤ (check t w).rule) × ((check t w).rule ≤ 9))

-- ---- granted and refused exactly when

-- A call is granted exactly when all its tests hold: the tables are well formed, the numbers in range, the caller live, and its own tests hold.
abbrev pub A-call-is-granted-exactly-when-its-tests-hold : Type 0
A-call-is-granted-exactly-when-its-tests-hold =
    (t : List ℕ) (c : ℕ) (call : Call) → ((step t c call).answer.number ≡ 0) ↔ Hold (call_tests t c call)

-- A call is refused with a number exactly when it is that of the first test that fails.
abbrev pub A-call-is-refused-by-the-first-test-that-fails : Type 0
A-call-is-refused-by-the-first-test-that-fails =
    (t : List ℕ) (c : ℕ) (call : Call) (n : ℕ) → n ≢ 0 → ((step t c call).answer.number ≡ n) ↔ FirstFails (call_tests t c call) n

-- A query is answered exactly when its tests hold, and refused by the first that fails.
abbrev pub A-query-is-answered-exactly-when-its-tests-hold : Type 0
A-query-is-answered-exactly-when-its-tests-hold =
    (t : List ℕ) (slot o : ℕ)
    → (((query t slot o).number ≡ 0) ↔ Hold (query_tests t o))
    × ((n : ℕ) → n ≢ 0 → ((query t slot o).number ≡ n) ↔ FirstFails (query_tests t o) n)

-- A claim is accepted exactly when its tests hold and C1 to C9 hold.
abbrev pub A-claim-is-accepted-exactly-when-its-rules-hold : Type 0
A-claim-is-accepted-exactly-when-its-rules-hold =
    (t w : List ℕ) → ((check t w).number ≡ 0) ↔ (Hold (claim_tests t w) × Hold (rules t w))

-- A claim is refused with 1, 2 or 3 exactly when that is the first test that fails.
abbrev pub A-claim-is-refused-by-the-first-test-that-fails : Type 0
A-claim-is-refused-by-the-first-test-that-fails =
    (t w : List ℕ) (n : ℕ) → n ≢ 0 → n ≢ 9 → ((check t w).number ≡ n) ↔ FirstFails (claim_tests t w) n

-- A claim is refused with 9 and the number of a rule exactly when its tests hold and that rule is the first that does not.
abbrev pub A-claim-is-refused-by-the-first-rule-broken : Type 0
A-claim-is-refused-by-the-first-rule-broken =
    (t w : List ℕ) (n : ℕ)
    → (((check t w).number ≡ 9) × ((check t w).rule ≡ n)) ↔ (Hold (claim_tests t w) × FirstFails (rules t w) n)

-- ---- one call for both roles of a program (W-207), beside the two calls that set one of them each (Before)

-- It is granted exactly when both would be, from the same tables.
abbrev pub Program-roles-are-granted-exactly-when-both-values-were : Type 0
Program-roles-are-granted-exactly-when-both-values-were =
    (t : List ℕ) (c f initial forced : ℕ)
    → ((step t c (Call.Administer (Change.SetProgramRoles f initial forced))).answer.number ≡ 0)
    ↔ (((set_initial t c f initial).answer.number ≡ 0) × ((set_forced t c f forced).answer.number ≡ 0))

-- Its number is the lower of theirs, where 0 is none.
abbrev pub Program-roles-are-refused-with-the-lower-number : Type 0
Program-roles-are-refused-with-the-lower-number =
    (t : List ℕ) (c f initial forced : ℕ)
    → (step t c (Call.Administer (Change.SetProgramRoles f initial forced))).answer.number
    ≡ lower (set_initial t c f initial).answer.number (set_forced t c f forced).answer.number

-- And a grant leaves the tables as the one and then the other would.
abbrev pub Program-roles-are-set-as-one-value-after-the-other : Type 0
Program-roles-are-set-as-one-value-after-the-other =
    (t : List ℕ) (c f initial forced : ℕ)
    → (step t c (Call.Administer (Change.SetProgramRoles f initial forced))).answer.number ≡ 0
    → (step t c (Call.Administer (Change.SetProgramRoles f initial forced))).after ≡ (set_forced (set_initial t c f initial).after c f forced).after

-- ---- what a call changes

-- A refused call leaves every table as it was, and answers its number and nothing else.
abbrev pub A-refused-call-changes-nothing : Type 0
A-refused-call-changes-nothing =
    (t : List ℕ) (c : ℕ) (call : Call)
    → (step t c call).answer.number ≢ 0
    → ((step t c call).after ≡ t) × ((step t c call).answer.place ≡ 0)

-- A granted call changes one record, one word, or the two words of a program's roles, and no other word of any table: what it writes then stands there,
-- and all else is as before, but for what is kept beside the files, of which the promises of kept values speak.
abbrev pub A-granted-call-changes-one-record : Type 0
A-granted-call-changes-one-record =
    (t : List ℕ) (c : ℕ) (call : Call) → (step t c call).answer.number ≡ 0 → Wrote t (step t c call).after (writes t c call)

-- A granted clone or creation answers the place that it took, and any other granted call answers 0.
abbrev pub A-grant-answers-the-place-taken : Type 0
A-grant-answers-the-place-taken =
    (t : List ℕ) (c : ℕ) (call : Call) → (step t c call).answer.number ≡ 0 → (step t c call).answer.place ≡ place_taken t call

-- The place that is taken in a table was free, and none below it was.
abbrev pub The-place-taken-is-the-lowest-free-one : Type 0
The-place-taken-is-the-lowest-free-one =
    (t : List ℕ) (g : ℕ)
    → free_place t g < places g
    → (occupied t g (free_place t g) ≡ false) × ((p : ℕ) → p < free_place t g → occupied t g p ≡ true)

-- H11: adding a role or a right that is there, or removing one that is not, changes nothing.
abbrev pub Adding-what-is-there-or-removing-what-is-not-changes-nothing : Type 0
Adding-what-is-there-or-removing-what-is-not-changes-nothing =
    (t : List ℕ) (c : ℕ)
    → ((s r member : ℕ) → has (t ! (role_addr r + s)) member ≡ true → (step t c (Call.Administer (Change.AddRole s r member))).after ≡ t)
    × ((s r member : ℕ) → has (t ! (role_addr r + s)) member ≡ false → (step t c (Call.Administer (Change.RemoveRole s r member))).after ≡ t)
    × ((g r k right : ℕ) → has_right t g r k right ≡ true → (step t c (Call.Administer (Change.AddRight g r k right))).after ≡ t)
    × ((g r k right : ℕ) → has_right t g r k right ≡ false → (step t c (Call.Administer (Change.RemoveRight g r k right))).after ≡ t)

-- A call that is no administration call changes no role, no user's default role and no right.
abbrev pub Only-administration-changes-roles-users-or-rights : Type 0
Only-administration-changes-roles-users-or-rights =
    (t : List ℕ) (c : ℕ) (call : Call) → deed call ≢ administers → SamePolicy t (step t c call).after

-- ---- the box never spoils its own tables

-- Building fresh tables asks only for the full length of what it overwrites, and leaves anything else as it was.
abbrev pub Building-fresh-tables-asks-only-for-their-full-length : Type 0
Building-fresh-tables-asks-only-for-their-full-length =
    (t : List ℕ) → (length t ≡ row_length → build_fresh t ≡ granting 0 fresh) × (length t ≢ row_length → build_fresh t ≡ refusing 1 t)

-- Fresh tables are well formed.
abbrev pub Fresh-tables-are-well-formed : Type 0
Fresh-tables-are-well-formed = well_formed fresh ≡ true

-- Tables that were well formed are well formed after any call.
abbrev pub A-call-keeps-the-tables-well-formed : Type 0
A-call-keeps-the-tables-well-formed = (t : List ℕ) (c : ℕ) (call : Call) → well_formed t ≡ true → well_formed (step t c call).after ≡ true

-- From well-formed tables, whatever has happened, nothing that then happens is answered 1.
abbrev pub No-run-from-well-formed-tables-meets-number-1 : Type 0
No-run-from-well-formed-tables-meets-number-1 =
    (t : List ℕ) (run : List Event) (e : Event) → well_formed t ≡ true → (happens (after t run) e).answer.number ≢ 1

-- On well-formed tables a call without the test of the tables comes to the same.
abbrev pub On-well-formed-tables-act-is-step : Type 0
On-well-formed-tables-act-is-step = (t : List ℕ) (c : ℕ) (call : Call) → well_formed t ≡ true → act t c call ≡ step t c call

-- And a look, which climbs nothing, comes to the value that a query answers.
abbrev pub On-well-formed-tables-look-is-the-querys-value : Type 0
On-well-formed-tables-look-is-the-querys-value =
    (t : List ℕ) (o : ℕ) → well_formed t ≡ true → (look_type t o ≡ (query_type t o).value) × (look_kind t o ≡ (query_kind t o).value)

-- ---- effective values, in the paper's words

-- the value in the word `slot` of an occupied file: where it is inherit parent, that of the parent, and at the root, which has none, the default;
-- where it is not, the file's own
abbrev pub Inherits : ℕ → ℕ → Type 0
Inherits slot default =
    (t : List ℕ) (o : ℕ)
    → well_formed t ≡ true
    → o < FILES
    → occupied t FILESYSTEM o ≡ true
    → (file_word t o slot ≡ INHERIT-PARENT → o ≢ ROOT → value_at t slot o ≡ value_at t slot (file_word t o PARENT))
    × (file_word t o slot ≡ INHERIT-PARENT → o ≡ ROOT → value_at t slot o ≡ default)
    × (file_word t o slot ≢ INHERIT-PARENT → value_at t slot o ≡ file_word t o slot)

-- Rule 5: the effective type.
abbrev pub Rule-5 : Type 0
Rule-5 = Inherits FILE-TYPE 0

-- Rule 17: the effective initial role.
abbrev pub Rule-17 : Type 0
Rule-17 = Inherits INITIAL USE-FORCED-ROLE

-- Rule 19: the effective forced role.
abbrev pub Rule-19 : Type 0
Rule-19 = Inherits FORCED UP-MIXED

-- The count is the number of parents climbed: one more than the parent's where the file inherits from it, and otherwise 0.
abbrev pub The-count-is-the-number-of-parents-climbed : Type 0
The-count-is-the-number-of-parents-climbed =
    (t : List ℕ) (slot o : ℕ)
    → well_formed t ≡ true
    → o < FILES
    → occupied t FILESYSTEM o ≡ true
    → (file_word t o slot ≡ INHERIT-PARENT → o ≢ ROOT → (effective t slot o).climbed ≡ (effective t slot (file_word t o PARENT)).climbed + 1)
    × (file_word t o slot ≡ INHERIT-PARENT → o ≡ ROOT → (effective t slot o).climbed ≡ 0)
    × (file_word t o slot ≢ INHERIT-PARENT → (effective t slot o).climbed ≡ 0)

-- No climb passes more than 15 parents, and no query reports more, on any row.
abbrev pub At-most-15-parents-are-climbed : Type 0
At-most-15-parents-are-climbed =
    (t : List ℕ) (slot o : ℕ) → ((effective t slot o).climbed ≤ DEEPEST) × ((query t slot o).climbed ≤ DEEPEST)

-- the file that lies n parents above file o
abbrev pub nth_parent : List ℕ → ℕ → ℕ → ℕ
nth_parent t zero o = o
nth_parent t (suc n) o = nth_parent t n (file_word t o PARENT)

-- the value that file o has in the word `slot` was found `climbed` parents above it, at `place`: every file that was passed inherits; the value is the
-- place's own, and where the place inherits too, it is the root, and the value is the root's default
abbrev pub CameFrom : List ℕ → ℕ → ℕ → ℕ → ℕ → ℕ → Type 0
CameFrom t slot o value climbed place =
    (place ≡ nth_parent t climbed o)
    × ((n : ℕ) → n < climbed → file_word t (nth_parent t n o) slot ≡ INHERIT-PARENT)
    × (file_word t place slot ≢ INHERIT-PARENT → value ≡ file_word t place slot)
    × (file_word t place slot ≡ INHERIT-PARENT → (place ≡ ROOT) × (value ≡ root_value slot))

-- W-201: a query that is answered answers the place that its value came from.
abbrev pub A-query-answers-the-place-its-value-came-from : Type 0
A-query-answers-the-place-its-value-came-from =
    (t : List ℕ) (slot o : ℕ)
    → (query t slot o).number ≡ 0
    → CameFrom t slot o (query t slot o).value (query t slot o).climbed (query t slot o).place

-- Asked again at that place, it answers the same value and place, and climbs no parent.
abbrev pub Asked-at-that-place-a-query-answers-the-same : Type 0
Asked-at-that-place-a-query-answers-the-same =
    (t : List ℕ) (slot o : ℕ)
    → (query t slot o).number ≡ 0
    → query t slot (query t slot o).place ≡ record { number = 0; value = (query t slot o).value; climbed = 0; place = (query t slot o).place }

-- The value that a query answers is the effective one, and of type, initial and forced value the one kept, which calls and claims go by.
abbrev pub A-query-answers-the-effective-value : Type 0
A-query-answers-the-effective-value =
    (t : List ℕ) (slot o : ℕ)
    → (query t slot o).number ≡ 0
    → ((query t slot o).value ≡ value_at t slot o)
    × ((k : ℕ) → k < KEPT-WORDS → slot ≡ FILE-TYPE + k → (query t slot o).value ≡ kept_at t k o)

-- W-202: a query of the kind answers the file's own, which is FILE or DIR, and climbs nothing.
abbrev pub A-query-of-the-kind-answers-FILE-or-DIR : Type 0
A-query-of-the-kind-answers-FILE-or-DIR =
    (t : List ℕ) (o : ℕ)
    → (query t KIND o).number ≡ 0
    → (query t KIND o ≡ record { number = 0; value = file_word t o KIND; climbed = 0; place = o })
    × ((file_word t o KIND ≡ FILE) ⊎ (file_word t o KIND ≡ DIR))

-- ---- what is kept of them beside the files (W-206)

-- every value kept for a file place is the climb's
abbrev pub KeepsTheClimb : List ℕ → Type 0
KeepsTheClimb t = (k o : ℕ) → k < KEPT-WORDS → o < FILES → kept_at t k o ≡ value_at t (FILE-TYPE + k) o

-- On well-formed tables the values kept are the climb's.
abbrev pub Well-formed-tables-keep-the-climb : Type 0
Well-formed-tables-keep-the-climb = (t : List ℕ) → well_formed t ≡ true → KeepsTheClimb t

-- After every call they are again.
abbrev pub After-every-call-the-climb-is-kept-again : Type 0
After-every-call-the-climb-is-kept-again = (t : List ℕ) (c : ℕ) (call : Call) → well_formed t ≡ true → KeepsTheClimb (step t c call).after

-- For a free place zeros are kept.
abbrev pub For-a-free-place-zeros-are-kept : Type 0
For-a-free-place-zeros-are-kept =
    (t : List ℕ) (k o : ℕ) → well_formed t ≡ true → k < KEPT-WORDS → o < FILES → occupied t FILESYSTEM o ≡ false → kept_at t k o ≡ 0

-- A type or a program role that is set moves what is kept for those that inherit it, a creation or a removal what is kept for its place; nothing
-- else that is kept moves, by any call.
abbrev pub No-other-value-kept-moves : Type 0
No-other-value-kept-moves =
    (t : List ℕ) (c : ℕ) (call : Call) (j q : ℕ)
    → (step t c call).answer.number ≡ 0
    → j < KEPT-WORDS
    → q < FILES
    → moves_kept t call j q ≡ false
    → kept_at (step t c call).after j q ≡ kept_at t j q

-- ---- there is one right answer

-- Two answers with the rows they leave, each what one definition says, are the same answer and the same row.
abbrev pub Answers-to-one-contract-coincide : Type 0
Answers-to-one-contract-coincide =
    (r s : Answer) (u v : List ℕ) (d : Outcome) → outcome r u ≡ d → outcome s v ≡ d → (r ≡ s) × (u ≡ v)

-- Two results whose answers in numbers, with the rows they leave, are each what one definition says are the same result and the same row.
abbrev pub Results-to-one-contract-coincide : Type 0
Results-to-one-contract-coincide =
    (r s : Result ℕ Refusal) (u v : List ℕ) (d : Outcome) → outcome (answer_of r) u ≡ d → outcome (answer_of s) v ≡ d → (r ≡ s) × (u ≡ v)

-- Two results that say the same in numbers are the same result: of a call, of a query, of a claim, of the tests before a call, of the rules of a claim.
abbrev pub Results-of-the-same-numbers-are-the-same : Type 0
Results-of-the-same-numbers-are-the-same =
    ((r s : Result ℕ Refusal) → answer_of r ≡ answer_of s → r ≡ s)
    × ((r s : Result Climbed Refusal) → found_of r ≡ found_of s → r ≡ s)
    × ((r s : Result (Unit {0}) Objection) → verdict_of r ≡ verdict_of s → r ≡ s)
    × ((r s : Result (Unit {0}) Refusal) → code r ≡ code s → r ≡ s)
    × ((r s : Result (Unit {0}) Rule) → first_broken r ≡ first_broken s → r ≡ s)

-- Two sets whose members are what one definition says are the same set.
abbrev pub Sets-to-one-contract-coincide : Type 0
Sets-to-one-contract-coincide = (r s : RoleSet) (d : ℕ) → r.bits ≡ d → s.bits ≡ d → r ≡ s

-- Any other two answers, each equal to one definition, are the same answer.
abbrev pub Values-to-one-contract-coincide : Type 1
Values-to-one-contract-coincide = (A : Type 0) (r s d : A) → r ≡ d → s ≡ d → r ≡ s

-- ---- an accepted claim is true

-- Where the checker accepts a claim, its process and all that its members clone hold only roles of S, are granted no administration call,
-- and never write, delete or create an object of the claim's type, whatever anyone calls, as long as no process outside the family is
-- granted an administration call.
abbrev pub An-accepted-claim-confines : Type 0
An-accepted-claim-confines =
    (t w : List ℕ) (run : List Event) → (check t w).number ≡ 0 → allowed t (founder w) run ≡ true → confined w t (founder w) run ≡ true

-- So after any such run, whatever a member of the family then calls is no administration call granted, and no write, removal or creation of an
-- object of that type.
abbrev pub Whatever-has-happened-a-member-does-no-harm : Type 0
Whatever-has-happened-a-member-does-no-harm =
    (t w : List ℕ) (run : List Event) (c : ℕ) (call : Call)
    → (check t w).number ≡ 0
    → allowed t (founder w) run ≡ true
    → family_over t (founder w) run c ≡ true
    → harmless (type_in w) (after t run) (step (after t run) c call) (deed call) ≡ true
