-- One call sets a program's two roles as two calls did. Its tests are those of both: where two chains of the same numbers differ in their tests, the
-- lower of their numbers is that of the chain which asks both. And the first of the two writes nothing that the second asks for.
-- Assumes nothing.
use Prim.Native.Nat.{◌+◌, ◌*◌, ◌<◌, ℕ}
use mathlib.Core.Bool.{Bool, ◌&&◌, ◌||◌, false, true}
use mathlib.Core.List.{List}
use mathlib.Core.Path.{◌∙◌, ◌≡◌, ap, refl, sym}
use native.Mathlib.Omega.{arith}
use borrow.Author.Tests.{le-leb}
use lib.Dec.{ltb}
use lib.ListN.{set}
use Rattle.model.specs.declared.Call.{Call}
use Rattle.model.specs.declared.Change.{Change}
use Rattle.model.specs.Numbers.{FILES, FILESYSTEM, MODIFY-ATTRIBUTE, PROCESS, PROCESSES, USE-FORCED-ROLE, ◌unless◌, ◌▹◌, lower}
use Rattle.model.specs.Layout.{FILE-WORDS, FILES-AT, INITIAL, KEPT-AT, KEPT-INITIAL, KEPT-TYPE, KEPT-WORDS, file_addr}
use Rattle.model.specs.Ranges.{ok_forced, ok_initial}
use Rattle.model.specs.Records.{kept_at, occupied, process_at}
use Rattle.model.specs.WellFormed.{well_formed}
use Rattle.model.specs.KeptValues.{type_of}
use Rattle.model.specs.Outcome.{Outcome}
use Rattle.model.specs.Calls.{may, own_role}
use Rattle.model.specs.Administration.{may_assign, passes, ruling_on, set_program_roles_row}
use Rattle.model.specs.Step.{ruling, step}
use Rattle.model.proofs.Records.{Written, kept-stays, occupied-stays, policy-stays, process-stays, set-written, written_then, written-within}
use Rattle.model.proofs.Formed.{facts, live-process, test}
use Rattle.model.proofs.Decided.{decide-granting, decide-number, lower-iff, tested}
use Rattle.model.proofs.KeptValues.{initial-formed, initial_set, kept-type-range, one_by_one, revalued-other, revalued-written, still-used}
use Rattle.promises.specs.Promises.{Program-roles-are-granted-exactly-when-both-values-were, Program-roles-are-refused-with-the-lower-number, Program-roles-are-set-as-one-value-after-the-other}
use Rattle.promises.specs.Before.{value_no}
use Rattle.promises.proofs.First.{then-zero}
use Rattle.promises.proofs.Numbers.{step-first}
use Rattle.promises.proofs.Changes.{granted-row}

-- ---- the number

-- two chains of tests that differ in the second and the last
both-chains : (w r s l o p q : Bool)
    → lower (1 unless w ▹ 2 unless r ▹ 3 unless l ▹ 4 unless o ▹ 5 unless p) (1 unless w ▹ 2 unless s ▹ 3 unless l ▹ 4 unless o ▹ 5 unless q)
    ≡ (1 unless w ▹ 2 unless (r && s) ▹ 3 unless l ▹ 4 unless o ▹ 5 unless (p && q))
unfolding lower
both-chains false r s l o p q = refl
both-chains true false false l o p q = refl
both-chains true false true false o p q = refl
both-chains true false true true false p q = refl
both-chains true false true true true p false = refl
both-chains true false true true true p true = refl
both-chains true true false false o p q = refl
both-chains true true false true false p q = refl
both-chains true true false true true false q = refl
both-chains true true false true true true q = refl
both-chains true true true false o p q = refl
both-chains true true true true false p q = refl
both-chains true true true true true false false = refl
both-chains true true true true true false true = refl
both-chains true true true true true true false = refl
both-chains true true true true true true true = refl

-- a test of each value is one of both
both-ranged : (c f i v : Bool) → ((c && (f && i)) && (c && (f && v))) ≡ (c && (f && i && v))
both-ranged false f i v = refl
both-ranged true false i v = refl
both-ranged true true i v = refl

both-pass : (mark a b m : Bool) → ((mark || (a && m)) && (mark || (b && m))) ≡ (mark || (a && b && m))
both-pass true a b m = refl
both-pass false false b m = refl
both-pass false true b true = refl
both-pass false true false false = refl
both-pass false true true false = refl

module _ (t : List ℕ) (c f initial forced : ℕ) where
  abbrev roles : Call
  roles = Call.Administer (Change.SetProgramRoles f initial forced)

  abbrev modifies : Bool
  modifies = may t c FILESYSTEM (type_of t FILESYSTEM f) MODIFY-ATTRIBUTE

  roles-number : (step t c roles).answer.number ≡ lower (value_no t c f (ok_initial initial) initial) (value_no t c f (ok_forced forced) forced)
  unfolding passes
  roles-number =
      step-first t c roles
      ∙ simp then-zero
      (rw (← both-ranged (ltb c PROCESSES) (ltb f FILES) (ok_initial initial) (ok_forced forced), ← both-pass (own_role t c).mark (may_assign t c initial) (may_assign t c forced) modifies)
      (sym (both-chains (well_formed t) (ltb c PROCESSES && (ltb f FILES && ok_initial initial)) (ltb c PROCESSES && (ltb f FILES && ok_forced forced)) (occupied t PROCESS c)
      (occupied t FILESYSTEM f) ((own_role t c).mark || (may_assign t c initial && modifies)) ((own_role t c).mark || (may_assign t c forced && modifies)))))

pub program-roles-are-refused-with-the-lower-number : Program-roles-are-refused-with-the-lower-number
program-roles-are-refused-with-the-lower-number t c f initial forced = simp decide-number (roles-number t c f initial forced)

pub program-roles-are-granted-exactly-when-both-values-were : Program-roles-are-granted-exactly-when-both-values-were
program-roles-are-granted-exactly-when-both-values-were t c f initial forced =
    rw (program-roles-are-refused-with-the-lower-number t c f initial forced) (lower-iff _ _)

-- ---- the tables

-- where the initial value was set, a value is granted as it was before
module _ (t : List ℕ) (c f initial : ℕ) (ok : Bool) (v : ℕ) (l : f < FILES) (i : ok_initial initial ≡ true) where
  abbrev u : List ℕ
  u = initial_set t f initial

  x : Written t (set t (file_addr f + INITIAL) initial) (file_addr f + INITIAL) 1
  x = set-written t (file_addr f + INITIAL) initial

  y : Written (set t (file_addr f + INITIAL) initial) u KEPT-AT (FILES * KEPT-WORDS)
  y = revalued-written KEPT-INITIAL (omega arith) (set t (file_addr f + INITIAL) initial) f l

  -- only files and what is kept beside them were written
  among : Written t u FILES-AT (FILES * FILE-WORDS + FILES * KEPT-WORDS)
  among = written_then (written-within x _ _ (omega arith) (omega arith)) (written-within y _ _ (omega arith) (omega arith))

  same-type : kept_at u KEPT-TYPE f ≡ kept_at t KEPT-TYPE f
  same-type = revalued-other KEPT-INITIAL (omega arith) _ f KEPT-TYPE f (omega arith) (omega arith) ∙ kept-stays x KEPT-TYPE f (omega arith)

  still-granted : value_no t c f ok v ≡ 0 → value_no u c f ok v ≡ 0
  unfolding passes own_role may type_of
  still-granted e =
      let h = simp tested at e in
      let w = facts t h.0 in
      let me = live-process t w.formed c h.1.0.0 h.1.1.0 in
      let same = policy-stays among (omega arith) (omega arith) in
      rw (
        test u (initial-formed t f initial l w h.1.1.1.0 i),
        occupied-stays among PROCESS c (omega arith),
        process-stays among c (omega arith),
        still-used t f initial l w h.1.1.1.0 i,
        same-type,
        same.roles (process_at t c).role me.role,
        same.rights FILESYSTEM (process_at t c).role (kept_at t KEPT-TYPE f) MODIFY-ATTRIBUTE (omega arith) me.role (kept-type-range t w f l h.1.1.1.0),
      ) (rw (h.0, h.1.1.1.0) at e)

pub program-roles-are-set-as-one-value-after-the-other : Program-roles-are-set-as-one-value-after-the-other
unfolding ruling ruling_on set_program_roles_row
program-roles-are-set-as-one-value-after-the-other t c f initial forced e =
    let h = (program-roles-are-granted-exactly-when-both-values-were t c f initial forced).0 e in
    let first = sym (decide-number t (value_no t c f (ok_initial initial) initial) 0 (initial_set t f initial)) ∙ h.0 in
    let second = sym (decide-number t (value_no t c f (ok_forced forced) forced) 0 _) ∙ h.1 in
    let g = simp tested at first in
    let again = still-granted t c f initial (ok_forced forced) forced g.1.0.1.0 (le-leb initial USE-FORCED-ROLE g.1.0.1.1) second in
    granted-row t c (Call.Administer (Change.SetProgramRoles f initial forced)) e
    ∙ one_by_one t f initial g.1.0.1.0 forced
    ∙ sym
    (rw (decide-granting t (value_no t c f (ok_initial initial) initial) 0 (initial_set t f initial) first)
    (ap (λ (o : Outcome). o.after) (decide-granting (initial_set t f initial) (value_no (initial_set t f initial) c f (ok_forced forced) forced) 0 _ again)))
