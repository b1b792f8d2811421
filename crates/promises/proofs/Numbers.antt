-- What a call and a query are answered: the number of the first of their tests that fails. The definition chains the tests of each in their order,
-- and so all that is said of the number follows from the list of tests.
-- Assumes nothing.
use Prim.Native.Nat.{ℕ, ◌≤◌, suc, zero}
use mathlib.Core.List.{List, [], ◌∷◌}
use mathlib.Core.Path.{◌≡◌, refl, ◌∙◌, sym}
use mathlib.Core.Bool.{false, or-false, true, ◌&&◌}
use mathlib.Core.Logic.{◌↔◌, ◌≢◌, ⊎_elim}
use native.Mathlib.Omega.{arith}
use lib.Dec.{leb, ltb}
use Rattle.model.specs.declared.Call.{Call}
use Rattle.model.specs.declared.Change.{Change}
use Rattle.model.specs.declared.Climbed.{Climbed}
use Rattle.model.specs.Numbers.{PROCESS, PROCESSES, ◌unless◌, ◌▹◌}
use Rattle.model.specs.Ranges.{ranged}
use Rattle.model.specs.Records.{occupied}
use Rattle.model.specs.WellFormed.{well_formed}
use Rattle.model.specs.Effective.{effective}
use Rattle.model.specs.Queries.{found_by, query, query_no}
use Rattle.model.specs.Calls.{access_no, change_owner_no, change_role_no, clone_no, create_ipc_no, create_no, delete_ipc_no, delete_no, execute_no, exit_no, own_role}
use Rattle.model.specs.Administration.{change_right_no, change_set_no, modify_no, passes, role_admin_no, ruling_on, set_user_role_no}
use Rattle.model.specs.Step.{caller_no, ruling, number, step}
use Rattle.model.proofs.Decided.{decide-number, tested, then-iff, unless-1}
use Rattle.promises.specs.Promises.{is_one_of, A-call-answers-0-to-8, A-call-is-granted-exactly-when-its-tests-hold, A-call-is-refused-by-the-first-test-that-fails, A-query-answers-0-1-2-or-4, A-query-is-answered-exactly-when-its-tests-hold, Exit-answers-0-1-2-3-or-6}
use Rattle.promises.specs.Tests.{change_tests, own_tests, call_tests, query_tests, ◌if_not◌, Test}
use Rattle.promises.proofs.First.{EachNumber, first_of, then-zero, Numbered, each_number, first-number, first-of, first-zero, then-then, fails_of}

-- ---- a call's own tests

module _ (t : List ℕ) (c : ℕ) where
  -- H9: without a rule, only the mark passes
  mark-only : passes t c false ≡ (own_role t c).mark
  unfolding passes
  mark-only = or-false (own_role t c).mark

  -- the tests are chained in their order, and their numbers are 4 to 8
  abbrev Own : ℕ → Type 0
  Own n = leb 4 n && leb n 8 ≡ true

  abbrev Chained : List Test → ℕ → Type 0
  Chained tests n = (n ≡ first_of tests) × EachNumber Own tests

  change-chained : (change : Change) → Chained (change_tests t c change) (ruling_on t c change).number
  unfolding ruling_on change_set_no set_user_role_no modify_no role_admin_no change_right_no
  change-chained (Change.AddRole s r member) = (simp then-zero, (refl, tt))
  change-chained (Change.RemoveRole s r member) = (simp then-zero, (refl, tt))
  change-chained (Change.SetUserRole u r) = (simp then-zero, (refl, tt))
  change-chained (Change.SetProgramRoles f initial forced) = (simp then-zero, (refl, (refl, tt)))
  change-chained (Change.SetProcessForced p v) = (simp then-zero, (refl, (refl, tt)))
  change-chained (Change.SetDefaultType which r v) = (simp (then-zero, mark-only), (refl, tt))
  change-chained (Change.SetRoleAdmin r mark) = (simp (then-zero, mark-only), (refl, tt))
  change-chained (Change.SetType g o v) = (simp then-zero, (refl, (refl, tt)))
  change-chained (Change.AddRight g r k right) = (simp then-zero, (refl, tt))
  change-chained (Change.RemoveRight g r k right) = (simp then-zero, (refl, tt))

  call-chained : (call : Call) → Chained (own_tests t c call) (ruling t c call).number
  unfolding ruling access_no clone_no exit_no execute_no change_owner_no change_role_no create_no delete_no create_ipc_no delete_ipc_no
  call-chained (Call.Access g o right) = (simp then-zero, (refl, (refl, tt)))
  call-chained Call.Clone = (simp then-zero, (refl, (refl, tt)))
  call-chained Call.Exit = (simp then-zero, (refl, tt))
  call-chained (Call.Execute f) = (simp then-zero, (refl, (refl, tt)))
  call-chained (Call.ChangeOwner u) = (simp then-zero, (refl, tt))
  call-chained (Call.ChangeRole r) = (simp then-zero, (refl, tt))
  call-chained (Call.Create kind y) = (simp then-zero, (refl, (refl, (refl, (refl, tt)))))
  call-chained (Call.Delete o) = (simp then-zero, (refl, (refl, (refl, tt))))
  call-chained Call.CreateIpc = (simp then-zero, (refl, (refl, tt)))
  call-chained (Call.DeleteIpc i) = (simp then-zero, (refl, (refl, tt)))
  call-chained (Call.Administer change) = change-chained change

  -- what follows of each number from 4 to 8
  own : (P : ℕ → Type 0) (call : Call) → ((n : ℕ) → 4 ≤ n → n ≤ 8 → P n) → EachNumber P (own_tests t c call)
  own P call h = each_number Own P (λ n l. let m = simp tested at l in h n m.0 m.1) (own_tests t c call) (call-chained call).1

-- ---- every call

module _ (t : List ℕ) (c : ℕ) (call : Call) where
  pub step-number : (step t c call).answer.number ≡ (1 unless well_formed t ▹ number t c call)
  unfolding step
  step-number = decide-number t (1 unless well_formed t ▹ number t c call) (ruling t c call).place (ruling t c call).row

  pub step-first : (step t c call).answer.number ≡ first_of (call_tests t c call)
  unfolding number caller_no
  step-first =
      step-number ∙ rw ((call-chained t c call).0, then-then (2 unless (ltb c PROCESSES && ranged call)) (3 unless occupied t PROCESS c) (first_of (own_tests t c call)))

  numbered : Numbered (call_tests t c call)
  numbered = (omega arith, (omega arith, (omega arith, own t c (λ n. n ≢ 0) call (λ n l m. omega arith))))

  -- a call with number 0 passed the test of the tables, and those of `number`
  pub step-granted : ((step t c call).answer.number ≡ 0) ↔ ((well_formed t ≡ true) × (number t c call ≡ 0))
  step-granted = (
    λ e. let h = (then-iff (1 unless well_formed t) (number t c call)).0 (sym step-number ∙ e) in ((unless-1 (well_formed t)).0 h.0, h.1),
    λ h. step-number ∙ (then-iff (1 unless well_formed t) (number t c call)).1 ((unless-1 (well_formed t)).1 h.0, h.1),
  )

pub a-call-is-granted-exactly-when-its-tests-hold : A-call-is-granted-exactly-when-its-tests-hold
a-call-is-granted-exactly-when-its-tests-hold t c call = rw (step-first t c call) (first-zero (call_tests t c call) (numbered t c call))

pub a-call-is-refused-by-the-first-test-that-fails : A-call-is-refused-by-the-first-test-that-fails
a-call-is-refused-by-the-first-test-that-fails t c call n z = rw (step-first t c call) (first-number (call_tests t c call) (numbered t c call) n z)

-- 1 is the number of the tables alone
pub number-1 : (t : List ℕ) (c : ℕ) (call : Call) → (step t c call).answer.number ≡ 1 → well_formed t ≡ false
number-1 t c call e =
    ⊎_elim (λ p. p.0)
    (λ p. absurd (fails_of (λ n. n ≢ 1) (2 if_not (ltb c PROCESSES && ranged call) ∷ 3 if_not occupied t PROCESS c ∷ own_tests t c call)
    (omega arith, (omega arith, own t c (λ n. n ≢ 1) call (λ n l m. omega arith)))
    1 p.1 refl))
    ((a-call-is-refused-by-the-first-test-that-fails t c call 1 (omega arith)).0 e)

pub a-call-answers-0-to-8 : A-call-answers-0-to-8
a-call-answers-0-to-8 t c call =
    rw (step-first t c call)
    (first-of (λ n. n ≤ 8) (omega arith) (call_tests t c call)
    (omega arith, (omega arith, (omega arith, own t c (λ n. n ≤ 8) call (λ n l m. m)))))

pub exit-answers-0-1-2-3-or-6 : Exit-answers-0-1-2-3-or-6
exit-answers-0-1-2-3-or-6 t c =
    rw (step-first t c Call.Exit)
    (first-of (λ n. is_one_of n (0 ∷ 1 ∷ 2 ∷ 3 ∷ 6 ∷ []) ≡ true) refl (call_tests t c Call.Exit) (refl, (refl, (refl, (refl, tt)))))

-- ---- queries

pub found_number : (n : ℕ) (e : Climbed) → (found_by n e).number ≡ n
found_number zero e = refl
found_number (suc n) e = refl

found-zeros : (n : ℕ) (e : Climbed) → (found_by n e).number ≢ 0 → ((found_by n e).value ≡ 0) × ((found_by n e).climbed ≡ 0) × ((found_by n e).place ≡ 0)
found-zeros zero e h = absurd (h refl)
found-zeros (suc n) e h = (refl, refl, refl)

query-first : (t : List ℕ) (slot o : ℕ) → (query t slot o).number ≡ first_of (query_tests t o)
unfolding query query_no
query-first t slot o = found_number (query_no t o) (effective t slot o) ∙ simp then-zero

pub a-query-is-answered-exactly-when-its-tests-hold : A-query-is-answered-exactly-when-its-tests-hold
a-query-is-answered-exactly-when-its-tests-hold t slot o =
    let numbered : Numbered (query_tests t o) = (omega arith, (omega arith, (omega arith, tt))) in
    rw (query-first t slot o) (first-zero (query_tests t o) numbered, first-number (query_tests t o) numbered)

pub a-query-answers-0-1-2-or-4 : A-query-answers-0-1-2-or-4
a-query-answers-0-1-2-or-4 t slot o = (
  rw (query-first t slot o)
      (first-of (λ n. is_one_of n (0 ∷ 1 ∷ 2 ∷ 4 ∷ []) ≡ true) refl (query_tests t o) (refl, (refl, (refl, tt)))),
  unfold query in found-zeros (query_no t o) (effective t slot o),
)
