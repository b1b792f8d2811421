-- How a call, a query and a claim end, as `grind` applies it: by a refusal, by a broken rule, and by neither. And what is answered in numbers
-- tells results apart.
-- Assumes nothing.
use Rattle.std.proofs.Common.{◌≡◌, ◌∙◌, ap, sym, ℕ, suc, false, cond, eqb, List, Result, Ok, Err, refl}
use Rattle.model.specs.declared.Refusal.{Refusal}
use Rattle.model.specs.declared.Rule.{Rule}
use Rattle.model.specs.declared.Objection.{Objection}
use Rattle.model.specs.declared.Climbed.{Climbed}
use Rattle.model.specs.declared.Answer.{Answer}
use Rattle.model.specs.declared.Found.{Found}
use Rattle.model.specs.declared.Verdict.{Verdict}
use Rattle.model.specs.Numbers.{◌▹◌}
use Rattle.model.specs.Outcome.{outcome, decide}
use Rattle.model.specs.Queries.{found_by}
use Rattle.model.specs.Claims.{verdict}
use Rattle.model.specs.Refusals.{number_of, rule_number, code, first_broken, answer_of, found_of, verdict_of}

-- ---- the numbers: a refusal's is neither 0 nor 9, a rule's is not 0, and each tells which it is

abbrev refusal_of : ℕ → Refusal
refusal_of n =
    cond (eqb n 1) Refusal.IllFormed
    (cond (eqb n 2) Refusal.OutOfRange
    (cond (eqb n 3) Refusal.NotLive
    (cond (eqb n 4) Refusal.NoSuchPlace
    (cond (eqb n 5) Refusal.NotAllowed
    (cond (eqb n 6) Refusal.NotRemovable
    (cond (eqb n 7) Refusal.TooDeep Refusal.Full))))))

numbered : (e : Refusal) → (k : ℕ) × (number_of e ≡ suc k) × (eqb (suc k) 0 ≡ false) × (eqb (suc k) 9 ≡ false) × (refusal_of (suc k) ≡ e)
numbered Refusal.IllFormed = (0, refl, refl, refl, refl)
numbered Refusal.OutOfRange = (1, refl, refl, refl, refl)
numbered Refusal.NotLive = (2, refl, refl, refl, refl)
numbered Refusal.NoSuchPlace = (3, refl, refl, refl, refl)
numbered Refusal.NotAllowed = (4, refl, refl, refl, refl)
numbered Refusal.NotRemovable = (5, refl, refl, refl, refl)
numbered Refusal.TooDeep = (6, refl, refl, refl, refl)
numbered Refusal.Full = (7, refl, refl, refl, refl)

abbrev rule_of : ℕ → Rule
rule_of n =
    cond (eqb n 1) Rule.C1
    (cond (eqb n 2) Rule.C2
    (cond (eqb n 3) Rule.C3
    (cond (eqb n 4) Rule.C4
    (cond (eqb n 5) Rule.C5
    (cond (eqb n 6) Rule.C6
    (cond (eqb n 7) Rule.C7
    (cond (eqb n 8) Rule.C8 Rule.C9)))))))

ruled : (rule : Rule) → (k : ℕ) × (rule_number rule ≡ suc k) × (eqb (suc k) 0 ≡ false) × (rule_of (suc k) ≡ rule)
ruled Rule.C1 = (0, refl, refl, refl)
ruled Rule.C2 = (1, refl, refl, refl)
ruled Rule.C3 = (2, refl, refl, refl)
ruled Rule.C4 = (3, refl, refl, refl)
ruled Rule.C5 = (4, refl, refl, refl)
ruled Rule.C6 = (5, refl, refl, refl)
ruled Rule.C7 = (6, refl, refl, refl)
ruled Rule.C8 = (7, refl, refl, refl)
ruled Rule.C9 = (8, refl, refl, refl)

-- ---- a call

pub refused : (e : Refusal) (t u : List ℕ) (n place : ℕ) → number_of e ≡ n → decide t n place u ≡ outcome (answer_of (Err e)) t
unfolding decide
refused e t u n place h = rw (← h, (numbered e).1)

pub granted : (t u : List ℕ) (n place : ℕ) → 0 ≡ n → decide t n place u ≡ outcome (answer_of (Ok place)) u
unfolding decide
granted t u n place h = rw (← h)

-- a first test that refuses does so whatever follows it, and one that passes leaves the call to what follows
pub refused_first : (e : Refusal) (t u : List ℕ) (n m place : ℕ) → number_of e ≡ n → decide t (n ▹ m) place u ≡ outcome (answer_of (Err e)) t
unfolding decide
refused_first e t u n m place h = rw (← h, (numbered e).1)

pub passed_first : (t u : List ℕ) (n m place : ℕ) → 0 ≡ n → decide t (n ▹ m) place u ≡ decide t m place u
passed_first t u n m place h = rw (← h)

pub ruleset heads = (refused_first, passed_first)

-- ---- a query

pub unfound : (e : Refusal) (n : ℕ) (up : Climbed) → number_of e ≡ n → found_by n up ≡ found_of (Err e)
unfound e n up h = rw (← h, (numbered e).1)

pub found : (n : ℕ) (up : Climbed) → 0 ≡ n → found_by n up ≡ found_of (Ok up)
found n up h = rw (← h)

-- ---- a claim

pub rejected : (e : Refusal) (n r : ℕ) → number_of e ≡ n → verdict n r ≡ verdict_of (Err (Objection.Refused e))
rejected e n r h = rw (← h, (numbered e).1)

pub broken_by : (rule : Rule) (n r : ℕ) → 0 ≡ n → rule_number rule ≡ r → verdict n r ≡ verdict_of (Err (Objection.Broken rule))
broken_by rule n r g h = rw (← g, ← h, (ruled rule).1)

pub accepted : (x : Unit {0}) (n r : ℕ) → 0 ≡ n → 0 ≡ r → verdict n r ≡ verdict_of (Ok x)
accepted x n r g h = rw (← g, ← h)

pub ruleset ends = (refused, granted, unfound, found, rejected, broken_by, accepted)

-- ---- a result is read back from its numbers, so that two results of the same numbers are one

-- a result by its number, where x is what a grant gives
abbrev ended : {A : Type 0} → ℕ → A → Result A Refusal
ended n x = cond (eqb n 0) (Ok x) (Err (refusal_of n))

ended_err : {A : Type 0} (x : A) (e : Refusal) → ended (number_of e) x ≡ Err e
ended_err x e = let p = numbered e in rw (p.1, p.2, p.4)

code_read : (r : Result (Unit {0}) Refusal) → ended (code r) tt ≡ r
code_read (Ok x) = refl
code_read (Err e) = ended_err tt e

pub codes_apart : (r s : Result (Unit {0}) Refusal) → code r ≡ code s → r ≡ s
codes_apart r s e = sym (code_read r) ∙ ap (λ n. ended n tt) e ∙ code_read s

abbrev read_answer : Answer → Result ℕ Refusal
read_answer a = ended a.number a.place

answer_read : (r : Result ℕ Refusal) → read_answer (answer_of r) ≡ r
answer_read (Ok place) = refl
answer_read (Err e) = ended_err 0 e

pub answers_apart : (r s : Result ℕ Refusal) → answer_of r ≡ answer_of s → r ≡ s
answers_apart r s e = sym (answer_read r) ∙ ap read_answer e ∙ answer_read s

abbrev read_found : Found → Result Climbed Refusal
read_found f = ended f.number (record { value = f.value; climbed = f.climbed; place = f.place })

found_read : (r : Result Climbed Refusal) → read_found (found_of r) ≡ r
found_read (Ok up) = refl
found_read (Err e) = ended_err (record { value = 0; climbed = 0; place = 0 }) e

pub found_apart : (r s : Result Climbed Refusal) → found_of r ≡ found_of s → r ≡ s
found_apart r s e = sym (found_read r) ∙ ap read_found e ∙ found_read s

-- the rules of a claim, by the first that is broken
abbrev kept : ℕ → Result (Unit {0}) Rule
kept n = cond (eqb n 0) (Ok tt) (Err (rule_of n))

kept_read : (r : Result (Unit {0}) Rule) → kept (first_broken r) ≡ r
kept_read (Ok x) = refl
kept_read (Err rule) = let p = ruled rule in rw (p.1, p.2, p.3)

pub rules_apart : (r s : Result (Unit {0}) Rule) → first_broken r ≡ first_broken s → r ≡ s
rules_apart r s e = sym (kept_read r) ∙ ap kept e ∙ kept_read s

-- a claim's, by its two numbers
abbrev read_verdict : Verdict → Result (Unit {0}) Objection
read_verdict v =
    cond (eqb v.number 0) (Ok tt) (cond (eqb v.number 9) (Err (Objection.Broken (rule_of v.rule))) (Err (Objection.Refused (refusal_of v.number))))

verdict_read : (r : Result (Unit {0}) Objection) → read_verdict (verdict_of r) ≡ r
verdict_read (Ok x) = refl
verdict_read (Err (Objection.Refused e)) = let p = numbered e in rw (p.1, p.2, p.3, p.4)
verdict_read (Err (Objection.Broken rule)) = let p = ruled rule in rw (p.1, p.3)

pub verdicts_apart : (r s : Result (Unit {0}) Objection) → verdict_of r ≡ verdict_of s → r ≡ s
verdicts_apart r s e = sym (verdict_read r) ∙ ap read_verdict e ∙ verdict_read s
