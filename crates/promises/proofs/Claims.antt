-- What the checker answers of a claim: the first of its tests 1 to 3 that fails, or else 9 with the first of C1 to C9 that does.
-- Assumes nothing.
use Prim.Native.Nat.{◌≤◌, suc, zero, ℕ}
use mathlib.Core.List.{List, [], ◌∷◌}
use mathlib.Core.Logic.{◌↔◌, ◌≢◌}
use mathlib.Core.Path.{◌∙◌, ◌≡◌, refl, sym}
use mathlib.Core.Bool.{true}
use native.Mathlib.Omega.{arith}
use Rattle.model.specs.Claims.{broken, check, claim_no, verdict}
use Rattle.promises.specs.Promises.{A-claim-answers-0-1-2-3-or-9, A-claim-is-accepted-exactly-when-its-rules-hold, A-claim-is-refused-by-the-first-rule-broken, A-claim-is-refused-by-the-first-test-that-fails, is_one_of}
use Rattle.promises.specs.Tests.{claim_tests, rules}
use Rattle.promises.proofs.First.{Numbered, first-number, first-of, first-zero, first_of, then-zero, fails_of}

module _ (t w : List ℕ) where
  claim-first : claim_no t w ≡ first_of (claim_tests t w)
  unfolding claim_no
  claim-first = simp then-zero

  rule-first : broken t w ≡ first_of (rules t w)
  unfolding broken
  rule-first = simp then-zero

  claim-numbered : Numbered (claim_tests t w)
  claim-numbered = (omega arith, (omega arith, (omega arith, tt)))

  rule-numbered : Numbered (rules t w)
  rule-numbered =
      (omega arith, (omega arith, (omega arith, (omega arith, (omega arith, (omega arith, (omega arith, (omega arith, (omega arith, tt)))))))))

  claim-bound : claim_no t w ≤ 3
  claim-bound = rw claim-first (first-of (λ n. n ≤ 3) (omega arith) (claim_tests t w) (omega arith, (omega arith, (omega arith, tt))))

  rule-bound : broken t w ≤ 9
  rule-bound =
      rw rule-first
      (first-of (λ n. n ≤ 9) (omega arith) (rules t w)
      (omega arith, (omega arith, (omega arith, (omega arith, (omega arith, (omega arith, (omega arith, (omega arith, (omega arith, tt))))))))))

-- ---- the verdict of a number and a rule

verdict-zero : (n r : ℕ) → ((verdict n r).number ≡ 0) ↔ ((n ≡ 0) × (r ≡ 0))
verdict-zero zero zero = (λ e. (refl, refl), λ h. refl)
verdict-zero zero (suc r) = (λ e. absurd (omega arith), λ h. absurd (omega (arith, h.1)))
verdict-zero (suc n) r = (λ e. absurd (omega arith), λ h. absurd (omega (arith, h.0)))

verdict-number : (n r m : ℕ) → m ≢ 9 → m ≢ 0 → ((verdict n r).number ≡ m) ↔ (n ≡ m)
verdict-number zero zero m k z = (λ e. e, λ e. e)
verdict-number zero (suc r) m k z = (λ e. absurd (k (sym e)), λ e. absurd (z (sym e)))
verdict-number (suc n) r m k z = (λ e. e, λ e. e)

verdict-rule : (n r m : ℕ) → n ≤ 3 → (((verdict n r).number ≡ 9) × ((verdict n r).rule ≡ m)) ↔ ((n ≡ 0) × (r ≡ m) × (m ≢ 0))
verdict-rule zero zero m l = (λ h. absurd (omega (arith, h.0)), λ h. absurd (h.2 (sym h.1)))
verdict-rule zero (suc r) m l = (λ h. let e = h.1 in (refl, e, omega arith), λ h. (refl, h.1))
verdict-rule (suc n) r m l = (λ h. absurd (omega (arith, h.0)), λ h. absurd (omega (arith, h.0)))

verdict-plain : (n r : ℕ) → (verdict n r).number ≢ 9 → (verdict n r).rule ≡ 0
verdict-plain zero zero h = refl
verdict-plain zero (suc r) h = absurd (h refl)
verdict-plain (suc n) r h = refl

verdict-known : (n r : ℕ) → n ≤ 3 → is_one_of (verdict n r).number (0 ∷ 1 ∷ 2 ∷ 3 ∷ 9 ∷ []) ≡ true
verdict-known zero zero l = refl
verdict-known zero (suc r) l = refl
verdict-known (suc zero) r l = refl
verdict-known (suc (suc zero)) r l = refl
verdict-known (suc (suc (suc zero))) r l = refl
verdict-known (suc (suc (suc (suc n)))) r l = absurd (omega arith)

-- ---- claims

pub a-claim-answers-0-1-2-3-or-9 : A-claim-answers-0-1-2-3-or-9
unfolding check
a-claim-answers-0-1-2-3-or-9 t w = (
  verdict-known (claim_no t w) (broken t w) (claim-bound t w),
  verdict-plain (claim_no t w) (broken t w),
  λ e.
      let h = (verdict-rule (claim_no t w) (broken t w) (check t w).rule (claim-bound t w)).0 (e, refl) in
      let b = rule-bound t w in
      let r : broken t w ≡ (check t w).rule = h.1 in
      let z : (check t w).rule ≢ 0 = h.2 in
      (omega arith, omega arith),
)

pub a-claim-is-accepted-exactly-when-its-rules-hold : A-claim-is-accepted-exactly-when-its-rules-hold
unfolding check
a-claim-is-accepted-exactly-when-its-rules-hold t w =
    let tests = first-zero (claim_tests t w) (claim-numbered t w) in
    let rule = first-zero (rules t w) (rule-numbered t w) in (
      λ e. let h = (verdict-zero (claim_no t w) (broken t w)).0 e in (tests.0 (sym (claim-first t w) ∙ h.0), rule.0 (sym (rule-first t w) ∙ h.1)),
      λ h. (verdict-zero (claim_no t w) (broken t w)).1 (claim-first t w ∙ tests.1 h.0, rule-first t w ∙ rule.1 h.1),
    )

pub a-claim-is-refused-by-the-first-test-that-fails : A-claim-is-refused-by-the-first-test-that-fails
unfolding check
a-claim-is-refused-by-the-first-test-that-fails t w n z k =
    let v = verdict-number (claim_no t w) (broken t w) n k z in
    let tests = first-number (claim_tests t w) (claim-numbered t w) n z in
    (λ e. tests.0 (sym (claim-first t w) ∙ v.0 e), λ h. v.1 (claim-first t w ∙ tests.1 h))

pub a-claim-is-refused-by-the-first-rule-broken : A-claim-is-refused-by-the-first-rule-broken
unfolding check
a-claim-is-refused-by-the-first-rule-broken t w n =
    let v = verdict-rule (claim_no t w) (broken t w) n (claim-bound t w) in
    let tests = first-zero (claim_tests t w) (claim-numbered t w) in (
      λ e.
          let h = v.0 e in
          (tests.0 (sym (claim-first t w) ∙ h.0), (first-number (rules t w) (rule-numbered t w) n h.2).0 (sym (rule-first t w) ∙ h.1)),
      λ h.
          let z = fails_of (λ m. m ≢ 0) (rules t w) (rule-numbered t w) n h.1 in
          v.1 (claim-first t w ∙ tests.1 h.0, rule-first t w ∙ (first-number (rules t w) (rule-numbered t w) n z).1 h.1, z),
    )
