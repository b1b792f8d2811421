-- The number of the first test that fails, over any list of tests: it is 0 exactly when all hold, and what holds of 0 and of each number holds of it.
-- Assumes nothing.
use Prim.Native.Nat.{suc, zero, ℕ}
use mathlib.Core.Bool.{Bool, false, false≢true, true, true≢false}
use mathlib.Core.List.{List, [], ◌∷◌}
use mathlib.Core.Logic.{◌↔◌, ◌≢◌, ◌⊎◌, inl, inr, ⊎_elim}
use mathlib.Core.Path.{◌∙◌, ◌≡◌, refl, sym}
use Rattle.model.specs.Numbers.{◌unless◌, ◌▹◌}
use Rattle.promises.specs.Tests.{FirstFails, Hold, Test}

-- the number that a list of tests gives
abbrev pub first_of : List Test → ℕ
first_of [] = 0
first_of (x ∷ rest) = x.number unless x.holds ▹ first_of rest

-- what holds of the number of each test
abbrev pub EachNumber : (ℕ → Type 0) → List Test → Type 0
EachNumber P [] = Unit
EachNumber P (x ∷ rest) = P x.number × EachNumber P rest

pub each_number : (P Q : ℕ → Type 0) → ((n : ℕ) → P n → Q n) → (tests : List Test) → EachNumber P tests → EachNumber Q tests
each_number P Q h [] each = tt
each_number P Q h (x ∷ rest) each = (h x.number each.0, each_number P Q h rest each.1)

-- no test has number 0, which is a grant
abbrev pub Numbered : List Test → Type 0
Numbered tests = EachNumber (λ n. n ≢ 0) tests

-- what holds of 0 and of each number holds of the number given
pub first-of : (P : ℕ → Type 0) → P 0 → (tests : List Test) → EachNumber P tests → P (first_of tests)
first-of P z [] each = z
first-of P z (x ∷ rest) each = go x.number x.holds each.0 (first-of P z rest each.1)
  where
    later : (n m : ℕ) → P n → P m → P (n ▹ m)
    later zero m p q = q
    later (suc n) m p q = p

    go : (n : ℕ) (b : Bool) → P n → P (first_of rest) → P (n unless b ▹ first_of rest)
    go n true p q = q
    go n false p q = later n (first_of rest) p q

-- ---- exactly when

fails-first : (n m : ℕ) → n ≢ 0 → n ▹ m ≡ n
fails-first zero m h = absurd (h refl)
fails-first (suc n) m h = refl

pub first-zero : (tests : List Test) → Numbered tests → (first_of tests ≡ 0) ↔ Hold tests
first-zero [] z = (λ e. tt, λ h. refl)
first-zero (x ∷ rest) z = go x.number x.holds z.0 (first-zero rest z.1)
  where
    go : (n : ℕ) (b : Bool) → n ≢ 0 → (first_of rest ≡ 0) ↔ Hold rest → (n unless b ▹ first_of rest ≡ 0) ↔ ((b ≡ true) × Hold rest)
    go n true h r = (λ e. (refl, r.0 e), λ p. r.1 p.1)
    go n false h r = (λ e. absurd (h (sym (fails-first n (first_of rest) h) ∙ e)), λ p. absurd (false≢true p.0))

pub first-number : (tests : List Test) → Numbered tests → (m : ℕ) → m ≢ 0 → (first_of tests ≡ m) ↔ FirstFails tests m
first-number [] z m k = (λ e. k (sym e), λ f. absurd f)
first-number (x ∷ rest) z m k = go x.number x.holds z.0 (first-number rest z.1 m k)
  where
    go : (n : ℕ) (b : Bool) → n ≢ 0 → (first_of rest ≡ m) ↔ FirstFails rest m
        → (n unless b ▹ first_of rest ≡ m) ↔ (((b ≡ false) × (m ≡ n)) ⊎ ((b ≡ true) × FirstFails rest m))
    go n true h r = (
      λ e. inr (refl, r.0 e),
      λ f. ⊎_elim (λ p. absurd (true≢false p.0)) (λ p. r.1 p.1) f,
    )
    go n false h r = (
      λ e. inl (refl, sym e ∙ fails-first n (first_of rest) h),
      λ f. ⊎_elim (λ p. fails-first n (first_of rest) h ∙ sym p.1) (λ p. absurd (false≢true p.0)) f,
    )

-- what holds of each number holds of that of the first test that fails
pub fails_of : (P : ℕ → Type 0) (tests : List Test) → EachNumber P tests → (m : ℕ) → FirstFails tests m → P m
fails_of P [] each m f = absurd f
fails_of P (x ∷ rest) each m f = ⊎_elim (λ p. rw p.1 each.0) (λ p. fails_of P rest each.1 m p.1) f

-- ---- the chains of the definition end without a 0 past their last test, and nest those of the caller

pub then-zero : (n : ℕ) → n ▹ 0 ≡ n
then-zero zero = refl
then-zero (suc n) = refl

pub then-then : (n m k : ℕ) → (n ▹ m) ▹ k ≡ n ▹ m ▹ k
then-then zero m k = refl
then-then (suc n) m k = refl
