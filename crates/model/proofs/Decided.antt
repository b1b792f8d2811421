-- How a number decides, and what it stands for: the first test that fails. `simp tested at e`, of `e : clone_no t c ≡ 0` with the number's
-- definition unfolded, is the product of the facts that were tested.
-- Assumes nothing.
use Prim.Native.Nat.{ℕ, zero, suc, ◌<◌, ◌≤◌}
use mathlib.Core.Path.{◌≡◌, refl, sym}
use mathlib.Core.Bool.{Bool, true, false, cond, not, and-eq-true_iff}
use mathlib.Core.List.{List}
use mathlib.Core.Logic.{◌↔◌}
use native.Mathlib.Omega.{arith}
use borrow.Author.Tests.{ltb-true, lt-ltb, leb-true, le-leb, eqb-true, eqb-false, eq-eqb, ne_eqb, not-true}
use lib.Dec.{ltb, leb, eqb}
use Rattle.model.specs.Numbers.{◌unless◌, ◌▹◌, lower}
use Rattle.model.specs.Outcome.{outcome, granting, refusing, decide}
use Rattle.model.specs.declared.Answer.{Answer}

-- ---- what is decided

module _ (t : List ℕ) (n p : ℕ) (u : List ℕ) where
  -- another number than 0 leaves the row as found
  pub decide-refusing : (n ≡ 0 → ⊥) → decide t n p u ≡ refusing n t
  unfolding decide
  decide-refusing h = go n h
    where
      go : (n : ℕ) → (n ≡ 0 → ⊥) → decide t n p u ≡ refusing n t
      go zero h = absurd (h refl)
      go (suc n) h = refl

  pub decide-granting : n ≡ 0 → decide t n p u ≡ granting p u
  unfolding decide
  decide-granting e = rw e

  -- what holds of the row as found, and of the new one where the call is granted, holds of the row afterwards
  pub decided : (P : List ℕ → Type 0) → P t → (n ≡ 0 → P u) → P (decide t n p u).after
  unfolding decide
  decided P w h = go n h
    where
      go : (n : ℕ) → (n ≡ 0 → P u) → P (decide t n p u).after
      go zero h = h refl
      go (suc n) h = w

  -- a function that stopped at the head, where it found the number m there
  pub is-refusing-at : (head m : ℕ) (a : Answer) → m ≡ head → (m ≡ 0 → ⊥) → a ≡ record { number = m; place = 0 }
      → outcome a t ≡ decide t (head ▹ n) p u
  unfolding decide
  is-refusing-at head m a e z h = grind arith

-- what is answered is the number itself
pub decide-number : (t : List ℕ) (n p : ℕ) (u : List ℕ) → (decide t n p u).answer.number ≡ n
unfolding decide
decide-number t zero p u = refl
decide-number t (suc n) p u = refl

-- a call that changes nothing answers its number either way
pub decide-nothing : (t : List ℕ) (n : ℕ) → refusing n t ≡ decide t n 0 t
unfolding decide
decide-nothing t n = grind arith

-- the same number and place, and the same row where that is granted, are the same decision
pub decides-if : (t : List ℕ) (n m p q : ℕ) (u v : List ℕ) → n ≡ m → p ≡ q → (m ≡ 0 → u ≡ v) → decide t n p u ≡ decide t m q v
unfolding decide
decides-if t n m p q u v e f r = grind arith

pub decides : (t : List ℕ) (n m p q : ℕ) (u v : List ℕ) → n ≡ m → p ≡ q → u ≡ v → decide t n p u ≡ decide t m q v
decides t n m p q u v e f r = cc

-- ---- the tests

pub then-iff : (n m : ℕ) → (n ▹ m ≡ 0) ↔ ((n ≡ 0) × (m ≡ 0))
then-iff n m = (go n, λ h. rw h.0 h.1)
  where
    go : (n : ℕ) → n ▹ m ≡ 0 → (n ≡ 0) × (m ≡ 0)
    go zero e = (refl, e)
    go (suc k) e = absurd (omega arith)

-- the lower of two numbers, where 0 is none
pub lower-iff : (n m : ℕ) → (lower n m ≡ 0) ↔ ((n ≡ 0) × (m ≡ 0))
unfolding lower
lower-iff n m = (go n m, λ h. rw h.0 h.1)
  where
    neither : (b : Bool) (n m : ℕ) → cond b (suc m) (suc n) ≡ 0 → ⊥
    neither true n m e = omega arith
    neither false n m e = omega arith

    some : (n : ℕ) → eqb (suc n) 0 ≡ false
    some n = ne_eqb (suc n) 0 (omega arith)

    go : (n m : ℕ) → lower n m ≡ 0 → (n ≡ 0) × (m ≡ 0)
    go zero m e = (refl, e)
    go (suc n) zero e = absurd (neither false n 0 (rw (some n) at e))
    go (suc n) (suc m) e = absurd (neither (ltb (suc m) (suc n)) n m (rw (some n, some m) at e))

-- nothing is lower than 1
pub lower-one : (n : ℕ) → lower n 1 ≡ 1
unfolding lower
lower-one zero = refl
lower-one (suc zero) = refl
lower-one (suc (suc n)) = rw (ne_eqb (suc (suc n)) 0 (omega arith), lt-ltb 1 (suc (suc n)) (omega arith))

unless-iff : (n : ℕ) (b : Bool) → (suc n unless b ≡ 0) ↔ (b ≡ true)
unless-iff n b = (go b, λ h. rw h)
  where
    go : (b : Bool) → suc n unless b ≡ 0 → b ≡ true
    go true e = refl
    go false e = absurd (omega arith)

-- at each number, since `simp` does not read 5 as suc 4
pub unless-1 : (b : Bool) → (1 unless b ≡ 0) ↔ (b ≡ true)
unless-1 = unless-iff 0

pub unless-2 : (b : Bool) → (2 unless b ≡ 0) ↔ (b ≡ true)
unless-2 = unless-iff 1

pub unless-3 : (b : Bool) → (3 unless b ≡ 0) ↔ (b ≡ true)
unless-3 = unless-iff 2

pub unless-4 : (b : Bool) → (4 unless b ≡ 0) ↔ (b ≡ true)
unless-4 = unless-iff 3

pub unless-5 : (b : Bool) → (5 unless b ≡ 0) ↔ (b ≡ true)
unless-5 = unless-iff 4

pub unless-6 : (b : Bool) → (6 unless b ≡ 0) ↔ (b ≡ true)
unless-6 = unless-iff 5

pub unless-7 : (b : Bool) → (7 unless b ≡ 0) ↔ (b ≡ true)
unless-7 = unless-iff 6

pub unless-8 : (b : Bool) → (8 unless b ≡ 0) ↔ (b ≡ true)
unless-8 = unless-iff 7

pub unless-9 : (b : Bool) → (9 unless b ≡ 0) ↔ (b ≡ true)
unless-9 = unless-iff 8

pub not_iff : (b : Bool) → (not b ≡ true) ↔ (b ≡ false)
not_iff b = (not-true b, λ h. rw h)

pub ltb_iff : (a b : ℕ) → (ltb a b ≡ true) ↔ (a < b)
ltb_iff a b = (ltb-true a b, lt-ltb a b)

pub leb-iff : (a b : ℕ) → (leb a b ≡ true) ↔ (a ≤ b)
leb-iff a b = (leb-true a b, le-leb a b)

pub eqb-iff : (a b : ℕ) → (eqb a b ≡ true) ↔ (a ≡ b)
eqb-iff a b = (eqb-true a b, eq-eqb a b)

pub neb-iff : (a b : ℕ) → (eqb a b ≡ false) ↔ (a ≡ b → ⊥)
neb-iff a b = (eqb-false a b, ne_eqb a b)

pub ruleset tested =
    (then-iff, lower-iff, unless-1, unless-2, unless-3, unless-4, unless-5, unless-6, unless-7, unless-8, unless-9, and-eq-true_iff, not_iff, ltb_iff, leb-iff, eqb-iff, neb-iff)
