-- Laws of the sets. To add 2 ^ i where bit i is 0 turns bit i on and leaves each other bit: below i nothing is carried,
-- and above i the carry stops at bit i. To take 2 ^ i away where bit i is 1 is that read backwards.
-- A word is halved bit by bit, so two words with the same bits are equal. The machine's `&` and `|` act on each bit by itself,
-- and its count of ones adds the bits up: so the words of sets say what their members say one by one.
use Prim.Native.Nat.{ℕ, zero, suc, ◌+◌, ◌-◌, ◌*◌, ◌/◌, ◌%◌, ◌^◌, ◌≤◌, ◌<◌}
use mathlib.Core.Path.{◌≡◌, refl, sym, ap, ◌∙◌}
use mathlib.Core.Bool.{Bool, true, false, cond, not, ◌&&◌, ◌||◌, or-false}
use mathlib.Core.Logic.{⊎_elim, ◌≢◌}
use native.Mathlib.Nat.{add_comm, mod-lt, mod-eq_of_lt, add-mul-div_right, add-div_right, mul_comm, le-div_iff_mul-le, eq-or-lt_of_le, le_of_suc-le-suc}
use native.Mathlib.Numerals.{add-one, one-add}
use native.Mathlib.Omega.{arith}
use borrow.Author.Tests.{eq-eqb, ne_eqb, eqb-true, eqb-false, lt-ltb, le-ltb, ltb-true, le-leb, lt-leb}
use lib.Dec.{ltb, eqb}
use lib.Count.{ones, ones_cat}
use lib.Bits.{bit_and, bit_or, and_shr, or_shr, and_mod, or_mod, and_lt, or_lt}
use lib.Pow.{shr_lt, shl_exact, pow_pos, pow-add, shr-shr, shr_le, mod-pow-add}
use Rattle.sets.specs.Sets.{has, added, removed, size_of, inside, meets, collect, joined, union}
use Rattle.sets.specs.Below.{some_below, count_below}
use Rattle.sets.proofs.Below.{by_bool, same_truth, lt-or-le, left, right, both, all-at, all_of, some_at, some_of, not_some, some_next, count-bound, count-more}

-- ---- words: what adding 2 ^ i does to bit j

at-bit : (s i : ℕ) → (s + 2 ^ i) / 2 ^ i ≡ s / 2 ^ i + 1
at-bit s i = add-div_right s (pow_pos i)

below-bit : (s i j d : ℕ) → i ≡ j + (1 + d) → (s + 2 ^ i) / 2 ^ j % 2 ≡ s / 2 ^ j % 2
below-bit s i j d e = rw (e, pow-add 2 j (1 + d), pow-add 2 1 d, mul_comm (2 ^ j), add-mul-div_right s (2 * 2 ^ d) (pow_pos j)) (omega arith)

above-bit : (s i j d : ℕ) → j ≡ i + (1 + d) → s / 2 ^ i % 2 ≡ 0 → (s + 2 ^ i) / 2 ^ j ≡ s / 2 ^ j
above-bit s i j d e h =
    let half : (s / 2 ^ i + 1) / 2 ≡ s / 2 ^ i / 2 = omega arith in
    rw (e, ← shr-shr (s + 2 ^ i) i (1 + d), ← shr-shr s i (1 + d), at-bit s i, ← shr-shr (s / 2 ^ i + 1) 1 d, ← shr-shr (s / 2 ^ i) 1 d, half)

-- words of n bits with the same bits are equal
same_bits : (n s u : ℕ) → s < 2 ^ n → u < 2 ^ n → ((i : ℕ) → i < n → s / 2 ^ i % 2 ≡ u / 2 ^ i % 2) → s ≡ u
same_bits zero s u hs hu h = omega arith
same_bits (suc n) s u hs hu h =
    let low : s / 2 ^ 0 % 2 ≡ u / 2 ^ 0 % 2 = h 0 (omega arith) in
    let high : (i : ℕ) → i < n → s / 2 / 2 ^ i % 2 ≡ u / 2 / 2 ^ i % 2 = λ i l. rw (shr-shr s 1 i, shr-shr u 1 i, one-add i) (h (suc i) (omega arith)) in
    let rest : s / 2 ≡ u / 2 = same_bits n (s / 2) (u / 2) (shr_lt n 1 (rw add-one hs)) (shr_lt n 1 (rw add-one hu)) high in
    omega arith

-- the machine's 1 << i
pub one_shl : (i : ℕ) → i < 32 → (1 * 2 ^ i) % 2 ^ 32 ≡ 2 ^ i
one_shl i h = let e : (1 * 2 ^ i) % 2 ^ 32 ≡ 1 * 2 ^ i = shl_exact 1 i 32 (omega arith) (omega arith) in omega arith

-- ---- membership is a bit

-- of a number below 32 membership is its bit
pub has_in : (s i : ℕ) → i < 32 → has s i ≡ eqb (s / 2 ^ i % 2) 1
unfolding has
has_in s i h = rw (lt-ltb i 32 h)

pub has-past : (s i : ℕ) → 32 ≤ i → has s i ≡ false
unfolding has
has-past s i h = rw (le-ltb i 32 h)

pub has-bound : (s i : ℕ) → has s i ≡ true → i < 32
unfolding has
has-bound s i e = ltb-true i 32 (left (ltb i 32) (eqb (s / 2 ^ i % 2) 1) e)

has-bit : (s i : ℕ) → has s i ≡ true → s / 2 ^ i % 2 ≡ 1
unfolding has
has-bit s i e = eqb-true (s / 2 ^ i % 2) 1 (right (ltb i 32) (eqb (s / 2 ^ i % 2) 1) e)

no-bit : (s i : ℕ) → i < 32 → has s i ≡ false → s / 2 ^ i % 2 ≡ 0
no-bit s i h e = let n : s / 2 ^ i % 2 ≡ 1 → ⊥ = eqb-false (s / 2 ^ i % 2) 1 (sym (has_in s i h) ∙ e) in omega arith

pub empty-has : (i : ℕ) → has 0 i ≡ false
empty-has i =
    by_bool (λ b. b ≡ false) (has 0 i)
    (λ e. let h : 0 / 2 ^ i % 2 ≡ 1 = has-bit 0 i e in absurd (omega (arith, shr_le 0 i))) (λ e. refl)

no_member : (i : ℕ) → has 0 i ≡ true → ⊥
no_member i e = let z : false ≡ true = sym (empty-has i) ∙ e in let q : ◌≡◌ {A = ℕ} 0 1 = cc in omega arith

pub same-members : (s u : ℕ) → s < 2 ^ 32 → u < 2 ^ 32 → ((i : ℕ) → i < 32 → has s i ≡ has u i) → s ≡ u
same-members s u hs hu h =
    same_bits 32 s u hs hu
    (λ i l. by_bool (λ b. s / 2 ^ i % 2 ≡ u / 2 ^ i % 2) (has s i)
    (λ e. has-bit s i e ∙ sym (has-bit u i (sym (h i l) ∙ e))) (λ e. no-bit s i l e ∙ sym (no-bit u i l (sym (h i l) ∙ e))))

-- ---- the sum and the difference as sets

flip-same : (s i : ℕ) → i < 32 → has s i ≡ false → has (s + 2 ^ i) i ≡ true
flip-same s i l e =
    let h : s / 2 ^ i % 2 ≡ 0 = no-bit s i l e in
    has_in (s + 2 ^ i) i l ∙ eq-eqb ((s + 2 ^ i) / 2 ^ i % 2) 1 (rw (at-bit s i) (omega arith))

flip-other : (s i j : ℕ) → i < 32 → has s i ≡ false → j ≢ i → has (s + 2 ^ i) j ≡ has s j
unfolding has
flip-other s i j l e n =
    ⊎_elim (λ m. rw (below-bit s i j (i - j - 1) (omega arith)))
    (λ m. rw (above-bit s i j (j - i - 1) (omega arith) (no-bit s i l e)))
    (lt-or-le j i)

-- the sum stays within the word
pub sum_fits : (s i : ℕ) → s < 2 ^ 32 → i < 32 → has s i ≡ false → s + 2 ^ i < 2 ^ 32
sum_fits s i hs l e =
    let q : (s + 2 ^ i) / 2 ^ 32 ≡ s / 2 ^ 32 = above-bit s i 32 (31 - i) (omega arith) (no-bit s i l e) in
    omega arith

-- 2 ^ i is part of a set that has i
pub taken-le : (s i : ℕ) → has s i ≡ true → 2 ^ i ≤ s
taken-le s i e =
    let h : s / 2 ^ i % 2 ≡ 1 = has-bit s i e in
    let l : 1 * 2 ^ i ≤ s = (le-div_iff_mul-le (pow_pos i)).0 (omega arith) in
    omega arith

module _ (s i : ℕ) where
  -- ---- with i and without i

  pub added-there : has s i ≡ true → added s i ≡ s
  unfolding added
  added-there e = rw e

  pub added-past : 32 ≤ i → added s i ≡ s
  unfolding added
  added-past h = rw (has-past s i h, le-leb 32 i h)

  pub added_new : i < 32 → has s i ≡ false → added s i ≡ s + 2 ^ i
  unfolding added
  added_new h e = rw (e, lt-leb 32 i h)

  pub removed-there : has s i ≡ true → removed s i ≡ s - 2 ^ i
  unfolding removed
  removed-there e = rw e

  pub removed-absent : has s i ≡ false → removed s i ≡ s
  unfolding removed
  removed-absent e = rw e

  -- to show a thing of the new set, show it in each case
  by-added : (P : ℕ → Type 0) → (has s i ≡ true → P s) → (32 ≤ i → P s) → (i < 32 → has s i ≡ false → P (s + 2 ^ i)) → P (added s i)
  by-added P there past new =
      by_bool (λ b. P (added s i)) (has s i) (λ e. rw (added-there e) (there e))
      (λ e. ⊎_elim (λ l. rw (added_new l e) (new l e)) (λ l. rw (added-past l) (past l)) (lt-or-le i 32))

  pub added-same : i < 32 → has (added s i) i ≡ true
  added-same h = by-added (λ u. has u i ≡ true) (λ e. e) (λ l. absurd (omega arith)) (flip-same s i)

  pub added-other : (j : ℕ) → j ≢ i → has (added s i) j ≡ has s j
  added-other j n = by-added (λ u. has u j ≡ has s j) (λ e. refl) (λ l. refl) (λ l e. flip-other s i j l e n)

  pub removed-same : has (removed s i) i ≡ false
  removed-same = grind (arith, removed-there, removed-absent, has_in, has-bound, has-bit, at-bit (s - 2 ^ i) i, taken-le)

  pub removed-other : (j : ℕ) → j ≢ i → has (removed s i) j ≡ has s j
  removed-other j n = grind (arith, removed-same, removed-there, removed-absent, flip-other (s - 2 ^ i) i j, has-bound, taken-le)

  pub added-fits : s < 2 ^ 32 → added s i < 2 ^ 32
  added-fits h = by-added (λ u. u < 2 ^ 32) (λ e. h) (λ l. h) (λ l e. sum_fits s i h l e)

  pub removed-fits : s < 2 ^ 32 → removed s i < 2 ^ 32
  removed-fits h = grind (arith, removed-there, removed-absent)

  -- ---- how many

  pub size-added : i < 32 → has s i ≡ false → size_of (added s i) ≡ size_of s + 1
  unfolding size_of
  size-added h e = count-more (has s) (has (added s i)) 32 i h e (added-same h) (λ k l n. sym (added-other k n))

  pub size-removed : has s i ≡ true → size_of (removed s i) + 1 ≡ size_of s
  unfolding size_of
  size-removed e = sym (count-more (has (removed s i)) (has s) 32 i (has-bound s i e) removed-same e (λ k l n. removed-other k n))

pub size-bound : (s : ℕ) → size_of s ≤ 32
unfolding size_of
size-bound s = count-bound (has s) 32

-- a digit is 1 just where its place is a member
ones-digit : (s n : ℕ) → n < 32 → ones (s / 2 ^ n % 2) ≡ cond (has s n) 1 0
unfolding ones
ones-digit s n l = by_bool (λ b. ones (s / 2 ^ n % 2) ≡ cond b 1 0) (has s n) (λ e. rw (has-bit s n e)) (λ e. rw (no-bit s n l e))

-- the ones of the lowest digits are counted from the top digit down, as `count_below` counts members
ones_below : (s n : ℕ) → n ≤ 32 → ones (s % 2 ^ n) ≡ count_below n (has s)
unfolding count_below ones
ones_below s zero l = let z : s % 2 ^ 0 ≡ 0 = omega arith in rw z
ones_below s (suc n) l =
    rw (← one-add n, mod-pow-add s 1 n, ones_cat n (s / 2 ^ n % 2) (s % 2 ^ n) (mod-lt s (pow_pos n)), ones-digit s n l, ones_below s n (omega arith))
    (add_comm (cond (has s n) 1 0) (count_below n (has s)))

-- the machine's count of the ones of a word
pub size_word : (s : ℕ) → s < 2 ^ 32 → ones s ≡ size_of s
unfolding size_of
size_word s h = ap ones (sym (mod-eq_of_lt h)) ∙ ones_below s 32 (omega arith)

-- ---- one set inside another

pub inside-at : (s u : ℕ) → inside s u ≡ true → (i : ℕ) → has s i ≡ true → has u i ≡ true
unfolding inside
inside-at s u e i h =
    let m : (not (has s i) || has u i) ≡ true = all-at (λ i. not (has s i) || has u i) 32 e i (has-bound s i h) in
    rw h at m

pub inside_of : (s u : ℕ) → ((i : ℕ) → i < 32 → has s i ≡ true → has u i ≡ true) → inside s u ≡ true
unfolding inside
inside_of s u h =
    all_of (λ i. not (has s i) || has u i) 32
    (λ i l. by_bool (λ b. (not b || has u i) ≡ true) (has s i) (h i l) (λ e. refl))

pub inside-refl : (s : ℕ) → inside s s ≡ true
inside-refl s = inside_of s s (λ i l e. e)

pub inside-trans : (s u v : ℕ) → inside s u ≡ true → inside u v ≡ true → inside s v ≡ true
inside-trans s u v a b = inside_of s v (λ i l e. inside-at u v b i (inside-at s u a i e))

-- ---- the words of two sets taken together

-- an operation on each bit by itself is one on members
module _ (op : ℕ → ℕ → ℕ) (f : Bool → Bool → Bool)
    (shr : (a b k : ℕ) → op a b / 2 ^ k ≡ op (a / 2 ^ k) (b / 2 ^ k))
    (low : (a b k : ℕ) → op a b % 2 ^ k ≡ op (a % 2 ^ k) (b % 2 ^ k))
    (digit : (x y : ℕ) → x < 2 → y < 2 → eqb (op x y) 1 ≡ f (eqb x 1) (eqb y 1)) where
  has-op : (s u i : ℕ) → i < 32 → has (op s u) i ≡ f (has s i) (has u i)
  has-op s u i l =
      rw (has_in (op s u) i l, has_in s i l, has_in u i l, shr s u i, low (s / 2 ^ i) (u / 2 ^ i) 1)
      (digit (s / 2 ^ i % 2) (u / 2 ^ i % 2) (omega arith) (omega arith))

pub has-and : (s u i : ℕ) → has (bit_and s u) i ≡ (has s i && has u i)
has-and s u i =
    ⊎_elim (has-op bit_and ◌&&◌ and_shr and_mod digit s u i) (λ l. rw (has-past (bit_and s u) i l, has-past s i l)) (lt-or-le i 32)
  where
    digit : (x y : ℕ) → x < 2 → y < 2 → eqb (bit_and x y) 1 ≡ (eqb x 1 && eqb y 1)
    digit zero y h k = refl
    digit (suc zero) zero h k = refl
    digit (suc zero) (suc zero) h k = refl
    digit (suc zero) (suc (suc y)) h k = absurd (omega arith)
    digit (suc (suc x)) y h k = absurd (omega arith)

pub has-or : (s u i : ℕ) → has (bit_or s u) i ≡ (has s i || has u i)
has-or s u i =
    ⊎_elim (has-op bit_or ◌||◌ or_shr or_mod digit s u i) (λ l. rw (has-past (bit_or s u) i l, has-past s i l, has-past u i l)) (lt-or-le i 32)
  where
    digit : (x y : ℕ) → x < 2 → y < 2 → eqb (bit_or x y) 1 ≡ (eqb x 1 || eqb y 1)
    digit zero y h k = refl
    digit (suc zero) zero h k = refl
    digit (suc zero) (suc zero) h k = refl
    digit (suc zero) (suc (suc y)) h k = absurd (omega arith)
    digit (suc (suc x)) y h k = absurd (omega arith)

-- ---- two sets that meet

pub meets-of : (s u i : ℕ) → has s i ≡ true → has u i ≡ true → meets s u ≡ true
unfolding meets
meets-of s u i a b = some_of (λ i. has s i && has u i) 32 i (has-bound s i a) (both (has s i) (has u i) a b)

pub meets_at : (s u : ℕ) → meets s u ≡ true → (i : ℕ) × (has s i ≡ true) × (has u i ≡ true)
unfolding meets
meets_at s u e =
    let k = some_at (λ i. has s i && has u i) 32 e in
    (k.0, left (has s k.0) (has u k.0) k.2, right (has s k.0) (has u k.0) k.2)

apart-word : (s u : ℕ) → s < 2 ^ 32 → u < 2 ^ 32 → meets s u ≡ false → bit_and s u ≡ 0
unfolding meets
apart-word s u hs hu e =
    same-members (bit_and s u) 0 (and_lt 32 s u hs hu) (omega arith)
    (λ i l. has-and s u i ∙ not_some (λ i. has s i && has u i) 32 e i l ∙ sym (empty-has i))

-- the machine's test
pub meets_word : (s u : ℕ) → s < 2 ^ 32 → u < 2 ^ 32 → not (eqb (bit_and s u) 0) ≡ meets s u
meets_word s u hs hu =
    by_bool (λ b. not (eqb (bit_and s u) 0) ≡ b) (meets s u)
    (λ e.
    let m = meets_at s u e in
    let h : has (bit_and s u) m.0 ≡ true = has-and s u m.0 ∙ both (has s m.0) (has u m.0) m.1 m.2 in
    rw (ne_eqb (bit_and s u) 0 (λ z. absurd (no_member m.0 (rw z at h)))))
    (λ e. rw (eq-eqb (bit_and s u) 0 (apart-word s u hs hu e)))

-- ---- one set inside another, by words

pub inside-word : (s u : ℕ) → s < 2 ^ 32 → u < 2 ^ 32 → eqb (bit_and s u) s ≡ inside s u
inside-word s u hs hu =
    same_truth (eqb (bit_and s u) s) (inside s u)
    (λ e. inside_of s u (λ i l h. right (has s i) (has u i) (sym (has-and s u i) ∙ rw (eqb-true (bit_and s u) s e) h)))
    (λ e. eq-eqb (bit_and s u) s
    (same-members (bit_and s u) s (and_lt 32 s u hs hu) hs (λ i l. has-and s u i ∙ within i (inside-at s u e i))))
  where
    within : (i : ℕ) → (has s i ≡ true → has u i ≡ true) → (has s i && has u i) ≡ has s i
    within i h = by_bool (λ b. (b && has u i) ≡ b) (has s i) h (λ e. refl)

-- ---- the numbers that have p

module _ (p : ℕ → Bool) where
  pub collect-fits : (n : ℕ) → collect n p < 2 ^ 32
  unfolding collect
  collect-fits zero = omega arith
  collect-fits (suc n) =
      by_bool (λ b. cond b (added (collect n p) n) (collect n p) < 2 ^ 32) (p n) (λ e. added-fits (collect n p) n (collect-fits n)) (λ e. collect-fits n)

  -- a number from n on is not in it
  pub has-collect-past : (n k : ℕ) → n ≤ k → has (collect n p) k ≡ false
  unfolding collect
  has-collect-past zero k l = empty-has k
  has-collect-past (suc n) k l =
      by_bool (λ b. has (cond b (added (collect n p) n) (collect n p)) k ≡ false) (p n)
      (λ e. added-other (collect n p) n k (omega arith) ∙ has-collect-past n k (omega arith)) (λ e. has-collect-past n k (omega arith))

  collect-here : (n : ℕ) → n < 32 → has (collect (suc n) p) n ≡ p n
  unfolding collect
  collect-here n l =
      by_bool (λ b. has (cond b (added (collect n p) n) (collect n p)) n ≡ b) (p n)
      (λ e. added-same (collect n p) n l) (λ e. has-collect-past n n (omega arith))

  collect-there : (n k : ℕ) → k < n → has (collect (suc n) p) k ≡ has (collect n p) k
  unfolding collect
  collect-there n k l =
      by_bool (λ b. has (cond b (added (collect n p) n) (collect n p)) k ≡ has (collect n p) k) (p n)
      (λ e. added-other (collect n p) n k (omega arith)) (λ e. refl)

  pub has-collect : (n k : ℕ) → k < n → n ≤ 32 → has (collect n p) k ≡ p k
  has-collect zero k l m = absurd (omega arith)
  has-collect (suc n) k l m =
      ⊎_elim (λ e. rw e (collect-here n (omega arith))) (λ h. collect-there n k h ∙ has-collect n k h (omega arith))
      (eq-or-lt_of_le (le_of_suc-le-suc l))

  -- as a loop extends it
  pub collect-next : (n : ℕ) → n < 32 → collect (n + 1) p ≡ collect n p + cond (p n) (2 ^ n) 0
  unfolding collect
  collect-next n l = grind (arith, added_new, has-collect-past)

-- a word with the members of a test is the set that it collects
pub is-collect : (s : ℕ) (p : ℕ → Bool) → s < 2 ^ 32 → ((i : ℕ) → i < 32 → has s i ≡ p i) → s ≡ collect 32 p
is-collect s p h same =
    same-members s (collect 32 p) h (collect-fits p 32) (λ i l. same i l ∙ sym (has-collect p 32 i l (omega arith)))

pub collect-same : (p q : ℕ → Bool) → ((i : ℕ) → i < 32 → p i ≡ q i) → collect 32 p ≡ collect 32 q
collect-same p q h = is-collect (collect 32 p) q (collect-fits p 32) (λ i l. has-collect p 32 i l (omega arith) ∙ h i l)

-- ---- the members of either

pub has-joined : (s u i : ℕ) → has (joined s u) i ≡ (has s i || has u i)
unfolding joined
has-joined s u i =
    ⊎_elim (λ l. has-collect (λ i. has s i || has u i) 32 i l (omega arith))
    (λ l. rw (has-past (collect 32 (λ i. has s i || has u i)) i l, has-past s i l, has-past u i l)) (lt-or-le i 32)

pub joined-fits : (s u : ℕ) → joined s u < 2 ^ 32
unfolding joined
joined-fits s u = collect-fits (λ i. has s i || has u i) 32

-- an empty set adds nothing
pub joined-none : (s : ℕ) → s < 2 ^ 32 → joined s 0 ≡ s
unfolding joined
joined-none s h = sym (is-collect s (λ i. has s i || has 0 i) h (λ i l. rw (empty-has i, or-false)))

-- the machine's union
pub joined_word : (s u : ℕ) → s < 2 ^ 32 → u < 2 ^ 32 → bit_or s u ≡ joined s u
unfolding joined
joined_word s u hs hu = is-collect (bit_or s u) (λ i. has s i || has u i) (or_lt 32 s u hs hu) (λ i l. has-or s u i)

-- ---- the members of any

module _ (s : ℕ) (f : ℕ → ℕ) where
  pub has-union : (n v : ℕ) → v < 32 → has (union n s f) v ≡ some_below n (λ i. has s i && has (f i) v)
  unfolding union
  has-union n v l = has-collect (λ v. some_below n (λ i. has s i && has (f i) v)) 32 v l (omega arith)

  pub union-fits : (n : ℕ) → union n s f < 2 ^ 32
  unfolding union
  union-fits n = collect-fits (λ v. some_below n (λ i. has s i && has (f i) v)) 32

  pub union-none : union 0 s f ≡ 0
  unfolding some_below
  union-none = same-members (union 0 s f) 0 (union-fits 0) (omega arith) (λ v l. has-union 0 v l ∙ sym (empty-has v))

  -- as a loop extends it
  pub union-next : (n : ℕ) → union (n + 1) s f ≡ cond (has s n) (joined (union n s f) (f n)) (union n s f)
  union-next n =
      same-members (union (n + 1) s f) (cond (has s n) (joined (union n s f) (f n)) (union n s f)) (union-fits (n + 1)) fits
      (λ v l. has-union (n + 1) v l ∙ some_next (λ i. has s i && has (f i) v) n ∙ rw (← has-union n v l) (here v))
    where
      fits : cond (has s n) (joined (union n s f) (f n)) (union n s f) < 2 ^ 32
      fits = by_bool (λ b. cond b (joined (union n s f) (f n)) (union n s f) < 2 ^ 32) (has s n) (λ e. joined-fits (union n s f) (f n)) (λ e. union-fits n)

      here : (v : ℕ) → (has (union n s f) v || (has s n && has (f n) v)) ≡ has (cond (has s n) (joined (union n s f) (f n)) (union n s f)) v
      here v =
          by_bool (λ b. (has (union n s f) v || (b && has (f n) v)) ≡ has (cond b (joined (union n s f) (f n)) (union n s f)) v) (has s n)
          (λ e. sym (has-joined (union n s f) (f n) v)) (λ e. or-false (has (union n s f) v))

-- what the machine does with the word of a set
pub ruleset by_word = (one_shl, has-bound, sum_fits, taken-le, added_new, removed-there, removed-absent, size_word, meets_word, inside-word, joined_word)
