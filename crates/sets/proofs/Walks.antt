-- The laws of a walk: what `all` of the library over a range says, and, as `grind` applies them, where a walk starts, what one number more
-- adds, and where it is left.
use Rattle.std.proofs.Common.{◌≡◌, ◌<◌, ◌+◌, ◌&&◌, ℕ, Bool, true, false, length, sym, refl, arith, zero-add, add-one, le-ltb}
use Rattle.std.specs.Bool.{MatchBool}
use Rattle.std.specs.List.{AllWithin, HoldsAt, range_with_len}
use Rattle.std.proofs.lemmas.List.FromFn.{length-range_with_len, get_or-range_with_len}
use Rattle.sets.specs.Below.{all_below, first_below}
use Rattle.sets.proofs.Below.{all_of, all-miss, all-next, first-is, first-least}

-- ---- the library's walk

pub all_from_cases : (Post : ℕ → Bool → Type 0) (n : ℕ) (p : ℕ → Bool) (r : Bool)
    → MatchBool r (AllWithin (λ x. Post x true) (range_with_len 0 n) 0 (length (range_with_len 0 n)))
    ((k : ℕ) × (k < length (range_with_len 0 n)) × HoldsAt (λ x. Post x false) (range_with_len 0 n) k)
    → ((k : ℕ) (b : Bool) → k < n → Post k b → b ≡ p k) → r ≡ all_below n p
all_from_cases Post n p true d h =
    sym (all_of p n (λ k l.
    let e = rw (get_or-range_with_len 0 n k 0 l, zero-add k) at (d k 0 (omega arith) (rw (length-range_with_len 0 n) l)) in
    sym (h k true l e)))
all_from_cases Post n p false d h =
    let l : d.0 < n = rw (length-range_with_len 0 n) at d.1 in
    let e = rw (get_or-range_with_len 0 n d.0 0 l, zero-add d.0) at (d.2 0) in
    sym (all-miss p n d.0 l (sym (h d.0 false l e)))

-- ---- a loop that leaves at the first miss

pub all_start : (p : ℕ → Bool) → all_below 0 p ≡ true
unfolding all_below
all_start p = refl

pub all_step : (p : ℕ → Bool) (i : ℕ) → all_below i p ≡ true → p i ≡ true → all_below (i + 1) p ≡ true
all_step p i e h = rw (all-next p i, e, h)

-- at a test that ended a walk
pub all_left : (p : ℕ → Bool) (n k : ℕ) (b : Bool) → k < n → b ≡ p k → b ≡ false → false ≡ all_below n p
all_left p n k b l e h = let q : p k ≡ false = cc in sym (all-miss p n k l q)

pub ruleset walks = (all_start, all_step, all_left)

-- of a walk that carries its verdict along
pub all_more : (p : ℕ → Bool) (i : ℕ) → all_below (i + 1) p ≡ (all_below i p && p i)
all_more p i = all-next p i

pub ruleset carried = (all_start, all_more)

-- ---- a loop that leaves at the first hit

pub first_start : (p : ℕ → Bool) → first_below 0 p ≡ 0
unfolding first_below
first_start p = refl

pub first_step : (p : ℕ → Bool) (i : ℕ) → first_below i p ≡ i → p i ≡ false → first_below (i + 1) p ≡ i + 1
unfolding first_below
first_step p i e h = rw (add-one, e, le-ltb i i (omega arith), h)

-- at the test that found it
pub first_left : (p : ℕ → Bool) (n i : ℕ) → i < n → first_below i p ≡ i → p i ≡ true → i ≡ first_below n p
first_left p n i l e h = sym (first-is p n i l (λ j m. first-least p i j (rw e m)) h)

pub ruleset firsts = (first_start, first_step, first_left)
