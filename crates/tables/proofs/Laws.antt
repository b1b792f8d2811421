-- Nothing is put past the end, and zeros are read there.
use Rattle.std.proofs.Common.{ℕ, suc, ◌+◌, ◌-◌, ◌≤◌, ◌<◌, ◌≡◌, refl, sym, ◌∙◌, ⊎_elim, List, [], ◌∷◌, ◌++◌, min, length, take, drop, replicate, arith}
use Rattle.std.proofs.lemmas.List.{length-append, length-take, drop-replicate, get_or-take, get_or-append_right, get_or-replicate}
use lib.ListN.{length-drop, length-replicate, get_or-append, get_or-eq_default}
use lib.Seq.{set_out, take_all, get_or-drop}
use Rattle.sets.proofs.Below.{lt-or-le}
use Rattle.model.specs.Words.{◌!◌, block, put_from, put}
use Rattle.model.proofs.Words.{is_block}

from_out : (vs t : List ℕ) (a k : ℕ) → length t ≤ a → put_from t a k vs ≡ t
from_out [] t a k h = refl
from_out (v ∷ vs) t a k h = rw (set_out t (a + k) v (omega arith)) (from_out vs t a (suc k) h)

pub put-out : (t : List ℕ) (a : ℕ) (vs : List ℕ) → length t ≤ a → put t a vs ≡ t
unfolding put
put-out t a vs h = from_out vs t a 0 h

pub ruleset puts = (put-out)

-- ---- past the end, and from an address on

pub past_end : (t : List ℕ) (a : ℕ) → length t ≤ a → t ! a ≡ 0
past_end t a l = get_or-eq_default t 0 {n = a} l

-- nothing but zeros stands past the end
pub none-at : (t : List ℕ) (a n : ℕ) → length t ≤ a → replicate n 0 ≡ block t a n
none-at t a n l =
    is_block t a n (replicate n 0) (length-replicate n 0) (λ i m. get_or-replicate n i 0 0 m ∙ sym (past_end t (a + i) (omega arith)))

-- the part of a row from an address on has what stands there
pub part_at : (t : List ℕ) (a i : ℕ) → take (length t - a) (drop a t) ! i ≡ t ! (a + i)
part_at t a i = rw (take_all (length t - a) (drop a t) (rw length-drop (omega arith))) (get_or-drop a t i 0)

-- as much of that part as a run has, over zeros, is the run
pub copied : (t part new : List ℕ) (a m n : ℕ) → part ≡ take (length t - a) (drop a t) → m ≡ min (length part) n → new ≡ take m part
    → new ++ drop m (replicate n 0) ≡ block t a n
copied t part new a m n p e c =
    rw (c, drop-replicate {X = ℕ} m n 0)
    (is_block t a n (take m part ++ replicate (n - m) 0) (rw (length-append, length-take, length-replicate) (omega (arith, e)))
    (λ i l. ⊎_elim (within i) (past i l) (lt-or-le i m) ∙ rw p (part_at t a i)))
  where
    within : (i : ℕ) → i < m → (take m part ++ replicate (n - m) 0) ! i ≡ part ! i
    within i h = get_or-append (take m part) (replicate (n - m) 0) 0 i (rw length-take (omega (arith, e))) ∙ get_or-take m part i 0 h

    past : (i : ℕ) → i < n → m ≤ i → (take m part ++ replicate (n - m) 0) ! i ≡ part ! i
    past i l h =
        get_or-append_right (take m part) (replicate (n - m) 0) m i 0 (rw length-take (omega (arith, e))) h ∙ get_or-replicate (n - m) (i - m) 0 0 (omega arith)
        ∙ sym (past_end part i (omega (arith, e)))
