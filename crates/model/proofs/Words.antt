-- What is read after a write, once, over the address and the length: a run that was put is read back, and every word outside it stays.
-- A record is a run of words, so that no store of a record needs a law of its own.
-- Assumes nothing.
use Prim.Native.Nat.{ℕ, zero, suc, ◌+◌, ◌≤◌, ◌<◌}
use mathlib.Core.Path.{◌≡◌, refl, sym, ap, ap₂, ◌∙◌}
use mathlib.Core.List.{List, [], ◌∷◌}
use mathlib.Core.Logic.{◌⊎◌, inl, inr, ⊎_elim, ◌≢◌}
use native.Mathlib.Omega.{arith}
use native.Mathlib.Nat.{add-zero, not-suc-le-zero, le_of_suc-le-suc}
use lib.ListN.{length, set, length-set}
use lib.Seq.{get_or-set_same, get_or-set_other, ext_get_or}
use Rattle.model.specs.Words.{◌!◌, words_from, put_from, block, put}

-- address b is outside the n words at a
abbrev pub Outside : ℕ → ℕ → ℕ → Type 0
Outside b a n = (b < a) ⊎ (a + n ≤ b)

-- the n words at b are apart from the m words at a
abbrev pub Apart : ℕ → ℕ → ℕ → ℕ → Type 0
Apart b n a m = (b + n ≤ a) ⊎ (a + m ≤ b)

from-length : (vs t : List ℕ) (a k : ℕ) → length (put_from t a k vs) ≡ length t
from-length [] t a k = refl
from-length (v ∷ vs) t a k = from-length vs (set t (a + k) v) a (suc k) ∙ length-set t (a + k) v

from-other : (vs t : List ℕ) (a k b : ℕ) → Outside b (a + k) (length vs) → put_from t a k vs ! b ≡ t ! b
from-other [] t a k b o = refl
from-other (v ∷ vs) t a k b o =
    from-other vs (set t (a + k) v) a (suc k) b (⊎_elim (λ l. inl (omega arith)) (λ l. inr (omega arith)) o)
    ∙ get_or-set_other t (a + k) b v 0 (⊎_elim (λ l. omega arith) (λ l. omega arith) o)

from-same : (vs t : List ℕ) (a k : ℕ) → a + k + length vs ≤ length t → words_from (put_from t a k vs) a k (length vs) ≡ vs
from-same [] t a k h = refl
from-same (v ∷ vs) t a k h =
    ap₂ ◌∷◌
    (from-other vs (set t (a + k) v) a (suc k) (a + k) (inl (omega arith)) ∙ get_or-set_same t (a + k) v 0 (omega arith))
    (from-same vs (set t (a + k) v) a (suc k) (rw length-set (omega arith)))

from-agree : (t u : List ℕ) (a k n : ℕ) → ((b : ℕ) → a + k ≤ b → b < a + k + n → t ! b ≡ u ! b) → words_from t a k n ≡ words_from u a k n
from-agree t u a k zero h = refl
from-agree t u a k (suc n) h =
    ap₂ ◌∷◌ (h (a + k) (omega arith) (omega arith)) (from-agree t u a (suc k) n (λ b l m. h b (omega arith) (omega arith)))

from_at : (t : List ℕ) (a k n i : ℕ) → i < n → words_from t a k n ! i ≡ t ! (a + k + i)
from_at t a k zero i l = absurd (not-suc-le-zero l)
from_at t a k (suc n) zero l = rw add-zero
from_at t a k (suc n) (suc i) l = from_at t a (suc k) n i (le_of_suc-le-suc l) ∙ ap (λ (b : ℕ). t ! b) (omega arith)

from-count : (t : List ℕ) (a k n : ℕ) → length (words_from t a k n) ≡ n
from-count t a k zero = refl
from-count t a k (suc n) = ap suc (from-count t a (suc k) n)

-- ---- a run that was put

module _ (t : List ℕ) (a : ℕ) (vs : List ℕ) where
  pub put-length : length (put t a vs) ≡ length t
  unfolding put
  put-length = from-length vs t a 0

  pub word-put-other : (b : ℕ) → Outside b a (length vs) → put t a vs ! b ≡ t ! b
  unfolding put
  word-put-other b o = from-other vs t a 0 b (⊎_elim (λ l. inl (omega arith)) (λ l. inr (omega arith)) o)

  pub block-put-same : a + length vs ≤ length t → block (put t a vs) a (length vs) ≡ vs
  unfolding put block
  block-put-same h = from-same vs t a 0 (omega arith)

-- ---- a word of a run

pub block_at : (t : List ℕ) (a n i : ℕ) → i < n → block t a n ! i ≡ t ! (a + i)
unfolding block
block_at t a n i l = from_at t a 0 n i l ∙ rw add-zero

pub block-length : (t : List ℕ) (a n : ℕ) → length (block t a n) ≡ n
unfolding block
block-length t a n = from-count t a 0 n

-- a list with the words of a run is the run
pub is_block : (t : List ℕ) (a n : ℕ) (l : List ℕ) → length l ≡ n → ((i : ℕ) → i < n → l ! i ≡ t ! (a + i)) → l ≡ block t a n
is_block t a n l e h =
    ext_get_or 0 l (block t a n) (e ∙ sym (block-length t a n)) (λ i m. h i (omega arith) ∙ sym (block_at t a n i (omega arith)))

-- runs of rows that agree there are the same
pub block-agree : (t u : List ℕ) (a n : ℕ) → ((b : ℕ) → a ≤ b → b < a + n → t ! b ≡ u ! b) → block t a n ≡ block u a n
unfolding block
block-agree t u a n h = from-agree t u a 0 n (λ b l m. h b (omega arith) (omega arith))

-- ---- one word that was set

module _ (t : List ℕ) (a v : ℕ) where
  pub word-set-same : a < length t → set t a v ! a ≡ v
  word-set-same h = get_or-set_same t a v 0 h

  pub word-set-other : (b : ℕ) → b ≢ a → set t a v ! b ≡ t ! b
  word-set-other b n = get_or-set_other t a b v 0 n
