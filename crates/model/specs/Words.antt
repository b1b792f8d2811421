-- The tables are one row of words. A word of it, a run of words at an address, and the row with such a run replaced.
-- A read past the end is 0 and a write past the end is nothing, so that every definition answers for any row.
-- Assumes nothing.
use Rattle.std.specs.Prelude.{ℕ, zero, suc, ◌+◌, List, [], ◌∷◌, get_or, set}

infixl 90 ◌!◌
-- word k of a list
abbrev pub ◌!◌ : List ℕ → ℕ → ℕ
w ! k = get_or w k 0

-- the n words at a + k, a + k + 1, ..
abbrev pub words_from : List ℕ → ℕ → ℕ → ℕ → List ℕ
words_from t a k zero = []
words_from t a k (suc n) = t ! (a + k) ∷ words_from t a (suc k) n

-- the row with the words vs at a + k, a + k + 1, ..
abbrev pub put_from : List ℕ → ℕ → ℕ → List ℕ → List ℕ
put_from t a k [] = t
put_from t a k (v ∷ vs) = put_from (set t (a + k) v) a (suc k) vs

-- the n words at address a
unfoldable pub block : List ℕ → ℕ → ℕ → List ℕ
block t a n = words_from t a 0 n

-- the row with the words vs at address a
unfoldable pub put : List ℕ → ℕ → List ℕ → List ℕ
put t a vs = put_from t a 0 vs
