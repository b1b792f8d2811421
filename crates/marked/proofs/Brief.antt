-- A value of a DIR is set: what is kept is then swept 16 times over 256 places, which is too dear to compute. One sweep over the first few places
-- comes to the same where nothing is left to do after it: each of them keeps what one step of the climb gives, and behind them are zeros.
-- Assumes nothing.
use Prim.Native.Nat.{ℕ, zero, suc, ◌+◌, ◌-◌, ◌*◌, ◌≤◌, ◌<◌}
use mathlib.Core.Path.{◌≡◌, refl, sym, ap, ◌∙◌}
use mathlib.Core.Bool.{Bool, true, cond, ◌&&◌, and-eq-true_iff}
use mathlib.Core.List.{List, [], ◌∷◌}
use mathlib.Core.Logic.{⊎_elim}
use native.Mathlib.Omega.{arith}
use native.Mathlib.Decide.{ℕ_discrete}
use borrow.Author.Tests.{eqb-true}
use lib.Dec.{eqb}
use lib.ListN.{set}
use lib.Seq.{set-get_or}
use Rattle.sets.specs.Below.{all_below}
use Rattle.sets.proofs.Below.{all-at, left, right, lt-or-le}
use Rattle.model.specs.Numbers.{FILES, DIR, DEPTHS}
use Rattle.model.specs.Layout.{KIND, FILE-TYPE, FILE-WORDS, KEPT-WORDS, file_addr, kept_addr}
use Rattle.model.specs.Words.{◌!◌}
use Rattle.model.specs.Records.{file_word, kept_at}
use Rattle.model.specs.KeptValues.{own_or_parents, kept_anew, swept, sweeps, refreshed, revalued}
use Rattle.model.proofs.Records.{by_cond}

-- the m words at a are zeros, in one walk over the row
unfoldable zeros : ℕ → ℕ → List ℕ → Bool
zeros a m [] = true
zeros zero zero (x ∷ t) = true
zeros zero (suc m) (x ∷ t) = eqb x 0 && zeros zero m t
zeros (suc a) m (x ∷ t) = zeros a m t

zeros-at : (a m : ℕ) (t : List ℕ) → zeros a m t ≡ true → (b : ℕ) → a ≤ b → b < a + m → t ! b ≡ 0
unfolding zeros
zeros-at a m [] e b from to = refl
zeros-at zero zero (x ∷ t) e b from to = absurd (omega arith)
zeros-at zero (suc m) (x ∷ t) e zero from to = eqb-true x 0 (left (eqb x 0) (zeros zero m t) e)
zeros-at zero (suc m) (x ∷ t) e (suc b) from to = zeros-at zero m t (right (eqb x 0) (zeros zero m t) e) b (omega arith) (omega arith)
zeros-at (suc a) m (x ∷ t) e zero from to = absurd (omega arith)
zeros-at (suc a) m (x ∷ t) e (suc b) from to = zeros-at a m t e b (omega arith) (omega arith)

-- as many places as the examples fill before they set a value of a DIR
abbrev FEW : ℕ
FEW = 3

-- a sweep for value k would leave the row as it is
unfoldable still : List ℕ → ℕ → Bool
still t k =
    all_below FEW (λ o. eqb (kept_at t k o) (own_or_parents t k o))
    && zeros (file_addr FEW) ((FILES - FEW) * FILE-WORDS) t
    && zeros (kept_addr FEW) ((FILES - FEW) * KEPT-WORDS) t

unfoldable if_still : List ℕ → List ℕ → ℕ → List ℕ
if_still t u k = cond (still t k) t u

-- `revalued`, with one sweep over few places where that is enough; its line names all that is not named for a call
unfoldable pub briefly : List ℕ → ℕ → ℕ → List ℕ
unfolding if_still still zeros
briefly t k o = cond (eqb (file_word t o KIND) DIR) (if_still (swept 0 FEW t k) (refreshed 0 FILES t k) k) (kept_anew t k o)

module _ (t : List ℕ) (k : ℕ) (m : k < KEPT-WORDS) where
  abbrev s : List ℕ
  s = swept 0 FEW t k

  module _ (e : still s k ≡ true) where
    -- behind the few places both words are zeros, so that the file's own is what is kept
    one-step : (o : ℕ) → o < FILES → kept_at s k o ≡ own_or_parents s k o
    unfolding still kept_at own_or_parents file_word
    one-step o l =
        let h = simp and-eq-true_iff at e in
        ⊎_elim (λ few. eqb-true _ _ (all-at _ FEW h.0.0 o few))
        (λ past.
        let own = zeros-at (file_addr FEW) ((FILES - FEW) * FILE-WORDS) s h.0.1 (file_addr o + (FILE-TYPE + k)) (omega arith) (omega arith) in
        let kept = zeros-at (kept_addr FEW) ((FILES - FEW) * KEPT-WORDS) s h.1 (kept_addr o + k) (omega arith) (omega arith) in
        rw (own, kept))
        (lt-or-le o FEW)

    anew-still : (o : ℕ) → o < FILES → kept_anew s k o ≡ s
    unfolding kept_anew kept_at
    anew-still o l = ap (λ (v : ℕ). set s (kept_addr o + k) v) (sym (one-step o l)) ∙ set-get_or s (kept_addr o + k) 0

    -- so the first sweep leaves s when it goes on behind the few places, and each further sweep does
    first-sweep : (i : ℕ) → FEW ≤ i → i ≤ FILES → swept 0 i t k ≡ s
    unfolding swept
    first-sweep zero from to = absurd (omega arith)
    first-sweep (suc i) from to =
        elim (ℕ_discrete (suc i) FEW) [
          | yes z ↦ ap (λ (n : ℕ). swept 0 n t k) z
          | no n ↦ ap (λ (u : List ℕ). kept_anew u k (0 + i)) (first-sweep i (omega arith) (omega arith)) ∙ anew-still (0 + i) (omega arith)
        ]

    swept-still : (i : ℕ) → i ≤ FILES → swept 0 i s k ≡ s
    unfolding swept
    swept-still zero to = refl
    swept-still (suc i) to = ap (λ (u : List ℕ). kept_anew u k (0 + i)) (swept-still i (omega arith)) ∙ anew-still (0 + i) (omega arith)

    all-sweeps : (d : ℕ) → sweeps (suc d) 0 FILES t k ≡ s
    unfolding sweeps
    all-sweeps zero = first-sweep FILES (omega arith) (omega arith)
    all-sweeps (suc d) = ap (λ (u : List ℕ). swept 0 FILES u k) (all-sweeps d) ∙ swept-still FILES (omega arith)

  pub revalued-briefly : (o : ℕ) → revalued t k o ≡ briefly t k o
  unfolding revalued briefly
  revalued-briefly o =
      ap (λ (u : List ℕ). cond (eqb (file_word t o KIND) DIR) u (kept_anew t k o))
      (by_cond (λ u. refreshed 0 FILES t k ≡ u) (still s k) s (refreshed 0 FILES t k) (λ e. all-sweeps e (DEPTHS - 1)) (λ e. refl))
