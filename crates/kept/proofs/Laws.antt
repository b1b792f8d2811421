-- What the loops of the refresh come to: a place that needs no write, one place more, one sweep more, and that a sweep which moves nothing is
-- the last.
-- Assumes nothing.
use Prim.Native.Nat.{ℕ, zero, suc, ◌+◌, ◌-◌, ◌≤◌}
use mathlib.Core.Bool.{Bool, true, false, ◌&&◌}
use mathlib.Core.List.{List}
use mathlib.Core.Logic.{◌≢◌}
use mathlib.Core.Path.{◌≡◌, refl, sym, ap, ◌∙◌}
use native.Mathlib.Nat.{add-zero}
use native.Mathlib.Numerals.{add-one}
use native.Mathlib.Omega.{arith}
use borrow.Author.Tests.{ne_eqb}
use lib.Dec.{ltb}
use lib.Seq.{set-get_or}
use Rattle.sets.proofs.Below.{walked-past}
use Rattle.model.specs.Numbers.{DEPTHS, ROOT-FORCED}
use Rattle.model.specs.Layout.{FILE-TYPE, INITIAL, KEPT-TYPE, KEPT-INITIAL, kept_addr}
use Rattle.model.specs.Words.{◌!◌}
use Rattle.model.specs.Effective.{root_value}
use Rattle.model.specs.KeptValues.{own_or_parents, kept_anew, swept, sweeps, refreshed}

pub same-anew : (t : List ℕ) (k o : ℕ) → t ! (kept_addr o + k) ≡ own_or_parents t k o → t ≡ kept_anew t k o
unfolding kept_anew
same-anew t k o e = rw (← e) (sym (set-get_or t (kept_addr o + k) 0))

pub ruleset anew = (same-anew)

module _ (low : ℕ) (t : List ℕ) (k : ℕ) where
  -- from place o on to the next
  pub swept-next : (o : ℕ) → low ≤ o → swept low (o + 1 - low) t k ≡ kept_anew (swept low (o - low) t k) k o
  unfolding swept
  swept-next o l =
      let n : o + 1 - low ≡ suc (o - low) = omega arith in
      let p : low + (o - low) ≡ o = omega arith in
      ap (λ (i : ℕ). swept low i t k) n ∙ ap (λ (q : ℕ). kept_anew (swept low (o - low) t k) k q) p

  module _ (n : ℕ) where
    pub sweeps-next : (d : ℕ) → sweeps (d + 1) low n t k ≡ swept low n (sweeps d low n t k) k
    unfolding sweeps
    sweeps-next d = rw add-one

    -- once a sweep moves nothing, no further one does
    pub sweeps-still : (d e : ℕ) → swept low n (sweeps d low n t k) k ≡ sweeps d low n t k → sweeps (d + e) low n t k ≡ sweeps d low n t k
    unfolding sweeps
    sweeps-still d zero s = rw add-zero
    sweeps-still d (suc e) s =
        let next : d + suc e ≡ suc (d + e) = omega arith in
        ap (λ (i : ℕ). sweeps i low n t k) next ∙ ap (λ (u : List ℕ). swept low n u k) (sweeps-still d e s) ∙ s

    -- where the sweeps end, moved nothing or as many as there are depths, the places are refreshed
    pub all-swept : (d : ℕ) (moved : Bool) → d ≤ DEPTHS → (moved && ltb d DEPTHS) ≡ false
        → (moved ≡ false → swept low n (sweeps d low n t k) k ≡ sweeps d low n t k) → sweeps d low n t k ≡ refreshed low n t k
    all-swept d true l e still = let m = walked-past true d DEPTHS e refl in ap (λ (i : ℕ). sweeps i low n t k) (omega arith)
    all-swept d false l e still =
        let rest : d + (DEPTHS - d) ≡ DEPTHS = omega arith in
        sym (sweeps-still d (DEPTHS - d) (still refl)) ∙ ap (λ (i : ℕ). sweeps i low n t k) rest
