-- The test of a file and of what is kept for it, in the parts that the code tests: a free place, and any other by its kind, its link and its values.
-- Assumes nothing.
use Prim.Native.Nat.{ℕ, ◌+◌}
use mathlib.Core.Path.{◌≡◌, refl, sym, ◌∙◌}
use mathlib.Core.Bool.{Bool, true, false, cond, ◌&&◌, and-eq-true_iff, false≢true}
use mathlib.Core.List.{List, [], ◌∷◌}
use mathlib.Core.Logic.{◌≢◌}
use native.Mathlib.Omega.{arith}
use borrow.Author.Tests.{eqb-true, eq-eqb, ne_eqb}
use lib.Dec.{eqb, leb}
use Rattle.sets.specs.Below.{all_below}
use Rattle.sets.proofs.Below.{same_truth, by_bool, both}
use Rattle.model.specs.Numbers.{FREE, DIR, INHERIT-PARENT, ROOT, ROOT-TYPE, ROOT-INITIAL, ROOT-FORCED, is_root}
use Rattle.model.specs.Layout.{KIND, PARENT, DEPTH, FILE-TYPE, INITIAL, FORCED, FILE-WORDS, KEPT-TYPE, KEPT-INITIAL, KEPT-FORCED, file_addr}
use Rattle.model.specs.Ranges.{ok_type, ok_initial, ok_forced}
use Rattle.model.specs.Words.{block}
use Rattle.model.specs.Records.{file_word, kept_at}
use Rattle.model.specs.WellFormed.{link_ok, file_ok}
use Rattle.model.specs.Effective.{root_value}
use Rattle.model.specs.KeptValues.{own_or_parents}
use Rattle.fitting.specs.Steps.{step_ok, value_ok, values_ok, free_ok}

-- the three steps, one by one
three-steps : (t : List ℕ) (o : ℕ) → step_ok t o ≡ (eqb (kept_at t KEPT-TYPE o) (own_or_parents t KEPT-TYPE o) && eqb (kept_at t KEPT-INITIAL o) (own_or_parents t KEPT-INITIAL o) && eqb (kept_at t KEPT-FORCED o) (own_or_parents t KEPT-FORCED o))
unfolding step_ok all_below
three-steps t o = refl

-- the test of a file, on its words and its parent's
words-ok : (t : List ℕ) (o : ℕ) → file_ok t o ≡
    cond (eqb (file_word t o KIND) FREE)
    (eqb (file_word t o PARENT) 0 && eqb (file_word t o DEPTH) 0 && eqb (file_word t o FILE-TYPE) 0 && eqb (file_word t o INITIAL) 0 && eqb (file_word t o FORCED) 0)
    (leb (file_word t o KIND) DIR && ok_type (file_word t o FILE-TYPE) && ok_initial (file_word t o INITIAL) && ok_forced (file_word t o FORCED)
    && link_ok o (file_word t o KIND ∷ file_word t o PARENT ∷ file_word t o DEPTH ∷ []) (block t (file_addr (file_word t o PARENT)) FILE-WORDS))
unfolding file_ok block file_word
words-ok t o = refl

-- a file's own value is what one step gives, unless it inherits
own-step : (t : List ℕ) (k o v : ℕ) → file_word t o (FILE-TYPE + k) ≡ v → v ≢ INHERIT-PARENT → own_or_parents t k o ≡ v
unfolding own_or_parents
own-step t k o v e n = rw (e, ne_eqb v INHERIT-PARENT n)

-- ---- tests, put together in another order

after-zeros : (z a b c s : Bool) → (z ≡ true → s ≡ (a && b && c)) → (z && a && b && c) ≡ (z && s)
after-zeros true a b c s h = sym (h refl)
after-zeros false a b c s h = refl

by_values : (k a b c l x y z : Bool) → k ≡ true → l ≡ true → ((a && x) && (b && y) && (c && z)) ≡ ((k && a && b && c && l) && (x && y && z))
by_values k a b c l x y z kind link =
    same_truth ((a && x) && (b && y) && (c && z)) ((k && a && b && c && l) && (x && y && z))
    (λ e. let h = simp and-eq-true_iff at e in rw (kind, link, h.0.0.0, h.0.0.1, h.0.1.0, h.0.1.1, h.1.0, h.1.1))
    (λ e. let h = simp and-eq-true_iff at e in rw (h.0.0.0.0.1, h.0.0.0.1, h.0.0.1, h.1.0.0, h.1.0.1, h.1.1))

no-link : (k a b c l s : Bool) → (k && l) ≡ false → ((k && a && b && c && l) && s) ≡ false
no-link k a b c l s e =
    same_truth ((k && a && b && c && l) && s) false
    (λ i. let h = simp and-eq-true_iff at i in sym e ∙ both k l h.0.0.0.0.0 h.0.1) (λ i. absurd (false≢true i))

-- inherit parent is in the range of every value of a file
one_value : (ok : ℕ → Bool) → ok INHERIT-PARENT ≡ true → (own kept above : ℕ)
    → value_ok (ok own) own kept above ≡ (ok own && eqb kept (cond (eqb own INHERIT-PARENT) above own))
unfolding value_ok
one_value ok fits own kept above =
    by_bool
    (λ b. eqb own INHERIT-PARENT ≡ b → cond b (eqb kept above) (ok own && eqb kept own) ≡ (ok own && eqb kept (cond b above own)))
    (eqb own INHERIT-PARENT)
    (λ e i. rw (eqb-true own INHERIT-PARENT i, fits))
    (λ e i. refl)
    refl

module _ (t : List ℕ) (o : ℕ) where
  -- ---- a free place

  pub free-test : file_word t o KIND ≡ FREE → free_ok t o ≡ (file_ok t o && step_ok t o)
  unfolding free_ok
  free-test free =
      rw (words-ok t o, eq-eqb _ FREE free)
      (after-zeros
      (eqb (file_word t o PARENT) 0 && eqb (file_word t o DEPTH) 0 && eqb (file_word t o FILE-TYPE) 0 && eqb (file_word t o INITIAL) 0 && eqb (file_word t o FORCED) 0)
      (eqb (kept_at t KEPT-TYPE o) 0) (eqb (kept_at t KEPT-INITIAL o) 0) (eqb (kept_at t KEPT-FORCED o) 0) (step_ok t o)
      (λ z.
      let h = simp and-eq-true_iff at z in
      three-steps t o
      ∙ rw (own-step t KEPT-TYPE o 0 (eqb-true _ 0 h.0.0.1) (omega arith), own-step t KEPT-INITIAL o 0 (eqb-true _ 0 h.0.1) (omega arith), own-step t KEPT-FORCED o 0 (eqb-true _ 0 h.1) (omega arith))))

  -- ---- any other place

  -- what lies above file o: its parent's, or what a root reads
  abbrev above : ℕ → ℕ
  above k = cond (is_root o) (root_value (FILE-TYPE + k)) (kept_at t k (file_word t o PARENT))

  -- its kind and its link
  abbrev pub linked : Bool
  linked = link_ok o (file_word t o KIND ∷ file_word t o PARENT ∷ file_word t o DEPTH ∷ []) (block t (file_addr (file_word t o PARENT)) FILE-WORDS)

  pub unlinked-test : file_word t o KIND ≢ FREE → (leb (file_word t o KIND) DIR && linked) ≡ false → (file_ok t o && step_ok t o) ≡ false
  unlinked-test used e =
      rw (words-ok t o, ne_eqb _ FREE used)
      (no-link (leb (file_word t o KIND) DIR) (ok_type (file_word t o FILE-TYPE)) (ok_initial (file_word t o INITIAL)) (ok_forced (file_word t o FORCED)) linked (step_ok t o) e)

  values-test : file_word t o KIND ≢ FREE → (leb (file_word t o KIND) DIR && linked) ≡ true
      → values_ok t o (above KEPT-TYPE) (above KEPT-INITIAL) (above KEPT-FORCED) ≡ (file_ok t o && step_ok t o)
  unfolding values_ok own_or_parents
  values-test used e =
      let h = simp and-eq-true_iff at e in
      rw (
        words-ok t o,
        ne_eqb _ FREE used,
        three-steps t o,
        one_value ok_type refl (file_word t o FILE-TYPE) (kept_at t KEPT-TYPE o) (above KEPT-TYPE),
        one_value ok_initial refl (file_word t o INITIAL) (kept_at t KEPT-INITIAL o) (above KEPT-INITIAL),
        one_value ok_forced refl (file_word t o FORCED) (kept_at t KEPT-FORCED o) (above KEPT-FORCED),
      )
      (by_values (leb (file_word t o KIND) DIR) (ok_type (file_word t o FILE-TYPE)) (ok_initial (file_word t o INITIAL)) (ok_forced (file_word t o FORCED)) linked _ _ _ h.0 h.1)

  pub root-test : o ≡ ROOT → file_word t o KIND ≢ FREE → (leb (file_word t o KIND) DIR && linked) ≡ true
      → values_ok t o ROOT-TYPE ROOT-INITIAL ROOT-FORCED ≡ (file_ok t o && step_ok t o)
  unfolding root_value
  root-test z used e = rw (eq-eqb o ROOT z) at (values-test used e)

  pub child-test : o ≢ ROOT → file_word t o KIND ≢ FREE → (leb (file_word t o KIND) DIR && linked) ≡ true
      → values_ok t o (kept_at t KEPT-TYPE (file_word t o PARENT)) (kept_at t KEPT-INITIAL (file_word t o PARENT)) (kept_at t KEPT-FORCED (file_word t o PARENT))
      ≡ (file_ok t o && step_ok t o)
  child-test n used e = rw (ne_eqb o ROOT n) at (values-test used e)
