-- What is kept beside the files is the climb's. One step of the climb reads what is kept for the parent, so that a test of each place by itself
-- is exact (by induction on the depth); a file that no place names as its parent is settled by one step; each sweep over the places makes them
-- right one level further down, whatever their order; and two values that are set do not meet.
-- Assumes nothing.
use Prim.Native.Nat.{ℕ, zero, suc, ◌+◌, ◌*◌, ◌≤◌, ◌<◌}
use mathlib.Core.Path.{◌≡◌, refl, sym, ap, ◌∙◌}
use mathlib.Core.Bool.{true, cond}
use mathlib.Core.List.{List, [], ◌∷◌}
use mathlib.Core.Logic.{◌≢◌, ◌⊎◌, inl, inr, ⊎_elim}
use native.Mathlib.Nat.{add-zero}
use native.Mathlib.Omega.{arith}
use native.Mathlib.Decide.{ℕ_discrete}
use borrow.Author.Tests.{eqb-true, eqb-false, eq-eqb}
use lib.ListN.{length, set}
use lib.Seq.{set_comm}
use lib.Dec.{eqb}
use Rattle.sets.specs.Below.{all_below}
use Rattle.sets.proofs.Below.{all-at, all_of, same_truth, by_bool, lt-or-le}
use Rattle.model.specs.declared.Climbed.{Climbed}
use Rattle.model.specs.declared.File.{File}
use Rattle.model.specs.Numbers.{FILESYSTEM, FILES, DIR, DEPTHS, INHERIT-PARENT, ROOT, TYPES, is_root}
use Rattle.model.specs.Layout.{KIND, PARENT, DEPTH, FILE-TYPE, FILE-WORDS, INITIAL, FORCED, KEPT-TYPE, KEPT-INITIAL, KEPT-FORCED, KEPT-WORDS, KEPT-AT, file_addr, kept_addr}
use Rattle.model.specs.Ranges.{ok_process_forced}
use Rattle.model.specs.Words.{◌!◌, put}
use Rattle.model.specs.Records.{file_word, kept_at, put_file, free_file, occupied}
use Rattle.model.specs.WellFormed.{kept_ok}
use Rattle.model.specs.Effective.{effective, value_at}
use Rattle.model.specs.KeptValues.{own_or_parents, settled, unkept, kept_anew, swept, sweeps, refreshed, revalued}
use Rattle.model.proofs.Words.{block-put-same, block_at}
use Rattle.model.proofs.Records.{by_cond, Written, put_written, set-written, file-written, unwritten, written-within, written_then, file-word-stays, files-stay, kept-stays, kept_set, occupied-stays, file-word-put}
use Rattle.model.proofs.Formed.{Formed, WellFormed, ok_value, Under, Barren, used-file, free-file, parent_dir, depth-bound, no-dir-barren}
use Rattle.model.proofs.Effective.{effective-own, effective-top, effective-up, effective-agree, effective-put-other, value_same, type-range, forced-range}
use Rattle.model.proofs.Places.{beside-formed, set_value}

-- value k kept for file o is the climb's
abbrev pub Right : List ℕ → ℕ → ℕ → Type 0
Right t k o = kept_at t k o ≡ value_at t (FILE-TYPE + k) o

the_value : (e f : Climbed) → e ≡ f → e.value ≡ f.value
the_value e f h = rw h

-- no file is its own parent, since it lies deeper
not-own-parent : (t : List ℕ) (o : ℕ) → Under t o (file_word t o PARENT) → file_word t o PARENT ≢ o
not-own-parent t o y e = let d : file_word t o DEPTH ≡ file_word t o DEPTH + 1 = y.deeper ∙ ap (λ (q : ℕ). file_word t q DEPTH + 1) e in omega arith

-- ---- what is kept is in its range

module _ (t : List ℕ) (w : WellFormed t) where
  pub kept-type-range : (o : ℕ) → o < FILES → occupied t FILESYSTEM o ≡ true → kept_at t KEPT-TYPE o < TYPES
  kept-type-range o l e = rw (w.kept KEPT-TYPE o (omega arith) l) (type-range t w.formed o l e)

  pub kept-forced-range : (o : ℕ) → o < FILES → occupied t FILESYSTEM o ≡ true → ok_process_forced (kept_at t KEPT-FORCED o) ≡ true
  kept-forced-range o l e = rw (w.kept KEPT-FORCED o (omega arith) l) (forced-range t w.formed o l e)

-- ---- one step of the climb

module _ (t : List ℕ) (w : Formed t) where
  -- a place that inherits is occupied
  inherits-used : (s o : ℕ) → s < FILE-WORDS → o < FILES → file_word t o s ≡ INHERIT-PARENT → occupied t FILESYSTEM o ≡ true
  inherits-used s o m l e =
      by_bool (λ b. b ≡ true) (occupied t FILESYSTEM o) (λ h. refl)
      (λ h. let z : file_word t o s ≡ 0 = free-file t w o l h s m in absurd (omega arith))

  -- it gives the climb's value, if what is kept for the parent is the climb's
  pub step-climb : (k o : ℕ) → k < KEPT-WORDS → o < FILES → (Under t o (file_word t o PARENT) → Right t k (file_word t o PARENT))
      → own_or_parents t k o ≡ value_at t (FILE-TYPE + k) o
  unfolding own_or_parents value_at
  step-climb k o m l above =
      by_cond (λ v. v ≡ (effective t (FILE-TYPE + k) o).value) (eqb (file_word t o (FILE-TYPE + k)) INHERIT-PARENT) _ _
      (λ e.
      let z : file_word t o (FILE-TYPE + k) ≡ INHERIT-PARENT = eqb-true _ _ e in
      let u = inherits-used (FILE-TYPE + k) o (omega arith) l z in
      by_cond (λ v. v ≡ (effective t (FILE-TYPE + k) o).value) (is_root o) _ _
      (λ r. rw (eqb-true o ROOT r) (sym (the_value _ _ (effective-top t w (FILE-TYPE + k) (rw (eqb-true o ROOT r) at z)))))
      (λ r.
      let n = eqb-false o ROOT r in
      above ((used-file t w o l u).under n) ∙ sym (the_value _ _ (effective-up t w (FILE-TYPE + k) o l u n z))))
      (λ e. sym (the_value _ _ (effective-own t (FILE-TYPE + k) o (eqb-false _ _ e))))

  -- ---- a test of each place by itself is exact

  right-at : (k : ℕ) → k < KEPT-WORDS → ((o : ℕ) → o < FILES → kept_at t k o ≡ own_or_parents t k o)
      → (d o : ℕ) → o < FILES → file_word t o DEPTH ≡ d → Right t k o
  right-at k m each zero o l depth = each o l ∙ step-climb k o m l (λ y. absurd (omega (arith, y.deeper)))
  right-at k m each (suc d) o l depth =
      each o l ∙ step-climb k o m l (λ y. right-at k m each d (file_word t o PARENT) y.placed (omega (arith, y.deeper)))

  pub one-step-each : all_below FILES (λ o. all_below KEPT-WORDS (λ k. eqb (kept_at t k o) (own_or_parents t k o))) ≡ all_below FILES (kept_ok t)
  unfolding kept_ok
  one-step-each =
      same_truth (all_below FILES (λ o. all_below KEPT-WORDS (λ k. eqb (kept_at t k o) (own_or_parents t k o)))) (all_below FILES (kept_ok t))
      (λ e. all_of (kept_ok t) FILES (λ o l. all_of _ KEPT-WORDS (λ k m.
      eq-eqb _ _ (right-at k m (λ q i. eqb-true _ _ (all-at _ KEPT-WORDS (all-at _ FILES e q i) k m)) (file_word t o DEPTH) o l refl))))
      (λ e. all_of _ FILES (λ o l. all_of _ KEPT-WORDS (λ k m.
      eq-eqb _ _ (right e k o m l ∙ sym (step-climb k o m l (λ y. right e k (file_word t o PARENT) m y.placed))))))
    where
      right : all_below FILES (kept_ok t) ≡ true → (k o : ℕ) → k < KEPT-WORDS → o < FILES → Right t k o
      right e k o m l = eqb-true _ _ (all-at _ KEPT-WORDS (all-at (kept_ok t) FILES e o l) k m)

-- ---- a write of what is kept leaves every climb

module _ {t u : List ℕ} (x : Written t u KEPT-AT (FILES * KEPT-WORDS)) where
  beside-word : (o s : ℕ) → o < FILES → s < FILE-WORDS → file_word u o s ≡ file_word t o s
  beside-word = files-stay x (omega arith)

  pub beside-value : Formed t → (k o : ℕ) → k < KEPT-WORDS → o < FILES → value_at u (FILE-TYPE + k) o ≡ value_at t (FILE-TYPE + k) o
  beside-value w k o m l = value_same t u w beside-word (FILE-TYPE + k) (omega arith) o l

-- ---- a file was put or removed, at a place that no place names as its parent

-- three words are kept for one place, and they are the climb's
entry-right : (t : List ℕ) (o : ℕ) (vs : List ℕ) → Formed t → o < FILES → length vs ≡ KEPT-WORDS
    → ((k : ℕ) → k < KEPT-WORDS → vs ! k ≡ value_at t (FILE-TYPE + k) o)
    → ((k q : ℕ) → k < KEPT-WORDS → q < FILES → q ≢ o → Right t k q) → WellFormed (put t (kept_addr o) vs)
unfolding kept_at
entry-right t o vs w l three own others =
    record {
      formed = beside-formed x w (omega arith) (omega arith);
      kept = λ k q m i.
          elim (ℕ_discrete q o) [
            | yes e ↦ rw e (same k m ∙ own k m ∙ stays k o m l)
            | no n ↦ kept-stays x k q (omega arith) ∙ others k q m i n ∙ stays k q m i
          ];
    }
  where
    x : Written t (put t (kept_addr o) vs) (kept_addr o) KEPT-WORDS
    x = rw three at (put_written t (kept_addr o) vs)

    same : (k : ℕ) → k < KEPT-WORDS → put t (kept_addr o) vs ! (kept_addr o + k) ≡ vs ! k
    same k m =
        sym (block_at (put t (kept_addr o) vs) (kept_addr o) (length vs) k (omega arith))
        ∙ ap (λ (ws : List ℕ). ws ! k) (block-put-same t (kept_addr o) vs (omega (arith, w.sized)))

    stays : (k q : ℕ) → k < KEPT-WORDS → q < FILES → value_at t (FILE-TYPE + k) q ≡ value_at (put t (kept_addr o) vs) (FILE-TYPE + k) q
    stays k q m i = sym (beside-value (written-within x KEPT-AT (FILES * KEPT-WORDS) (omega arith) (omega arith)) w k q m i)

module _ (t : List ℕ) (o : ℕ) where
  pub settled-written : Written t (settled t o) (kept_addr o) KEPT-WORDS
  unfolding settled
  settled-written = put_written t (kept_addr o) (own_or_parents t KEPT-TYPE o ∷ own_or_parents t KEPT-INITIAL o ∷ own_or_parents t KEPT-FORCED o ∷ [])

  pub unkept-written : Written t (unkept t o) (kept_addr o) KEPT-WORDS
  unfolding unkept
  unkept-written = put_written t (kept_addr o) (0 ∷ 0 ∷ 0 ∷ [])

module _ (t : List ℕ) (w : WellFormed t) (o : ℕ) (f : File) (l : o < FILES) (b : Barren t o) (v : Formed (put_file t o f)) where
  abbrev u : List ℕ
  u = put_file t o f

  -- what is kept for the other places stays the climb's
  others : (k q : ℕ) → k < KEPT-WORDS → q < FILES → q ≢ o → Right u k q
  unfolding value_at
  others k q m i n =
      kept-stays (file-written t o f) k q (omega arith) ∙ w.kept k q m i
      ∙ sym (the_value _ _ (effective-put-other t o f w.formed b (FILE-TYPE + k) (omega arith) q i n))

  pub put-settled : WellFormed (settled u o)
  unfolding settled all_below
  put-settled =
      entry-right u o (own_or_parents u KEPT-TYPE o ∷ own_or_parents u KEPT-INITIAL o ∷ own_or_parents u KEPT-FORCED o ∷ []) v l refl
      (λ k m. eqb-true _ _ (all-at (λ k. eqb ((own_or_parents u KEPT-TYPE o ∷ own_or_parents u KEPT-INITIAL o ∷ own_or_parents u KEPT-FORCED o ∷ []) ! k) (value_at u (FILE-TYPE + k) o)) KEPT-WORDS
      (rw (eq-eqb _ _ (step KEPT-TYPE (omega arith)), eq-eqb _ _ (step KEPT-INITIAL (omega arith)), eq-eqb _ _ (step KEPT-FORCED (omega arith)))) k m))
      others
    where
      step : (k : ℕ) → k < KEPT-WORDS → own_or_parents u k o ≡ value_at u (FILE-TYPE + k) o
      step k m = step-climb u v k o m l (λ y. others k (file_word u o PARENT) m y.placed (not-own-parent u o y))

pub removed-unkept : (t : List ℕ) → WellFormed t → (o : ℕ) → o < FILES → Barren t o → Formed (put_file t o free_file) → WellFormed (unkept (put_file t o free_file) o)
unfolding unkept all_below value_at
removed-unkept t w o l b v =
    entry-right (put_file t o free_file) o (0 ∷ 0 ∷ 0 ∷ []) v l refl
    (λ k m. all-zeros k m ∙ sym (the_value _ _ (effective-own (put_file t o free_file) (FILE-TYPE + k) o (λ e. absurd (omega (arith, zero_word k m)))) ∙ zero_word k m))
    (others t w o free_file l b v)
  where
    zero_word : (k : ℕ) → k < KEPT-WORDS → file_word (put_file t o free_file) o (FILE-TYPE + k) ≡ 0
    zero_word zero m = file-word-put t w.formed.sized o free_file FILE-TYPE l (omega arith)
    zero_word (suc zero) m = file-word-put t w.formed.sized o free_file (FILE-TYPE + 1) l (omega arith)
    zero_word (suc (suc zero)) m = file-word-put t w.formed.sized o free_file (FILE-TYPE + 2) l (omega arith)
    zero_word (suc (suc (suc k))) m = absurd (omega arith)

    all-zeros : (k : ℕ) → k < KEPT-WORDS → (0 ∷ 0 ∷ 0 ∷ []) ! k ≡ 0
    all-zeros zero m = refl
    all-zeros (suc zero) m = refl
    all-zeros (suc (suc zero)) m = refl
    all-zeros (suc (suc (suc k))) m = absurd (omega arith)

-- ---- value k is kept anew: one place, a sweep, many sweeps

module _ (k : ℕ) (m : k < KEPT-WORDS) where
  anew-written : (t : List ℕ) (o : ℕ) → Written t (kept_anew t k o) (kept_addr o + k) 1
  unfolding kept_anew
  anew-written t o = set-written t (kept_addr o + k) (own_or_parents t k o)

  anew-beside : (t : List ℕ) (o : ℕ) → o < FILES → Written t (kept_anew t k o) KEPT-AT (FILES * KEPT-WORDS)
  anew-beside t o l = written-within (anew-written t o) KEPT-AT (FILES * KEPT-WORDS) (omega arith) (omega arith)

  -- another place, or another value of it
  pub anew-other : (t : List ℕ) (o j q : ℕ) → j < KEPT-WORDS → (q ≢ o) ⊎ (j ≢ k) → kept_at (kept_anew t k o) j q ≡ kept_at t j q
  anew-other t o j q h d = kept-stays (anew-written t o) j q (⊎_elim (λ n. omega arith) (λ n. omega arith) d)

  -- the place itself, where its parent's is right
  pub anew-right : (t : List ℕ) → Formed t → (o : ℕ) → o < FILES → (Under t o (file_word t o PARENT) → Right t k (file_word t o PARENT)) → Right (kept_anew t k o) k o
  unfolding kept_anew
  anew-right t w o l above =
      kept_set t w.sized k o (own_or_parents t k o) l m ∙ step-climb t w k o m l above ∙ sym (beside-value (unfold kept_anew in anew-beside t o l) w k o m l)

  module _ (low n : ℕ) (within : low + n ≤ FILES) where
    pub swept-beside : (t : List ℕ) (i : ℕ) → i ≤ n → Written t (swept low i t k) KEPT-AT (FILES * KEPT-WORDS)
    unfolding swept
    swept-beside t zero l = unwritten t _ _
    swept-beside t (suc i) l = written_then (swept-beside t i (omega arith)) (anew-beside (swept low i t k) (low + i) (omega arith))

    pub sweeps-beside : (t : List ℕ) (d : ℕ) → Written t (sweeps d low n t k) KEPT-AT (FILES * KEPT-WORDS)
    unfolding sweeps
    sweeps-beside t zero = unwritten t _ _
    sweeps-beside t (suc d) = written_then (sweeps-beside t d) (swept-beside (sweeps d low n t k) n (omega arith))

    -- the other values stay
    swept-other : (t : List ℕ) (j q : ℕ) → j < KEPT-WORDS → j ≢ k → (i : ℕ) → kept_at (swept low i t k) j q ≡ kept_at t j q
    unfolding swept
    swept-other t j q h d zero = refl
    swept-other t j q h d (suc i) = anew-other (swept low i t k) (low + i) j q h (inr d) ∙ swept-other t j q h d i

    pub sweeps-other : (t : List ℕ) (j q : ℕ) → j < KEPT-WORDS → j ≢ k → (d : ℕ) → kept_at (sweeps d low n t k) j q ≡ kept_at t j q
    unfolding sweeps
    sweeps-other t j q h e zero = refl
    sweeps-other t j q h e (suc d) = swept-other (sweeps d low n t k) j q h e n ∙ sweeps-other t j q h e d

    -- above depth d, or outside the range
    abbrev Reached : List ℕ → ℕ → ℕ → Type 0
    Reached t d o = (file_word t o DEPTH < d) ⊎ ((o < low) ⊎ (low + n ≤ o))

    -- a sweep keeps what it reached right, and as far as it has come also one level further down
    swept-right : (t : List ℕ) → Formed t → (d : ℕ) → ((o : ℕ) → o < FILES → Reached t d o → Right t k o)
        → (i : ℕ) → i ≤ n → (o : ℕ) → o < FILES → Reached t d o ⊎ ((o < low + i) × (file_word t o DEPTH < suc d)) → Right (swept low i t k) k o
    unfolding swept
    swept-right t w d before zero l o p (inl r) = before o p r
    swept-right t w d before zero l o p (inr h) = before o p (inr (inl (omega arith)))
    swept-right t w d before (suc i) l o p reached =
        elim (ℕ_discrete o (low + i)) [
          | yes e ↦
              rw e (anew-right s f (low + i) (omega arith)
              (λ y. swept-right t w d before i (omega arith) (file_word s (low + i) PARENT) y.placed (inl (inl (up y (rw e at (depth reached e)))))))
          | no n ↦
              anew-other s (low + i) k o m (inl n)
              ∙ swept-right t w d before i (omega arith) o p (⊎_elim (λ r. inl r) (λ h. inr (omega arith, h.1)) reached)
              ∙ sym (beside-value (anew-beside s (low + i) (omega arith)) f k o m p)
        ]
      where
        s : List ℕ
        s = swept low i t k

        x : Written t s KEPT-AT (FILES * KEPT-WORDS)
        x = swept-beside t i (omega arith)

        f : Formed s
        f = beside-formed x w (omega arith) (omega arith)

        depth : Reached t d o ⊎ ((o < low + suc i) × (file_word t o DEPTH < suc d)) → o ≡ low + i → file_word t o DEPTH < suc d
        depth (inl (inl r)) e = omega arith
        depth (inl (inr (inl r))) e = absurd (omega arith)
        depth (inl (inr (inr r))) e = absurd (omega arith)
        depth (inr h) e = h.1

        up : Under s (low + i) (file_word s (low + i) PARENT) → file_word t (low + i) DEPTH < suc d → file_word t (file_word s (low + i) PARENT) DEPTH < d
        up y h =
            let here : file_word s (low + i) DEPTH ≡ file_word t (low + i) DEPTH = beside-word x (low + i) DEPTH (omega arith) (omega arith) in
            let above : file_word s (file_word s (low + i) PARENT) DEPTH ≡ file_word t (file_word s (low + i) PARENT) DEPTH = beside-word x (file_word s (low + i) PARENT) DEPTH y.placed (omega arith) in
            omega (arith, y.deeper)

    -- so after d sweeps every place above depth d is right, if all outside the range were
    sweeps-right : (t : List ℕ) → Formed t → ((o : ℕ) → o < FILES → (o < low) ⊎ (low + n ≤ o) → Right t k o)
        → (d o : ℕ) → o < FILES → Reached t d o → Right (sweeps d low n t k) k o
    unfolding sweeps
    sweeps-right t w outside zero o l r = outside o l (⊎_elim (λ b. absurd (omega arith)) (λ b. b) r)
    sweeps-right t w outside (suc d) o l r =
        swept-right s (beside-formed x w (omega arith) (omega arith)) d
        (λ q i b. sweeps-right t w outside d q i (⊎_elim (λ z. inl (rw (beside-word x q DEPTH i (omega arith)) at z)) (λ z. inr z) b))
        n (omega arith) o l
        (⊎_elim
        (λ z.
        let same : file_word s o DEPTH ≡ file_word t o DEPTH = beside-word x o DEPTH l (omega arith) in
        ⊎_elim (λ b. inr (b, omega arith)) (λ b. inl (inr (inr b))) (lt-or-le o (low + n)))
        (λ z. inl (inr z)) r)
      where
        s : List ℕ
        s = sweeps d low n t k

        x : Written t s KEPT-AT (FILES * KEPT-WORDS)
        x = sweeps-beside t d

    -- and as no file lies deeper than 15, all are
    pub refreshed-right : (t : List ℕ) → Formed t → ((o : ℕ) → o < FILES → (o < low) ⊎ (low + n ≤ o) → Right t k o)
        → (o : ℕ) → o < FILES → Right (refreshed low n t k) k o
    refreshed-right t w outside o l = sweeps-right t w outside DEPTHS o l (inl (omega (arith, depth-bound t w o l)))

  -- a value that was set moves that value alone, and nothing but what is kept
  pub revalued-written : (t : List ℕ) (o : ℕ) → o < FILES → Written t (revalued t k o) KEPT-AT (FILES * KEPT-WORDS)
  unfolding revalued
  revalued-written t o l =
      by_cond (λ u. Written t u KEPT-AT (FILES * KEPT-WORDS)) (eqb (file_word t o KIND) DIR) _ _
      (λ e. sweeps-beside 0 FILES (omega arith) t DEPTHS) (λ e. anew-beside t o l)

  pub revalued-other : (t : List ℕ) (o j q : ℕ) → j < KEPT-WORDS → j ≢ k → kept_at (revalued t k o) j q ≡ kept_at t j q
  unfolding revalued
  revalued-other t o j q h d =
      by_cond (λ u. kept_at u j q ≡ kept_at t j q) (eqb (file_word t o KIND) DIR) _ _
      (λ e. sweeps-other 0 FILES (omega arith) t j q h d DEPTHS) (λ e. anew-other t o j q h (inr d))

-- ---- a value of a file is set

module _ (t : List ℕ) (w : WellFormed t) (k o v : ℕ) (m : k < KEPT-WORDS) (l : o < FILES) (used : occupied t FILESYSTEM o ≡ true) (ok : ok_value k v ≡ true) where
  abbrev pub value_set : List ℕ
  value_set = set t (file_addr o + (FILE-TYPE + k)) v

  set-formed : Formed value_set
  set-formed = set_value t w.formed o k v l used m ok

  pub set-kept : (j q : ℕ) → j < KEPT-WORDS → kept_at value_set j q ≡ kept_at t j q
  set-kept j q h = kept-stays (set-written t (file_addr o + (FILE-TYPE + k)) v) j q (omega arith)

  pub set_word : (q s : ℕ) → s < FILE-WORDS → (q ≢ o) ⊎ (s ≢ FILE-TYPE + k) → file_word value_set q s ≡ file_word t q s
  set_word q s h d = file-word-stays (set-written t (file_addr o + (FILE-TYPE + k)) v) q s (⊎_elim (λ n. omega arith) (λ n. omega arith) d)

  -- the climb for another value reads no word that was set; and a file that is no DIR is nobody's parent
  climb-other : (j q : ℕ) → j < KEPT-WORDS → j ≢ k → value_at value_set (FILE-TYPE + j) q ≡ value_at t (FILE-TYPE + j) q
  unfolding value_at
  climb-other j q h d =
      the_value _ _
      (effective-agree t value_set (λ q. Unit) (FILE-TYPE + j)
      (λ q y. (set_word q (FILE-TYPE + j) (omega arith) (inr (omega arith)), set_word q PARENT (omega arith) (inr (omega arith)), set_word q DEPTH (omega arith) (inr (omega arith)), y))
      q tt)

  climb-elsewhere : file_word t o KIND ≢ DIR → (j q : ℕ) → j < KEPT-WORDS → q < FILES → q ≢ o → value_at value_set (FILE-TYPE + j) q ≡ value_at t (FILE-TYPE + j) q
  unfolding value_at
  climb-elsewhere d j q h i n =
      the_value _ _
      (effective-agree t value_set (λ q. (q < FILES) × (q ≢ o)) (FILE-TYPE + j)
      (λ q y. (
        set_word q (FILE-TYPE + j) (omega arith) (inl y.1),
        set_word q PARENT (omega arith) (inl y.1),
        set_word q DEPTH (omega arith) (inl y.1),
        ((parent_dir t w.formed q y.0).0, no-dir-barren t w.formed o d q y.0),
      ))
      q (i, n))

  refreshed-formed : WellFormed (refreshed 0 FILES value_set k)
  refreshed-formed =
      record {
        formed = beside-formed x set-formed (omega arith) (omega arith);
        kept = λ j q h i.
            elim (ℕ_discrete j k) [
              | yes e ↦ rw e (refreshed-right k m 0 FILES (omega arith) value_set set-formed (λ q p b. absurd (⊎_elim (λ z. omega arith) (λ z. omega arith) b)) q i)
              | no d ↦
                  sweeps-other k m 0 FILES (omega arith) value_set j q h d DEPTHS ∙ set-kept j q h ∙ w.kept j q h i
                  ∙ sym (climb-other j q h d) ∙ sym (beside-value x set-formed j q h i)
            ];
      }
    where
      x : Written value_set (refreshed 0 FILES value_set k) KEPT-AT (FILES * KEPT-WORDS)
      x = sweeps-beside k m 0 FILES (omega arith) value_set DEPTHS

  anew-formed : file_word t o KIND ≢ DIR → WellFormed (kept_anew value_set k o)
  anew-formed dir =
      record {
        formed = beside-formed x set-formed (omega arith) (omega arith);
        kept = λ j q h i.
            elim (ℕ_discrete q o) [
              | yes e ↦
                  rw e
                  (elim (ℕ_discrete j k) [
                    | yes z ↦ rw z (anew-right k m value_set set-formed o l (λ y. before k (file_word value_set o PARENT) m y.placed (inl (not-own-parent value_set o y))))
                    | no d ↦ anew-other k m value_set o j o h (inr d) ∙ before j o h l (inr d) ∙ sym (beside-value x set-formed j o h l)
                  ])
              | no n ↦ anew-other k m value_set o j q h (inl n) ∙ before j q h i (inl n) ∙ sym (beside-value x set-formed j q h i)
            ];
      }
    where
      x : Written value_set (kept_anew value_set k o) KEPT-AT (FILES * KEPT-WORDS)
      x = anew-beside k m value_set o l

      -- all but value k of file o is right before it is kept anew
      before : (j q : ℕ) → j < KEPT-WORDS → q < FILES → (q ≢ o) ⊎ (j ≢ k) → Right value_set j q
      before j q h i d =
          set-kept j q h ∙ w.kept j q h i ∙ sym (⊎_elim (λ n. climb-elsewhere dir j q h i n) (λ e. climb-other j q h e) d)

  pub revalued-formed : WellFormed (revalued value_set k o)
  unfolding revalued
  revalued-formed =
      by_cond WellFormed (eqb (file_word value_set o KIND) DIR) _ _ (λ e. refreshed-formed)
      (λ e. anew-formed (λ z. eqb-false _ _ e (set_word o KIND (omega arith) (inr (omega arith)) ∙ z)))

-- ---- two values of a file are set: as if one after the other

-- where value j of a file is set, value k of no place reads it
module _ (k o j v : ℕ) (m : k < KEPT-WORDS) (h : j < KEPT-WORDS) (l : o < FILES) (d : j ≢ k) where
  abbrev with : List ℕ → List ℕ
  with t = set t (file_addr o + (FILE-TYPE + j)) v

  own-with : (t : List ℕ) (q : ℕ) → own_or_parents (with t) k q ≡ own_or_parents t k q
  unfolding own_or_parents
  own-with t q =
      let x = set-written t (file_addr o + (FILE-TYPE + j)) v in
      rw (file-word-stays x q (FILE-TYPE + k) (omega arith), file-word-stays x q PARENT (omega arith), kept-stays x k (file_word t q PARENT) (omega arith))

  anew-with : (t : List ℕ) (q : ℕ) → kept_anew (with t) k q ≡ with (kept_anew t k q)
  unfolding kept_anew
  anew-with t q = rw (own-with t q) (set_comm t (file_addr o + (FILE-TYPE + j)) (kept_addr q + k) v (own_or_parents t k q) (omega arith))

  swept-with : (t : List ℕ) (low n : ℕ) → swept low n (with t) k ≡ with (swept low n t k)
  unfolding swept
  swept-with t low zero = refl
  swept-with t low (suc n) = rw (swept-with t low n) (anew-with (swept low n t k) (low + n))

  sweeps-with : (t : List ℕ) (d low n : ℕ) → sweeps d low n (with t) k ≡ with (sweeps d low n t k)
  unfolding sweeps
  sweeps-with t zero low n = refl
  sweeps-with t (suc d) low n = rw (sweeps-with t d low n) (swept-with (sweeps d low n t k) low n)

  revalued-with : (t : List ℕ) (q : ℕ) → revalued (with t) k q ≡ with (revalued t k q)
  unfolding revalued
  revalued-with t q =
      rw (file-word-stays (set-written t (file_addr o + (FILE-TYPE + j)) v) q KIND (omega arith))
      (by_bool (λ b. cond b (refreshed 0 FILES (with t) k) (kept_anew (with t) k q) ≡ with (cond b (refreshed 0 FILES t k) (kept_anew t k q)))
      (eqb (file_word t q KIND) DIR) (λ e. sweeps-with t DEPTHS 0 FILES) (λ e. anew-with t q))

-- the row with the initial value of a file set alone
abbrev pub initial_set : List ℕ → ℕ → ℕ → List ℕ
initial_set t f initial = revalued (set t (file_addr f + INITIAL) initial) KEPT-INITIAL f

module _ (t : List ℕ) (f initial : ℕ) (l : f < FILES) where
  pub one_by_one : (forced : ℕ)
      → revalued (revalued (put t (file_addr f + INITIAL) (initial ∷ forced ∷ [])) KEPT-INITIAL f) KEPT-FORCED f
      ≡ revalued (set (initial_set t f initial) (file_addr f + FORCED) forced) KEPT-FORCED f
  unfolding put
  one_by_one forced =
      let next : file_addr f + INITIAL + 1 ≡ file_addr f + FORCED = omega arith in
      ap (λ (u : List ℕ). revalued u KEPT-FORCED f)
      (rw (add-zero, next) (revalued-with KEPT-INITIAL f KEPT-FORCED forced (omega arith) (omega arith) l (omega arith) (set t (file_addr f + INITIAL) initial) f))

  module _ (w : WellFormed t) (used : occupied t FILESYSTEM f ≡ true) (ok : ok_value KEPT-INITIAL initial ≡ true) where
    pub initial-formed : WellFormed (initial_set t f initial)
    initial-formed = revalued-formed t w KEPT-INITIAL f initial (omega arith) l used ok

    pub still-used : occupied (initial_set t f initial) FILESYSTEM f ≡ true
    still-used =
        occupied-stays (revalued-written KEPT-INITIAL (omega arith) (set t (file_addr f + INITIAL) initial) f l) FILESYSTEM f (omega arith)
        ∙ occupied-stays (set-written t (file_addr f + INITIAL) initial) FILESYSTEM f (omega arith)
        ∙ used

    pub program-roles-formed : (forced : ℕ) → ok_value KEPT-FORCED forced ≡ true
        → WellFormed (revalued (revalued (put t (file_addr f + INITIAL) (initial ∷ forced ∷ [])) KEPT-INITIAL f) KEPT-FORCED f)
    program-roles-formed forced v = rw (one_by_one forced) (revalued-formed (initial_set t f initial) initial-formed KEPT-FORCED f forced (omega arith) l still-used v)
