-- Effective values: the ways that a climb goes (rules 5, 17, 19), what comes down with it from where it ends, and that it is the same wherever the
-- files climbed are.
-- Assumes nothing.
use Prim.Native.Nat.{ℕ, zero, suc, ◌+◌, ◌-◌, ◌%◌, ◌<◌, ◌≤◌}
use mathlib.Core.Path.{◌≡◌, refl, sym, ap, ◌∙◌}
use mathlib.Core.Bool.{true}
use mathlib.Core.List.{List}
use mathlib.Core.Logic.{◌≢◌}
use native.Mathlib.Omega.{arith}
use native.Mathlib.Decide.{ℕ_discrete}
use native.Mathlib.Numerals.{sub-one}
use borrow.Author.Tests.{leb-true, eqb-true, eqb-false, eq-eqb, ne_eqb}
use lib.Dec.{eqb}
use Rattle.model.specs.declared.File.{File}
use Rattle.model.specs.Numbers.{DEEPEST, DEPTHS, FILESYSTEM, FILES, TYPES, FREE, INHERIT-PARENT, ROOT}
use Rattle.model.specs.Layout.{DEPTH, FILE-TYPE, FORCED, PARENT, FILE-WORDS}
use Rattle.model.specs.Ranges.{ok_process_forced}
use Rattle.model.specs.Words.{◌!◌}
use Rattle.model.specs.Records.{kind_word, file_words, put_file, file_word, occupied}
use Rattle.model.specs.Effective.{ends_at, one_up, climb, effective, value_at, root_value}
use Rattle.model.specs.Transitions.{default_or}
use Rattle.model.specs.declared.Climbed.{Climbed}
use Rattle.model.proofs.Records.{by_cond, file-word-put, file-word-put-other, file-put-occupied}
use Rattle.model.proofs.Formed.{Formed, forced-iff, process-forced-iff, ok_value, Under, Barren, used-file, parent_dir, dir-occupied, depth-bound}

-- ---- the ways that a climb goes, on any row

module _ (t : List ℕ) (s o : ℕ) where
  -- a value that does not inherit is the file's own
  pub climb-own : (d : ℕ) → file_word t o s ≢ INHERIT-PARENT → climb d t s o ≡ ends_at o (file_word t o s)
  unfolding climb
  climb-own zero n = rw (ne_eqb _ _ n)
  climb-own (suc d) n = rw (ne_eqb _ _ n)

  -- with no parent left, inherit parent reads as the root's default
  pub climb-root : file_word t o s ≡ INHERIT-PARENT → climb 0 t s o ≡ ends_at o (root_value s)
  unfolding climb
  climb-root e = rw (eq-eqb _ _ e)

  pub climb-up : (d : ℕ) → d ≢ 0 → file_word t o s ≡ INHERIT-PARENT → climb d t s o ≡ one_up (climb (d - 1) t s (file_word t o PARENT))
  unfolding climb
  climb-up zero n e = absurd (n refl)
  climb-up (suc d) n e = rw (eq-eqb _ _ e, sub-one)

  pub effective-own : file_word t o s ≢ INHERIT-PARENT → effective t s o ≡ ends_at o (file_word t o s)
  unfolding effective
  effective-own n = climb-own (file_word t o DEPTH % DEPTHS) n

-- it passes no more parents than there are, and no more than 15
pub climb-bound : (d : ℕ) (t : List ℕ) (s o : ℕ) → (climb d t s o).climbed ≤ d
unfolding climb
climb-bound zero t s o =
    by_cond {A = Climbed} (λ e. e.climbed ≤ 0) (eqb (file_word t o s) INHERIT-PARENT) _ _ (λ z. omega arith) (λ n. omega arith)
climb-bound (suc d) t s o =
    by_cond {A = Climbed} (λ e. e.climbed ≤ suc d) (eqb (file_word t o s) INHERIT-PARENT) _ _
    (λ z. omega (arith, climb-bound d t s (file_word t o PARENT))) (λ n. omega arith)

pub effective-bound : (t : List ℕ) (s o : ℕ) → (effective t s o).climbed ≤ DEEPEST
unfolding effective
effective-bound t s o = omega (arith, climb-bound (file_word t o DEPTH % DEPTHS) t s o)

-- ---- on well-formed tables

-- P of a file and its climb holds wherever a climb ends, and comes down from a parent to a child that inherits
pub record ComesDown (t : List ℕ) (s : ℕ) (P : ℕ → Climbed → Type 0) : Type 0 where
  pub own : (o : ℕ) → o < FILES → occupied t FILESYSTEM o ≡ true → file_word t o s ≢ INHERIT-PARENT → P o (ends_at o (file_word t o s))
  pub root : file_word t ROOT s ≡ INHERIT-PARENT → P ROOT (ends_at ROOT (root_value s))
  pub child : (o : ℕ) (e : Climbed) → file_word t o s ≡ INHERIT-PARENT → P (file_word t o PARENT) e → P o (one_up e)

module _ (t : List ℕ) (w : Formed t) where
  -- the depth is the number of parents
  pub effective-climb : (s o : ℕ) → o < FILES → effective t s o ≡ climb (file_word t o DEPTH) t s o
  unfolding effective
  effective-climb s o l = let b = depth-bound t w o l in ap (λ (d : ℕ). climb d t s o) (omega arith)

  -- at the root, and one step up
  pub effective-top : (s : ℕ) → file_word t ROOT s ≡ INHERIT-PARENT → effective t s ROOT ≡ ends_at ROOT (root_value s)
  effective-top s z =
      effective-climb s ROOT (omega arith) ∙ rw ((used-file t w ROOT (omega arith) w.root).top refl).2 (climb-root t s ROOT z)

  pub effective-up : (s o : ℕ) → o < FILES → occupied t FILESYSTEM o ≡ true → o ≢ ROOT → file_word t o s ≡ INHERIT-PARENT
      → effective t s o ≡ one_up (effective t s (file_word t o PARENT))
  effective-up s o l e n z =
      let y = (used-file t w o l e).under n in
      let d : file_word t o DEPTH - 1 ≡ file_word t (file_word t o PARENT) DEPTH = omega (arith, y.deeper) in
      effective-climb s o l
      ∙ climb-up t s o (file_word t o DEPTH) (λ r. omega (arith, y.deeper)) z
      ∙ rw (d, effective-climb s (file_word t o PARENT) y.placed)

  climb-all : (s : ℕ) (P : ℕ → Climbed → Type 0) → ComesDown t s P
      → (d o : ℕ) → o < FILES → occupied t FILESYSTEM o ≡ true → file_word t o DEPTH ≡ d → P o (climb d t s o)
  unfolding climb
  climb-all s P p zero o l e depth =
      by_cond {A = Climbed} (P o) (eqb (file_word t o s) INHERIT-PARENT) _ _
      (λ z. rw at-root (p.root (rw at-root at (eqb-true (file_word t o s) INHERIT-PARENT z))))
      (λ n. p.own o l e (eqb-false _ _ n))
    where
      at-root : o ≡ ROOT
      at-root = elim (ℕ_discrete o ROOT) [ yes z ↦ z | no n ↦ let y = ((used-file t w o l e).under n).deeper in absurd (omega arith) ]
  climb-all s P p (suc d) o l e depth =
      by_cond {A = Climbed} (P o) (eqb (file_word t o s) INHERIT-PARENT) _ _
      (λ z.
      let y = (used-file t w o l e).under (λ r. let b = ((used-file t w o l e).top r).2 in omega arith) in
      let above = climb-all s P p d (file_word t o PARENT) y.placed (dir-occupied t (file_word t o PARENT) y.dir) (omega (arith, y.deeper)) in
      p.child o _ (eqb-true _ _ z) above)
      (λ n. p.own o l e (eqb-false _ _ n))

  -- what comes down holds of every occupied file
  pub effective-all : (s : ℕ) (P : ℕ → Climbed → Type 0) → ComesDown t s P → (o : ℕ) → o < FILES → occupied t FILESYSTEM o ≡ true → P o (effective t s o)
  effective-all s P p o l e = rw (effective-climb s o l) (climb-all s P p (file_word t o DEPTH) o l e refl)

  -- a climb ends at a value in range that is not inherit parent, or at the root's
  pub effective-value : (P : ℕ → Type 0) (k : ℕ) → k < 3 → P (root_value (FILE-TYPE + k)) → ((v : ℕ) → ok_value k v ≡ true → v ≢ INHERIT-PARENT → P v)
      → (o : ℕ) → o < FILES → occupied t FILESYSTEM o ≡ true → P (value_at t (FILE-TYPE + k) o)
  unfolding value_at
  effective-value P k kl default plain =
      effective-all (FILE-TYPE + k) (λ o e. P e.value) (record {
        own = λ o l e n. plain _ ((used-file t w o l e).values k kl) n;
        root = λ z. default;
        child = λ o e z p. p;
      })

  pub type-range : (o : ℕ) → o < FILES → occupied t FILESYSTEM o ≡ true → value_at t FILE-TYPE o < TYPES
  unfolding root_value
  type-range o l e = effective-value (λ v. v < TYPES) 0 (omega arith) (omega arith) (λ v h n. let m = leb-true v INHERIT-PARENT h in omega arith) o l e

  pub forced-range : (o : ℕ) → o < FILES → occupied t FILESYSTEM o ≡ true → ok_process_forced (value_at t FORCED o) ≡ true
  unfolding root_value
  forced-range o l e =
      effective-value (λ v. ok_process_forced v ≡ true) 2 (omega arith) refl
      (λ v h n. let m = (forced-iff v).0 h in (process-forced-iff v).1 (m.0, n, m.1)) o l e

-- ---- where files are the same, or only one is put

-- rows whose files agree, on a set of files that has its parents, have the same effective values there
module _ (t u : List ℕ) (Q : ℕ → Type 0) (s : ℕ)
    (agree : (o : ℕ) → Q o → (file_word u o s ≡ file_word t o s) × (file_word u o PARENT ≡ file_word t o PARENT) × (file_word u o DEPTH ≡ file_word t o DEPTH) × Q (file_word t o PARENT)) where
  climb-agree : (d o : ℕ) → Q o → climb d u s o ≡ climb d t s o
  unfolding climb
  climb-agree zero o q = rw (agree o q).0
  climb-agree (suc d) o q = rw ((agree o q).0, (agree o q).1, climb-agree d (file_word t o PARENT) (agree o q).3)

  pub effective-agree : (o : ℕ) → Q o → effective u s o ≡ effective t s o
  unfolding effective
  effective-agree o q = rw ((agree o q).2, climb-agree (file_word t o DEPTH % DEPTHS) o q)

-- where every word of every file is the same, so is every effective value
pub effective-same : (t u : List ℕ) → Formed t → ((o k : ℕ) → o < FILES → k < FILE-WORDS → file_word u o k ≡ file_word t o k)
    → (s : ℕ) → s < FILE-WORDS → (o : ℕ) → o < FILES → effective u s o ≡ effective t s o
effective-same t u w h s sl o l =
    effective-agree t u (λ o. o < FILES) s
    (λ o m. (h o s m sl, h o PARENT m (omega arith), h o DEPTH m (omega arith), (parent_dir t w o m).0)) o l

pub value_same : (t u : List ℕ) → Formed t → ((o k : ℕ) → o < FILES → k < FILE-WORDS → file_word u o k ≡ file_word t o k)
    → (s : ℕ) → s < FILE-WORDS → (o : ℕ) → o < FILES → value_at u s o ≡ value_at t s o
unfolding value_at
value_same t u w h s sl o l = ap (λ (c : Climbed). c.value) (effective-same t u w h s sl o l)

-- a write of a place that no place names as its parent leaves every other effective value
pub effective-put-other : (t : List ℕ) (o : ℕ) (f : File) → Formed t → Barren t o → (s : ℕ) → s < FILE-WORDS
    → (q : ℕ) → q < FILES → q ≢ o → effective (put_file t o f) s q ≡ effective t s q
effective-put-other t o f w b s sl q l n =
    effective-agree t (put_file t o f) (λ q. (q < FILES) × (q ≢ o)) s
    (λ q h. (
      file-word-put-other t o f q s h.1 sl,
      file-word-put-other t o f q 1 h.1 (omega arith),
      file-word-put-other t o f q 2 h.1 (omega arith),
      ((parent_dir t w q h.0).0, b q h.0),
    ))
    q (l, n)

-- and the file that is put there has its own value, or inherits its parent's
pub effective-put-same : (t : List ℕ) (o : ℕ) (f : File) → Formed t → Formed (put_file t o f) → Barren t o → o < FILES → o ≢ 0
    → kind_word f.kind ≢ FREE → (s : ℕ) → s < FILE-WORDS
    → value_at (put_file t o f) s o ≡ default_or (file_words f ! s) (value_at t s f.parent)
unfolding default_or value_at
effective-put-same t o f w v b l n k s sl =
    by_cond (λ z. (effective u s o).value ≡ z) (eqb (file_words f ! s) INHERIT-PARENT) _ _
    (λ z.
    ap (λ (c : Climbed). c.value) (effective-up u v s o l e n (word s sl ∙ eqb-true _ _ z))
    ∙ ap (λ (q : ℕ). (effective u s q).value) up
    ∙ ap (λ (c : Climbed). c.value) (effective-put-other t o f w b s sl f.parent (rw up at y.placed) apart))
    (λ z. ap (λ (c : Climbed). c.value) (effective-own u s o (λ i. eqb-false _ _ z (sym (word s sl) ∙ i))) ∙ word s sl)
  where
    u : List ℕ
    u = put_file t o f

    word : (k : ℕ) → k < FILE-WORDS → file_word u o k ≡ file_words f ! k
    word k m = file-word-put t w.sized o f k l m

    e : occupied u FILESYSTEM o ≡ true
    e = file-put-occupied t w.sized o f l ∙ rw (ne_eqb (kind_word f.kind) 0 k)

    y : Under u o (file_word u o PARENT)
    y = (used-file u v o l e).under n

    up : file_word u o PARENT ≡ f.parent
    up = word PARENT (omega arith)

    -- no file is its own parent, since it lies deeper
    apart : f.parent ≢ o
    apart z = let d : file_word u o DEPTH ≡ file_word u o DEPTH + 1 = y.deeper ∙ ap (λ (q : ℕ). file_word u q DEPTH + 1) (up ∙ z) in omega arith
