-- Effective values in the paper's words: the climb is one step to the parent and then the parent's climb, it ends at the root or at a value that does
-- not inherit, it goes up no further than the depth that it starts with, and the query answers the place where it ends.
-- Assumes nothing.
use Prim.Native.Nat.{◌+◌, ◌<◌, ◌≤◌, suc, zero, ℕ}
use mathlib.Core.Bool.{true}
use mathlib.Core.List.{List}
use mathlib.Core.Logic.{◌≢◌, ◌⊎◌, inl, inr}
use mathlib.Core.Path.{◌∙◌, ◌≡◌, ap, refl, sym}
use native.Mathlib.Numerals.{add-one}
use native.Mathlib.Omega.{arith}
use native.Mathlib.Decide.{ℕ_discrete}
use borrow.Author.Tests.{eqb-false, lt-ltb, ltb-true, not-true}
use Rattle.model.specs.declared.Climbed.{Climbed}
use Rattle.model.specs.Numbers.{DEEPEST, DIR, FILE, FILES, FILESYSTEM, FREE, INHERIT-PARENT, UP-MIXED, USE-FORCED-ROLE}
use Rattle.model.specs.Layout.{FILE-TYPE, FORCED, INITIAL, KIND, PARENT}
use Rattle.model.specs.Records.{file_word, occupied}
use Rattle.model.specs.Effective.{effective, ends_at, root_value, value_at}
use Rattle.model.specs.Queries.{found_by, query, query_no}
use Rattle.model.proofs.Effective.{ComesDown, effective-all, effective-bound, effective-own, effective-top, effective-up}
use Rattle.model.proofs.Records.{file-occupied}
use Rattle.model.proofs.Formed.{Formed, facts, used-file}
use Rattle.promises.specs.Promises.{A-query-answers-the-effective-value, A-query-of-the-kind-answers-FILE-or-DIR, A-query-answers-the-place-its-value-came-from, Asked-at-that-place-a-query-answers-the-same, At-most-15-parents-are-climbed, CameFrom, Inherits, Rule-17, Rule-19, Rule-5, The-count-is-the-number-of-parents-climbed, nth_parent}
use Rattle.promises.specs.Tests.{Hold, query_tests}
use Rattle.promises.proofs.Numbers.{a-query-is-answered-exactly-when-its-tests-hold, found_number}

inherits : (slot default : ℕ) → root_value slot ≡ default → Inherits slot default
unfolding value_at
inherits slot default top t o e l used = (
  λ z n. ap (λ (x : Climbed). x.value) (effective-up t (facts t e).formed slot o l used n z),
  λ z r. rw r (ap (λ (x : Climbed). x.value) (effective-top t (facts t e).formed slot (rw r at z)) ∙ top),
  λ n. ap (λ (x : Climbed). x.value) (effective-own t slot o n),
)

pub rule-5 : Rule-5
unfolding root_value
rule-5 = inherits FILE-TYPE 0 refl

pub rule-17 : Rule-17
unfolding root_value
rule-17 = inherits INITIAL USE-FORCED-ROLE refl

pub rule-19 : Rule-19
unfolding root_value
rule-19 = inherits FORCED UP-MIXED refl

-- ---- how far

pub the-count-is-the-number-of-parents-climbed : The-count-is-the-number-of-parents-climbed
the-count-is-the-number-of-parents-climbed t slot o e l used = (
  λ z n. ap (λ (x : Climbed). x.climbed) (effective-up t (facts t e).formed slot o l used n z),
  λ z r. rw r (ap (λ (x : Climbed). x.climbed) (effective-top t (facts t e).formed slot (rw r at z))),
  λ n. ap (λ (x : Climbed). x.climbed) (effective-own t slot o n),
)

found-bound : (n : ℕ) (e : Climbed) → e.climbed ≤ DEEPEST → (found_by n e).climbed ≤ DEEPEST
found-bound zero e h = h
found-bound (suc n) e h = omega arith

pub at-most-15-parents-are-climbed : At-most-15-parents-are-climbed
unfolding query
at-most-15-parents-are-climbed t slot o =
    (effective-bound t slot o, found-bound (query_no t o) (effective t slot o) (effective-bound t slot o))

-- ---- where from

-- a query that is answered passes its tests, and answers the climb
answered : (t : List ℕ) (slot o : ℕ) → (query t slot o).number ≡ 0 → Hold (query_tests t o) × (query t slot o ≡ found_by 0 (effective t slot o))
unfolding query
answered t slot o e = (
  (a-query-is-answered-exactly-when-its-tests-hold t slot o).0.0 e,
  ap (λ (n : ℕ). found_by n (effective t slot o)) (sym (found_number (query_no t o) (effective t slot o)) ∙ e),
)

-- so that what comes down from where climbs end holds of it
answered-all : (t : List ℕ) (slot : ℕ) (P : ℕ → Climbed → Type 0) → (Formed t → ComesDown t slot P)
    → (o : ℕ) → (query t slot o).number ≡ 0 → P o (effective t slot o)
answered-all t slot P p o e =
    let (formed, (placed, (used, _))) = (answered t slot o e).0 in
    effective-all t (facts t formed).formed slot P (p (facts t formed).formed) o (ltb-true o FILES placed) used

-- a climb passes the file that it began at, and then those that the parent's climb passes
passes-one-more : (t : List ℕ) (slot o : ℕ) (e : Climbed) → file_word t o slot ≡ INHERIT-PARENT
    → CameFrom t slot (file_word t o PARENT) e.value e.climbed e.place → CameFrom t slot o e.value (e.climbed + 1) e.place
passes-one-more t slot o e z (reached, passed, own, default) = (reached ∙ rw (add-one e.climbed), one_more, own, default)
  where
    one_more : (n : ℕ) → n < e.climbed + 1 → file_word t (nth_parent t n o) slot ≡ INHERIT-PARENT
    one_more zero l = z
    one_more (suc n) l = passed n (omega arith)

pub a-query-answers-the-place-its-value-came-from : A-query-answers-the-place-its-value-came-from
a-query-answers-the-place-its-value-came-from t slot o e =
    rw (answered t slot o e).1
    (answered-all t slot (λ o e. CameFrom t slot o e.value e.climbed e.place) (λ w. record {
      own = λ o l u n. (refl, λ n l. absurd (omega arith), λ h. refl, λ h. absurd (n h));
      root = λ z. (refl, λ n l. absurd (omega arith), λ h. absurd (h z), λ h. (refl, refl));
      child = passes-one-more t slot;
    }) o e)

-- a climb ends at an occupied file whose own climb ends where it begins
abbrev Ends : List ℕ → ℕ → ℕ → Climbed → Type 0
Ends t slot o e = (e.place < FILES) × (occupied t FILESYSTEM e.place ≡ true) × (effective t slot e.place ≡ ends_at e.place e.value)

pub asked-at-that-place-a-query-answers-the-same : Asked-at-that-place-a-query-answers-the-same
asked-at-that-place-a-query-answers-the-same t slot o e =
    let (l, u, ends) = answered-all t slot (Ends t slot) (λ w. record {
      own = λ o l u n. (l, u, effective-own t slot o n);
      root = λ z. (omega arith, w.root, effective-top t w slot z);
      child = λ o e z h. h;
    }) o e in
    let p = (effective t slot o).place in
    let (held, found) = answered t slot o e in
    let again = (a-query-is-answered-exactly-when-its-tests-hold t slot p).0.1 (held.0, (lt-ltb p FILES l, (u, tt))) in
    rw found ((answered t slot p again).1 ∙ ap (found_by 0) ends)

-- ---- the value, and the kind

pub a-query-answers-the-effective-value : A-query-answers-the-effective-value
unfolding value_at
a-query-answers-the-effective-value t slot o e =
    let ((formed, (placed, _)), found) = answered t slot o e in
    (rw found, λ k m s. rw (found, s) (sym (unfold value_at in (facts t formed).kept k o m (ltb-true o FILES placed))))

pub a-query-of-the-kind-answers-FILE-or-DIR : A-query-of-the-kind-answers-FILE-or-DIR
a-query-of-the-kind-answers-FILE-or-DIR t o e =
    let ((formed, (placed, (used, _))), found) = answered t KIND o e in
    let most = (used-file t (facts t formed).formed o (ltb-true o FILES placed) used).kind in
    let least = eqb-false (file_word t o KIND) FREE (not-true _ (sym (file-occupied t o) ∙ used)) in
    (found ∙ ap (found_by 0) (effective-own t KIND o (omega arith)), one_of (file_word t o KIND) least most)
  where
    one_of : (k : ℕ) → k ≢ FREE → k ≤ DIR → (k ≡ FILE) ⊎ (k ≡ DIR)
    one_of k least most = elim (ℕ_discrete k FILE) [ yes z ↦ inl z | no n ↦ inr (omega arith) ]
