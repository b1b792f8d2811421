-- What is worked out of the roles once says what the rules of a claim say role by role: a walk over roles and a walk over types
-- may change places, and a union of sets is inside another where each of them is.
use Rattle.std.proofs.Common.{◌≡◌, refl, sym, ◌∙◌, ℕ, ◌<◌, ◌+◌, ◌-◌, Bool, true, false, cond, not, ◌&&◌, ◌||◌, List, length, take, drop, ⊎_elim, arith}
use Rattle.std.proofs.lemmas.Bool.Decides.{eqb_tells}
use Rattle.std.proofs.lemmas.List.FromFn.{get_or-map-range_with_len}
use mathlib.Core.Bool.{or-false, or-true}
use borrow.Author.Tests.{le-leb, lt-leb}
use Rattle.sets.specs.Below.{all_below, some_below}
use Rattle.sets.specs.Sets.{has, added, inside, meets, union}
use Rattle.sets.proofs.Below.{by_bool, same_truth, lt-or-le, both, left, right, all-at, all_of, some_at, some_of, all_same, some_same, all-not, some-and, some-swap, all-swap}
use Rattle.sets.proofs.Sets.{empty-has, added-same, added-past, added-other, inside-at, inside_of, joined-none, has-collect, has-union}
use Rattle.model.specs.Numbers.{FILESYSTEM, CREATE}
use Rattle.model.specs.Words.{◌!◌}
use Rattle.model.specs.Layout.{rights_addr}
use Rattle.model.specs.Records.{role_at, has_right}
use Rattle.model.specs.Claims.{S, T, plain_in, to_some, some_role_to, creates_inside}
use Rattle.tables.proofs.Laws.{part_at, past_end}
use Rattle.claimsets.specs.Family.{EVERY-ROLE, rights_to, reach, birth, born, row_of, closed}

-- ---- a row of rights

module _ (t : List ℕ) (g r : ℕ) where
  -- as much as the tables have of it
  pub rights_part : (part : List ℕ) (a : ℕ) → a ≡ rights_addr g r 0 → part ≡ take (length t - a) (drop a t) → (k : ℕ) → part ! k ≡ t ! rights_addr g r k
  rights_part part a e p k = let q : a + k ≡ rights_addr g r k = omega arith in rw (p, part_at t a k, q)

  pub rights_none : (a : ℕ) → a ≡ rights_addr g r 0 → length t < a → (k : ℕ) → t ! rights_addr g r k ≡ 0
  rights_none a e l k = past_end t (rights_addr g r k) (omega arith)

-- past the end there are no rights, and an empty set adds nothing
pub ruleset rows = (past_end, joined-none)

-- ---- the types that a set of roles reaches

turned : (a b c : Bool) → (a && (b && c)) ≡ (b && (a && c))
turned true b c = refl
turned false true c = refl
turned false false c = refl

module _ (t : List ℕ) (g a : ℕ) (m : a < 32) where
  has-reach : (s k : ℕ) → k < 32 → has (reach t s g a) k ≡ some_below 32 (λ r. has s r && has_right t g r k a)
  unfolding reach rights_to has_right
  has-reach s k l =
      has-collect (λ k. has (rights_to t s g k) a) 32 k l (omega arith) ∙ has-union s (λ r. t ! rights_addr g r k) 32 a m

  -- a role in S has the right to a type in u: u and what S reaches have a type in common
  pub reach-meets : (w : List ℕ) (u : ℕ) → some_role_to t w g u a ≡ meets u (reach t (S w) g a)
  unfolding some_role_to to_some meets
  reach-meets w u =
      some_same _ _ 32 (λ r l. sym (some-and (has (S w) r) (λ k. has u k && has_right t g r k a) 32))
      ∙ some-swap (λ r k. has (S w) r && (has u k && has_right t g r k a)) 32 32
      ∙ some_same _ _ 32
      (λ k l.
      some_same _ _ 32 (λ r n. turned (has (S w) r) (has u k) (has_right t g r k a))
      ∙ some-and (has u k) (λ r. has (S w) r && has_right t g r k a) 32
      ∙ rw (has-reach (S w) k l))

-- ---- what all roles create

inside-union : (s u n : ℕ) (f : ℕ → ℕ) → inside (union n s f) u ≡ all_below n (λ i. not (has s i) || inside (f i) u)
inside-union s u n f =
    same_truth (inside (union n s f) u) (all_below n (λ i. not (has s i) || inside (f i) u))
    (λ e.
    all_of (λ i. not (has s i) || inside (f i) u) n
    (λ i l.
    by_bool (λ b. (not b || inside (f i) u) ≡ true) (has s i)
    (λ h.
    inside_of (f i) u
    (λ v m x. inside-at (union n s f) u e v (has-union s f n v m ∙ some_of (λ i. has s i && has (f i) v) n i l (both (has s i) (has (f i) v) h x))))
    (λ h. refl)))
    (λ e.
    inside_of (union n s f) u
    (λ v m x.
    let i = some_at (λ i. has s i && has (f i) v) n (sym (has-union s f n v m) ∙ x) in
    let all = all-at (λ i. not (has s i) || inside (f i) u) n e i.0 i.1 in
    inside-at (f i.0) u (rw (left (has s i.0) (has (f i.0) v) i.2) at all) v (right (has s i.0) (has (f i.0) v) i.2)))

inside-none : (u : ℕ) → inside 0 u ≡ true
inside-none u = inside_of 0 u (λ v m x. let z : true ≡ false = sym x ∙ empty-has v in cc)

-- a set of one: a plain value is in u
inside-one : (u v : ℕ) → inside (added 0 v) u ≡ plain_in u v
inside-one u v =
    ⊎_elim
    (λ l.
    rw (lt-leb 32 v l)
    (same_truth (inside (added 0 v) u) (has u v) (λ e. inside-at (added 0 v) u e v (added-same 0 v l))
    (λ e.
    inside_of (added 0 v) u
    (λ i m x. ⊎_elim (λ q. rw q.1 e) (λ q. let z : true ≡ false = sym x ∙ added-other 0 v i q.1 ∙ empty-has i in cc) (eqb_tells i v)))))
    (λ l. rw (le-leb 32 v l, added-past 0 v l, inside-none)) (lt-or-le v 32)

every : (r : ℕ) → r < 32 → has EVERY-ROLE r ≡ true
unfolding all_below has
every = all-at (has EVERY-ROLE) 32 refl

not-some-or : (p : ℕ → Bool) (b : Bool) (n : ℕ) → (not (some_below n p) || b) ≡ all_below n (λ k. not (p k) || b)
not-some-or p true n = rw or-true (sym (all_of (λ k. not (p k) || true) n (λ k l. or-true (not (p k)))))
not-some-or p false n = rw or-false (sym (all-not p n) ∙ all_same _ _ n (λ k l. sym (or-false (not (p k)))))

all-or : (b : Bool) (p : ℕ → Bool) (n : ℕ) → all_below n (λ i. b || p i) ≡ (b || all_below n p)
all-or true p n = all_of (λ i. true) n (λ k l. refl)
all-or false p n = refl

not-and-or : (a b c : Bool) → (not (a && b) || c) ≡ (not a || (not b || c))
not-and-or true b c = refl
not-and-or false b c = refl

module _ (t : List ℕ) (u : ℕ) where
  -- role r creates below type k; what it creates is in u
  abbrev can : ℕ → ℕ → Bool
  can r k = has_right t FILESYSTEM r k CREATE

  abbrev makes : ℕ → Bool
  makes r = plain_in u (role_at t r).filecreate

  inside-born : (k : ℕ) → k < 32 → all_below 32 (λ r. not (can r k) || makes r) ≡ inside (row_of (born t EVERY-ROLE) ! k) u
  unfolding row_of born birth has_right
  inside-born k l =
      rw (get_or-map-range_with_len (born t EVERY-ROLE) 0 32 k k 0 l (omega arith), inside-union)
      (all_same _ _ 32 (λ r m. rw (every r m)
      (by_bool (λ b. (not b || makes r) ≡ inside (cond b (added 0 (role_at t r).filecreate) 0) u) (can r k) (λ e. sym (inside-one u (role_at t r).filecreate)) (λ e. sym (inside-none u)))))

  -- C6 for a DIR with the types u: what all roles create below them is in u
  creates-closed : all_below 32 (λ r. not (to_some t FILESYSTEM r u CREATE) || makes r) ≡ closed (row_of (born t EVERY-ROLE)) u
  unfolding closed to_some
  creates-closed =
      all_same _ _ 32 (λ r l. not-some-or (λ k. has u k && can r k) (makes r) 32 ∙ all_same _ _ 32 (λ k m. not-and-or (has u k) (can r k) (makes r)))
      ∙ all-swap (λ r k. not (has u k) || (not (can r k) || makes r)) 32 32
      ∙ all_same _ _ 32 (λ k l. all-or (not (has u k)) (λ r. not (can r k) || makes r) 32 ∙ rw (inside-born k l))

pub births-closed : (t w : List ℕ) (o : ℕ) → creates_inside t w o ≡ closed (row_of (born t EVERY-ROLE)) (T w o)
unfolding creates_inside
births-closed t w o = creates-closed t (T w o)
