-- What an accepted claim says, as facts: each rule is an `all_below` of tests, and what is used of it is the test at one role, type or place.
-- Assumes nothing.
use Prim.Native.Nat.{ℕ, zero, suc, ◌<◌}
use mathlib.Core.Path.{◌≡◌, refl}
use mathlib.Core.Bool.{Bool, true, false, not, ◌&&◌, ◌||◌}
use mathlib.Core.List.{List}
use mathlib.Core.Logic.{◌≢◌, ◌⊎◌, ⊎_elim}
use native.Mathlib.Omega.{arith}
use borrow.Author.Tests.{lt-leb, eq-eqb, eqb-true}
use lib.Dec.{eqb}
use Rattle.sets.specs.Below.{all_below, some_below}
use Rattle.sets.specs.Sets.{has}
use Rattle.sets.proofs.Below.{both, either, which, all-at, some_of}
use Rattle.sets.proofs.Sets.{has-bound, inside-at}
use Rattle.model.specs.Numbers.{GROUPS, FILESYSTEM, PROCESS, PROCESSES, FILES, ROLES, USERS, TYPES, DIR, INHERIT-PARENT, INHERIT-USER, UP-MIXED, WRITE, EXECUTE, CREATE, DELETE, CHANGE-OWNER, ASSIGN}
use Rattle.model.specs.Layout.{KEPT-FORCED, KEPT-INITIAL, KEPT-TYPE, KIND}
use Rattle.model.specs.Records.{process_at, file_word, kept_at, role_at, user_role, has_right, occupied}
use Rattle.model.specs.WellFormed.{well_formed}
use Rattle.model.specs.Claims.{process_in, type_in, S, Q, T, to_some, some_role_to, plain_in, startable, own_forced, carried, assigns_nothing, creates_inside, holds, starts, C1, C2, C3, C4, C5, C6, C7, C8, C9, broken, claim_no, verdict, check, powerless, spares}
use Rattle.model.specs.Runs.{changes}
use Rattle.model.proofs.Decided.{tested}
use Rattle.model.proofs.Formed.{WellFormed, facts, dir-occupied}

-- ---- the words that the rules use

-- the test `not a || b`: b follows from a
implies-at : (a b : Bool) → not a || b ≡ true → a ≡ true → b ≡ true
implies-at true b e h = e
implies-at false b e h = cc

pub implies-of : (a b : Bool) → (a ≡ true → b ≡ true) → not a || b ≡ true
implies-of true b h = h refl
implies-of false b h = refl

-- a test of every role in S, at one of them
at-role : (w : List ℕ) (p : ℕ → Bool) → all_below ROLES (λ r. not (has (S w) r) || p r) ≡ true → (r : ℕ) → has (S w) r ≡ true → p r ≡ true
at-role w p e r h = implies-at (has (S w) r) (p r) (all-at (λ r. not (has (S w) r) || p r) ROLES e r (has-bound (S w) r h)) h

-- a value that is in the set s where it is plain
abbrev pub PlainIn : ℕ → ℕ → Type 0
PlainIn s v = v < INHERIT-PARENT → has s v ≡ true

plain_in_lem : (s v : ℕ) → plain_in s v ≡ true → PlainIn s v
plain_in_lem s v e l = rw (lt-leb INHERIT-PARENT v l) at e

-- a role with the right to a type k of the set s has it to some type of s
to_some_lem : (t : List ℕ) (g r s right k : ℕ) → has s k ≡ true → has_right t g r k right ≡ true → to_some t g r s right ≡ true
unfolding to_some
to_some_lem t g r s right k h e =
    some_of (λ k. has s k && has_right t g r k right) TYPES k (has-bound s k h) (both (has s k) (has_right t g r k right) h e)

pub some-role-to : (t w : List ℕ) (g r s right k : ℕ) → has (S w) r ≡ true → has s k ≡ true → has_right t g r k right ≡ true
    → some_role_to t w g s right ≡ true
unfolding some_role_to
some-role-to t w g r s right k m h e =
    some_of (λ r. has (S w) r && to_some t g r s right) ROLES r (has-bound (S w) r m)
    (both (has (S w) r) (to_some t g r s right) m (to_some_lem t g r s right k h e))

-- a role in S with EXECUTE to a type in T(o) makes o startable
pub startable-by : (t w : List ℕ) (o r k : ℕ) → has (S w) r ≡ true → has (T w o) k ≡ true → has_right t FILESYSTEM r k EXECUTE ≡ true
    → startable t w o ≡ true
unfolding startable
startable-by t w o r k = some-role-to t w FILESYSTEM r (T w o) EXECUTE k

-- the two ways of being carried
pub carried-own : (t w : List ℕ) → carried t w (own_forced t w) ≡ true
unfolding carried
carried-own t w = rw (eq-eqb (own_forced t w) (own_forced t w) refl)

pub carried-by : (t w : List ℕ) (o : ℕ) → o < FILES → startable t w o ≡ true → carried t w (kept_at t KEPT-FORCED o) ≡ true
unfolding carried
carried-by t w o l h =
    let v = kept_at t KEPT-FORCED o in
    either (eqb (own_forced t w) v) (some_below FILES (λ o. startable t w o && eqb (kept_at t KEPT-FORCED o) v))
    (some_of (λ o. startable t w o && eqb (kept_at t KEPT-FORCED o) v) FILES o l (both (startable t w o) (eqb (kept_at t KEPT-FORCED o) v) h (eq-eqb v v refl)))

-- ---- the facts, rule by rule

pub record Accepted (t w : List ℕ) : Type 0 where
  pub formed : WellFormed t
  pub placed : process_in w < PROCESSES
  pub live : occupied t PROCESS (process_in w) ≡ true
  -- C1
  pub role : has (S w) (process_at t (process_in w)).role ≡ true
  pub rctype : has (Q w) (process_at t (process_in w)).rctype ≡ true
  -- C2
  pub unmarked : (r : ℕ) → has (S w) r ≡ true → (role_at t r).mark ≡ false
  pub administers_none : (r : ℕ) → has (S w) r ≡ true → (role_at t r).admin.bits ≡ 0
  pub assigns_none : (r : ℕ) → has (S w) r ≡ true → (role_at t r).assign.bits ≡ 0
  pub assigns_no_type : (r g k : ℕ) → has (S w) r ≡ true → g < GROUPS → k < TYPES → has_right t g r k ASSIGN ≡ false
  -- C3
  pub changes_not : (r right : ℕ) → has (S w) r ≡ true → changes right ≡ true → has_right t FILESYSTEM r (type_in w) right ≡ false
  pub creates_not : (r : ℕ) → has (S w) r ≡ true → (role_at t r).filecreate ≢ type_in w
  -- C4
  pub compatible : (r s : ℕ) → has (S w) r ≡ true → has (role_at t r).compatible.bits s ≡ true → has (S w) s ≡ true
  -- C5
  pub processcreate : (r : ℕ) → has (S w) r ≡ true → PlainIn (Q w) (role_at t r).processcreate
  pub execute : (r : ℕ) → has (S w) r ≡ true → PlainIn (Q w) (role_at t r).execute
  pub chown : (r : ℕ) → has (S w) r ≡ true → PlainIn (Q w) (role_at t r).chown
  -- C6
  pub own_type : (o : ℕ) → o < FILES → occupied t FILESYSTEM o ≡ true → has (T w o) (kept_at t KEPT-TYPE o) ≡ true
  pub created_type : (o r k : ℕ) → o < FILES → file_word t o KIND ≡ DIR → r < ROLES → has (T w o) k ≡ true
      → has_right t FILESYSTEM r k CREATE ≡ true → PlainIn (T w o) (role_at t r).filecreate
  -- C7
  pub own : PlainIn (S w) (own_forced t w)
  pub initial : (o : ℕ) → o < FILES → startable t w o ≡ true → PlainIn (S w) (kept_at t KEPT-INITIAL o)
  pub forced : (o : ℕ) → o < FILES → startable t w o ≡ true → PlainIn (S w) (kept_at t KEPT-FORCED o)
  -- C8
  pub owner : carried t w INHERIT-USER ≡ true → has (S w) (user_role t (process_at t (process_in w)).owner) ≡ true
  -- C9
  pub users : some_role_to t w PROCESS (Q w) CHANGE-OWNER ≡ true → (carried t w INHERIT-USER ≡ true) ⊎ (carried t w UP-MIXED ≡ true)
      → (u : ℕ) → u < USERS → has (S w) (user_role t u) ≡ true

module _ (t w : List ℕ) where
  -- neither a number nor a rule stands against the claim
  no-refusal : (check t w).number ≡ 0 → (claim_no t w ≡ 0) × (broken t w ≡ 0)
  unfolding check
  no-refusal e = go (claim_no t w) (broken t w) e
    where
      go : (n r : ℕ) → (verdict n r).number ≡ 0 → (n ≡ 0) × (r ≡ 0)
      go zero zero e = (refl, refl)
      go zero (suc r) e = absurd (omega arith)
      go (suc n) r e = absurd (omega arith)

  numbered : claim_no t w ≡ 0 → (well_formed t ≡ true) × (process_in w < PROCESSES) × (occupied t PROCESS (process_in w) ≡ true)
  unfolding claim_no
  numbered e = let h = simp tested at e in (h.0.0, h.1.0.0, h.1.1)

  rules : broken t w ≡ 0
      → (C1 t w ≡ true) × (C2 t w ≡ true) × (C3 t w ≡ true) × (C4 t w ≡ true) × (C5 t w ≡ true)
      × (C6 t w ≡ true) × (C7 t w ≡ true) × (C8 t w ≡ true) × (C9 t w ≡ true)
  unfolding broken
  rules e = let h = simp tested at e in search

  c1 : C1 t w ≡ true → (has (S w) (process_at t (process_in w)).role ≡ true) × (has (Q w) (process_at t (process_in w)).rctype ≡ true)
  unfolding C1
  c1 e = simp tested at e

  c2 : C2 t w ≡ true → (r : ℕ) → has (S w) r ≡ true
      → ((role_at t r).mark ≡ false) × ((role_at t r).admin.bits ≡ 0) × ((role_at t r).assign.bits ≡ 0) × (assigns_nothing t r ≡ true)
  unfolding C2 powerless
  c2 e r m = let h = simp tested at (at-role w _ e r m) in search

  nothing : (r : ℕ) → assigns_nothing t r ≡ true → (g k : ℕ) → g < GROUPS → k < TYPES → has_right t g r k ASSIGN ≡ false
  unfolding assigns_nothing
  nothing r e g k l m = simp tested at (all-at _ TYPES (all-at _ GROUPS e g l) k m)

  c3 : C3 t w ≡ true → (r : ℕ) → has (S w) r ≡ true
      → (has_right t FILESYSTEM r (type_in w) WRITE ≡ false) × (has_right t FILESYSTEM r (type_in w) CREATE ≡ false)
      × (has_right t FILESYSTEM r (type_in w) DELETE ≡ false) × ((role_at t r).filecreate ≢ type_in w)
  unfolding C3 spares
  c3 e r m = let h = simp tested at (at-role w _ e r m) in search

  -- the rights that change an object are WRITE, CREATE and DELETE
  changing : C3 t w ≡ true → (r right : ℕ) → has (S w) r ≡ true → changes right ≡ true → has_right t FILESYSTEM r (type_in w) right ≡ false
  changing e r right m h =
      let none = c3 e r m in
      ⊎_elim
      (λ i. ⊎_elim (λ j. rw (eqb-true right WRITE j) none.0) (λ j. rw (eqb-true right CREATE j) none.1) (which (eqb right WRITE) (eqb right CREATE) i))
      (λ i. rw (eqb-true right DELETE i) none.2) (which (eqb right WRITE || eqb right CREATE) (eqb right DELETE) h)

  c4 : C4 t w ≡ true → (r s : ℕ) → has (S w) r ≡ true → has (role_at t r).compatible.bits s ≡ true → has (S w) s ≡ true
  unfolding C4
  c4 e r s m h = inside-at _ _ (at-role w _ e r m) s h

  c5 : C5 t w ≡ true → (r : ℕ) → has (S w) r ≡ true
      → (plain_in (Q w) (role_at t r).processcreate ≡ true) × (plain_in (Q w) (role_at t r).execute ≡ true) × (plain_in (Q w) (role_at t r).chown ≡ true)
  unfolding C5
  c5 e r m = let h = simp tested at (at-role w _ e r m) in search

  c6 : C6 t w ≡ true → (o : ℕ) → o < FILES → occupied t FILESYSTEM o ≡ true
      → (has (T w o) (kept_at t KEPT-TYPE o) ≡ true) × (not (eqb (file_word t o KIND) DIR) || creates_inside t w o ≡ true)
  unfolding C6 holds
  c6 e o l h = let a : holds t w o ≡ true = all-at (holds t w) FILES e o l in simp tested at (rw h at a)

  created : (o : ℕ) → creates_inside t w o ≡ true → (r k : ℕ) → r < ROLES → has (T w o) k ≡ true → has_right t FILESYSTEM r k CREATE ≡ true
      → plain_in (T w o) (role_at t r).filecreate ≡ true
  unfolding creates_inside
  created o e r k l h m = implies-at _ _ (all-at _ ROLES e r l) (to_some_lem t FILESYSTEM r (T w o) CREATE k h m)

  c7 : C7 t w ≡ true → (plain_in (S w) (own_forced t w) ≡ true) × ((o : ℕ) → o < FILES → starts t w o ≡ true)
  unfolding C7
  c7 e = let h = simp tested at e in (h.0, all-at _ FILES h.1)

  started : (o : ℕ) → starts t w o ≡ true → startable t w o ≡ true
      → (plain_in (S w) (kept_at t KEPT-INITIAL o) ≡ true) × (plain_in (S w) (kept_at t KEPT-FORCED o) ≡ true)
  unfolding starts
  started o e h = simp tested at (implies-at _ _ e h)

  c8 : C8 t w ≡ true → carried t w INHERIT-USER ≡ true → has (S w) (user_role t (process_at t (process_in w)).owner) ≡ true
  unfolding C8
  c8 e h = implies-at _ _ e h

  c9 : C9 t w ≡ true → some_role_to t w PROCESS (Q w) CHANGE-OWNER ≡ true → carried t w INHERIT-USER || carried t w UP-MIXED ≡ true
      → (u : ℕ) → u < USERS → has (S w) (user_role t u) ≡ true
  unfolding C9
  c9 e a b = all-at _ USERS (implies-at (some_role_to t w PROCESS (Q w) CHANGE-OWNER && (carried t w INHERIT-USER || carried t w UP-MIXED)) _ e (both _ _ a b))

  pub accepted : (check t w).number ≡ 0 → Accepted t w
  accepted e =
      let n = numbered (no-refusal e).0 in
      let c = rules (no-refusal e).1 in
      record {
        formed = facts t n.0;
        placed = n.1;
        live = n.2;
        role = (c1 c.0).0;
        rctype = (c1 c.0).1;
        unmarked = λ r m. (c2 c.1 r m).0;
        administers_none = λ r m. (c2 c.1 r m).1;
        assigns_none = λ r m. (c2 c.1 r m).2;
        assigns_no_type = λ r g k m. nothing r (c2 c.1 r m).3 g k;
        changes_not = changing c.2;
        creates_not = λ r m. (c3 c.2 r m).3;
        compatible = c4 c.3;
        processcreate = λ r m. plain_in_lem _ _ (c5 c.4 r m).0;
        execute = λ r m. plain_in_lem _ _ (c5 c.4 r m).1;
        chown = λ r m. plain_in_lem _ _ (c5 c.4 r m).2;
        own_type = λ o l h. (c6 c.5 o l h).0;
        created_type = λ o r k l d m h i. plain_in_lem _ _ (created o (implies-at _ _ (c6 c.5 o l (dir-occupied t o d)).1 (eq-eqb _ _ d)) r k m h i);
        own = plain_in_lem _ _ (c7 c.6).0;
        initial = λ o l h. plain_in_lem _ _ (started o ((c7 c.6).1 o l) h).0;
        forced = λ o l h. plain_in_lem _ _ (started o ((c7 c.6).1 o l) h).1;
        owner = c8 c.7;
        users = λ a b. c9 c.8 a (⊎_elim (λ h. rw h) (λ h. either (carried t w INHERIT-USER) (carried t w UP-MIXED) h) b);
      }
