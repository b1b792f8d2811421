-- What a well-formed row is: the facts that the test stands for, and what follows of each record and of every effective value.
-- Assumes nothing.
use Prim.Native.Nat.{ℕ, ◌+◌, ◌≤◌, ◌<◌}
use mathlib.Core.Path.{◌≡◌, refl, sym, ap, ◌∙◌}
use mathlib.Core.Bool.{Bool, true, false, cond, not, ◌&&◌, ◌||◌, and-eq-true_iff, false≢true}
use mathlib.Core.List.{List}
use mathlib.Core.Logic.{◌↔◌, ◌≢◌, ⊎_elim}
use native.Mathlib.Omega.{arith}
use native.Mathlib.Decide.{ℕ_discrete}
use borrow.Author.Tests.{lt-ltb, le-leb, ltb-true, leb-true, eqb-true, eqb-false, eq-eqb, ne_eqb, not-true}
use lib.ListN.{length}
use lib.Dec.{ltb, leb, eqb}
use Rattle.sets.specs.Below.{all_below}
use Rattle.sets.proofs.Below.{all-at, all_of, lt-or-le, which, either, by_bool}
use Rattle.model.specs.declared.Process.{Process}
use Rattle.model.specs.declared.Role.{Role}
use Rattle.model.specs.Numbers.{FILESYSTEM, PROCESS, PROCESSES, FILES, IPCS, ROLES, USERS, TYPES, DIR, DEEPEST, INHERIT-PARENT, USE-FORCED-ROLE, INHERIT-USER, UP-MIXED, USE-NEW-ROLE-DEF-CREATE, FIRST-PROCESS, ROOT, is_root}
use Rattle.model.specs.Layout.{row_length, process_addr, DEPTH, KIND, PARENT, PROCESS-WORDS, FILE-TYPE, FILE-WORDS, KEPT-WORDS, FORCED, INITIAL, LIVE, PROCESS-FORCED}
use Rattle.model.specs.Ranges.{ok_type, ok_initial, ok_forced, ok_process_forced}
use Rattle.model.specs.Words.{◌!◌, block}
use Rattle.model.specs.Records.{forced_word, forced_of, process_at, free_process, file_word, kept_at, role_at, user_role, occupied}
use Rattle.model.specs.WellFormed.{process_ok, user_ok, role_ok, ipc_ok, file_ok, kept_ok, well_formed}
use Rattle.model.specs.Effective.{value_at}
use Rattle.model.specs.Calls.{not_child, childless, removable}
use Rattle.model.proofs.Records.{by_cond, role_in_forced, forced-named, forced-word, process-first, file-first, file-occupied}
use Rattle.model.proofs.Decided.{tested}

-- ---- the facts that the test stands for

-- of every table but what is kept beside the files
pub record Formed (t : List ℕ) : Type 0 where
  pub sized : length t ≡ row_length
  pub processes : (p : ℕ) → p < PROCESSES → process_ok t p ≡ true
  pub users : (i : ℕ) → i < USERS → user_ok t i ≡ true
  pub roles : (r : ℕ) → r < ROLES → role_ok t r ≡ true
  pub ipcs : (i : ℕ) → i < IPCS → ipc_ok t i ≡ true
  pub files : (o : ℕ) → o < FILES → file_ok t o ≡ true
  pub first : occupied t PROCESS FIRST-PROCESS ≡ true
  pub root : occupied t FILESYSTEM ROOT ≡ true

pub record WellFormed (t : List ℕ) : Type 0 where
  pub formed : Formed t
  pub kept : (k o : ℕ) → k < KEPT-WORDS → o < FILES → kept_at t k o ≡ value_at t (FILE-TYPE + k) o

pub facts : (t : List ℕ) → well_formed t ≡ true → WellFormed t
unfolding well_formed kept_ok
facts t e =
    let h = simp and-eq-true_iff at e in
    record {
      formed =
          record {
            sized = eqb-true _ _ h.0.0.0.0.0.0.0.0;
            processes = all-at _ PROCESSES h.0.0.0.0.0.0.0.1;
            users = all-at _ USERS h.0.0.0.0.0.0.1;
            roles = all-at _ ROLES h.0.0.0.0.0.1;
            ipcs = all-at _ IPCS h.0.0.0.0.1;
            files = all-at _ FILES h.0.0.0.1;
            first = h.0.1;
            root = h.1;
          };
      kept = λ k o m l. eqb-true _ _ (all-at _ KEPT-WORDS (all-at (kept_ok t) FILES h.0.0.1 o l) k m);
    }

pub test : (t : List ℕ) → WellFormed t → well_formed t ≡ true
unfolding well_formed kept_ok
test t w =
    let f = w.formed in
    rw (eq-eqb _ _ f.sized, all_of _ PROCESSES f.processes, all_of _ USERS f.users, all_of _ ROLES f.roles, all_of _ IPCS f.ipcs, all_of _ FILES f.files, all_of (kept_ok t) FILES (λ o l. all_of _ KEPT-WORDS (λ k m. eq-eqb _ _ (w.kept k o m l))), f.first, f.root)

-- ---- ranges as orders

pub forced-iff : (v : ℕ) → (ok_forced v ≡ true) ↔ ((v ≤ UP-MIXED) × (v ≢ USE-FORCED-ROLE))
forced-iff v = (
  λ e. ⊎_elim (λ l. let m : v ≤ INHERIT-PARENT = leb-true v INHERIT-PARENT l in omega arith) (λ l. let m = simp tested at l in omega arith)
      (which (leb v INHERIT-PARENT) (leb INHERIT-USER v && leb v UP-MIXED) e),
  λ h. ⊎_elim (λ l. rw (le-leb v INHERIT-PARENT (omega arith)))
      (λ l. either (leb v INHERIT-PARENT) (leb INHERIT-USER v && leb v UP-MIXED) (rw (le-leb INHERIT-USER v (omega arith), le-leb v UP-MIXED (omega arith)))) (lt-or-le v USE-FORCED-ROLE),
)

pub process-forced-iff : (v : ℕ) → (ok_process_forced v ≡ true) ↔ ((v ≤ UP-MIXED) × (v ≢ INHERIT-PARENT) × (v ≢ USE-FORCED-ROLE))
process-forced-iff v = (
  λ e. ⊎_elim (λ l. let m : v < ROLES = ltb-true v ROLES l in omega arith) (λ l. let m = simp tested at l in omega arith)
      (which (ltb v ROLES) (leb INHERIT-USER v && leb v UP-MIXED) e),
  λ h. ⊎_elim (λ l. rw (lt-ltb v ROLES (omega arith)))
      (λ l. either (ltb v ROLES) (leb INHERIT-USER v && leb v UP-MIXED) (rw (le-leb INHERIT-USER v (omega arith), le-leb v UP-MIXED (omega arith)))) (lt-or-le v ROLES),
)

-- ---- what a record that passes is

-- a live process: its owner, role and type are plain, and it inherits no forced value from a parent
pub record Live (r : Process) : Type 0 where
  pub live : r.live ≡ true
  pub owner : r.owner < USERS
  pub role : r.role < ROLES
  pub rctype : r.rctype < TYPES
  pub named : role_in_forced r.forced < ROLES
  pub forced : ok_process_forced (forced_word r.forced) ≡ true

-- a role's default types
pub record Defaults (r : Role) : Type 0 where
  pub filecreate : r.filecreate ≤ INHERIT-PARENT
  pub processcreate : r.processcreate ≤ INHERIT-PARENT
  pub execute : r.execute ≤ INHERIT-PARENT
  pub chown : r.chown ≤ USE-NEW-ROLE-DEF-CREATE
  pub ipccreate : r.ipccreate < TYPES

-- the range of a file's type, initial and forced value, in the order of its words
abbrev pub ok_value : ℕ → ℕ → Bool
ok_value k v = cond (eqb k 0) (ok_type v) (cond (eqb k 1) (ok_initial v) (ok_forced v))

-- y is the parent of o
pub record Under (t : List ℕ) (o y : ℕ) : Type 0 where
  pub placed : y < FILES
  pub dir : file_word t y KIND ≡ DIR
  pub deeper : file_word t o DEPTH ≡ file_word t y DEPTH + 1
  pub bounded : file_word t o DEPTH ≤ DEEPEST

-- an occupied file place
pub record Used (t : List ℕ) (o : ℕ) : Type 0 where
  pub kind : file_word t o KIND ≤ DIR
  pub values : (k : ℕ) → k < 3 → ok_value k (file_word t o (FILE-TYPE + k)) ≡ true
  pub top : o ≡ ROOT → (file_word t o KIND ≡ DIR) × (file_word t o PARENT ≡ ROOT) × (file_word t o DEPTH ≡ 0)
  pub under : o ≢ ROOT → Under t o (file_word t o PARENT)

module _ (t : List ℕ) (w : Formed t) where
  pub live-process : (p : ℕ) → p < PROCESSES → occupied t PROCESS p ≡ true → Live (process_at t p)
  unfolding process_ok process_at
  live-process p l e =
      let h = simp tested at (rw (process-first t p true e) at (w.processes p l)) in
      let v = (process-forced-iff (block t (process_addr p) PROCESS-WORDS ! PROCESS-FORCED)).0 h.1 in
      record {
        live = eq-eqb (block t (process_addr p) PROCESS-WORDS ! LIVE) 1 h.0.0.0.0;
        owner = h.0.0.0.1;
        role = h.0.0.1;
        rctype = h.0.1;
        named = forced-named (block t (process_addr p) PROCESS-WORDS ! PROCESS-FORCED);
        forced = rw (forced-word (block t (process_addr p) PROCESS-WORDS ! PROCESS-FORCED) v.0 v.2) h.1;
      }

  pub free-process : (p : ℕ) → p < PROCESSES → occupied t PROCESS p ≡ false → process_at t p ≡ free_process
  unfolding process_ok process_at forced_of
  free-process p l e =
      let z = process-first t p false e in
      let h = simp tested at (rw z at (w.processes p l)) in
      rw (eqb-true (block t (process_addr p) PROCESS-WORDS ! LIVE) 0 z, h.0.0.0, h.0.0.1, h.0.1, h.1)

  pub defaults : (r : ℕ) → r < ROLES → Defaults (role_at t r)
  unfolding role_ok role_at
  defaults r l =
      let h = simp tested at (w.roles r l) in
      record { filecreate = h.0.0.0.0.1; processcreate = h.0.0.0.1; execute = h.0.0.1; chown = h.0.1; ipccreate = h.1 }

  pub user-role : (i : ℕ) → i < USERS → user_role t i < ROLES
  unfolding user_ok user_role
  user-role i l = ltb-true _ _ (w.users i l)

  pub used-file : (o : ℕ) → o < FILES → occupied t FILESYSTEM o ≡ true → Used t o
  unfolding file_ok block file_word all_below
  used-file o l e =
      let h = simp and-eq-true_iff at (rw (file-first t o true e) at (w.files o l)) in
      record {
        kind = leb-true _ _ h.0.0.0.0;
        values = all-at (λ k. ok_value k (file_word t o (FILE-TYPE + k))) 3 (rw (h.0.0.0.1, h.0.0.1, h.0.1));
        top = λ z. let m = simp tested at (rw (eq-eqb o ROOT z) at h.1) in (m.0.0, m.0.1, m.1);
        under = λ z.
            let m = simp tested at (rw (ne_eqb o ROOT z) at h.1) in
            record { placed = m.0.0.0; dir = m.0.0.1; deeper = m.0.1; bounded = m.1 };
      }

  -- a free file place holds zeros only
  pub free-file : (o : ℕ) → o < FILES → occupied t FILESYSTEM o ≡ false → (k : ℕ) → k < FILE-WORDS → file_word t o k ≡ 0
  unfolding file_ok block file_word all_below
  free-file o l e k m =
      let z = file-first t o false e in
      eqb-true (file_word t o k) 0 (all-at (λ k. eqb (file_word t o k) 0) FILE-WORDS (rw z (rw z at (w.files o l))) k m)

  -- the parent word of any place, free or not, names a DIR
  pub parent_dir : (o : ℕ) → o < FILES → (file_word t o PARENT < FILES) × (file_word t (file_word t o PARENT) KIND ≡ DIR)
  parent_dir o l =
      by_bool (λ b. (file_word t o PARENT < FILES) × (file_word t (file_word t o PARENT) KIND ≡ DIR)) (occupied t FILESYSTEM o)
      (λ e.
      let f = used-file o l e in
      elim (ℕ_discrete o ROOT) [
        | yes z ↦ at-root (f.top z).1
        | no n ↦ let y = f.under n in (y.placed, y.dir)
      ])
      (λ e. at-root (free-file o l e PARENT (omega arith)))
    where
      at-root : file_word t o PARENT ≡ ROOT → (file_word t o PARENT < FILES) × (file_word t (file_word t o PARENT) KIND ≡ DIR)
      at-root z = rw z (omega arith, ((used-file ROOT (omega arith) w.root).top refl).0)

-- and back: such a place passes
pub used-ok : (t : List ℕ) (o : ℕ) → file_word t o KIND ≢ 0 → Used t o → file_ok t o ≡ true
unfolding file_ok block file_word
used-ok t o n f =
    rw (ne_eqb (file_word t o KIND) 0 n, le-leb (file_word t o KIND) DIR f.kind, f.values 0 (omega arith), f.values 1 (omega arith), f.values 2 (omega arith))
    (by_cond (λ b. b ≡ true) (is_root o) _ _
    (λ e. let m = f.top (eqb-true o ROOT e) in rw (m.0, m.1, m.2))
    (λ e. let m = f.under (eqb-false o ROOT e) in
    rw (lt-ltb (file_word t o PARENT) FILES m.placed, m.dir, eq-eqb (file_word t o DEPTH) _ m.deeper, le-leb (file_word t o DEPTH) DEEPEST m.bounded)))

-- whether a file place passes is a matter of its own words and of its parent's kind and depth
pub file-same : (t u : List ℕ) (o : ℕ) → ((k : ℕ) → k < FILE-WORDS → file_word u o k ≡ file_word t o k)
    → file_word u (file_word t o PARENT) KIND ≡ file_word t (file_word t o PARENT) KIND → file_word u (file_word t o PARENT) DEPTH ≡ file_word t (file_word t o PARENT) DEPTH
    → file_ok u o ≡ file_ok t o
unfolding file_ok block file_word
file-same t u o h kind depth =
    rw (h KIND (omega arith), h PARENT (omega arith), h DEPTH (omega arith), h FILE-TYPE (omega arith), h INITIAL (omega arith), h FORCED (omega arith), kind, depth)

-- ---- the tree

-- no place names o as its parent
abbrev pub Barren : List ℕ → ℕ → Type 0
Barren t o = (q : ℕ) → q < FILES → file_word t q PARENT ≢ o

pub dir-occupied : (t : List ℕ) (o : ℕ) → file_word t o KIND ≡ DIR → occupied t FILESYSTEM o ≡ true
dir-occupied t o e = rw (file-occupied t o, e)

module _ (t : List ℕ) (w : Formed t) where
  pub depth-bound : (o : ℕ) → o < FILES → file_word t o DEPTH ≤ DEEPEST
  depth-bound o l =
      by_bool (λ b. file_word t o DEPTH ≤ DEEPEST) (occupied t FILESYSTEM o)
      (λ e.
      let f = used-file t w o l e in
      elim (ℕ_discrete o ROOT) [
        | yes z ↦ let d = (f.top z).2 in omega arith
        | no n ↦ (f.under n).bounded
      ])
      (λ e. let d = free-file t w o l e DEPTH (omega arith) in omega arith)

  -- neither a FILE nor a free place is a parent
  pub no-dir-barren : (o : ℕ) → file_word t o KIND ≢ DIR → Barren t o
  no-dir-barren o n q l e = n (ap (λ (y : ℕ). file_word t y KIND) (sym e) ∙ (parent_dir t w q l).1)

  pub free-barren : (o : ℕ) → occupied t FILESYSTEM o ≡ false → (o ≢ ROOT) × Barren t o
  free-barren o e = (
    λ z. false≢true (sym e ∙ ap (λ (q : ℕ). occupied t FILESYSTEM q) z ∙ w.root),
    no-dir-barren o (λ z. false≢true (sym e ∙ dir-occupied t o z)),
  )

  -- the root, and a free place, names the root
  parent-used : (q : ℕ) → q < FILES → file_word t q PARENT ≢ ROOT → (q ≢ ROOT) × (occupied t FILESYSTEM q ≡ true)
  parent-used q l n = (
    λ z. n (ap (λ (q : ℕ). file_word t q PARENT) z ∙ ((used-file t w ROOT (omega arith) w.root).top refl).1),
    by_bool (λ b. b ≡ true) (occupied t FILESYSTEM q) (λ e. refl) (λ e. absurd (n (free-file t w q l e PARENT (omega arith)))),
  )

  pub removable-barren : (o : ℕ) → removable t o ≡ true → (o ≢ ROOT) × Barren t o
  unfolding removable childless not_child
  removable-barren o e =
      let h = simp tested at e in (
        h.0,
        ⊎_elim (λ n. no-dir-barren o (eqb-false _ _ (not-true (eqb (file_word t o KIND) DIR) n)))
            (λ c q l p.
            let u = parent-used q l (λ z. h.0 (sym p ∙ z)) in
            let a : (is_root q || not (occupied t FILESYSTEM q) || not (eqb (file_word t q PARENT) o)) ≡ true = all-at _ FILES c q l in
            false≢true (rw (ne_eqb q ROOT u.0, u.1, eq-eqb (file_word t q PARENT) o p) at a))
            (which (not (eqb (file_word t o KIND) DIR)) (childless t o) h.1),
      )
