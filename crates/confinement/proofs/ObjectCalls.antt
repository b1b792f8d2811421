-- The calls on objects, granted. Whoever creates a file, its anchor is its parent's, since C6 speaks of all 32 roles; whoever deletes one, the others
-- keep theirs. A member's call reaches no object of type k and makes none (C3).
-- Assumes nothing.
use Prim.Native.Nat.{ℕ, ◌+◌, ◌≤◌, ◌<◌}
use mathlib.Core.Path.{◌≡◌, refl, sym, ap, ◌∙◌}
use mathlib.Core.Bool.{Bool, true, false, not, ◌&&◌, true≢false}
use mathlib.Core.List.{List}
use mathlib.Core.Logic.{◌≢◌, ◌⊎◌}
use native.Mathlib.Omega.{arith}
use borrow.Author.Tests.{eqb-true}
use lib.Dec.{eqb}
use Rattle.sets.specs.Sets.{has}
use Rattle.model.specs.Numbers.{FILESYSTEM, IPC, FILES, TYPES, ROLES, INHERIT-PARENT, CREATE, DELETE, DIR, FILE, IPCS, places}
use Rattle.model.specs.Layout.{DEPTH, FILE-TYPE, KEPT-FORCED, KEPT-INITIAL, KEPT-TYPE, KEPT-WORDS}
use Rattle.model.specs.Words.{◌!◌}
use Rattle.model.specs.Records.{kind_of, process_at, file_word, file_words, kept_at, put_file, free_file, free_place, occupied}
use Rattle.model.specs.Outcome.{granting}
use Rattle.model.specs.Effective.{value_at}
use Rattle.model.specs.KeptValues.{type_of}
use Rattle.model.specs.Transitions.{default_or, created}
use Rattle.model.specs.Calls.{own_role, may, access_no, create_no, create_row, delete_no, delete_row, create_ipc_no, create_ipc_row, delete_ipc_row}
use Rattle.model.specs.Claims.{type_in, T}
use Rattle.model.specs.Runs.{reaches, creates, deletes, Family, changes, other}
use Rattle.model.proofs.Records.{occupied-stays, file-put-occupied}
use Rattle.model.proofs.KeptValues.{kept-type-range, settled-written, unkept-written}
use Rattle.model.proofs.Transitions.{default-or}
use Rattle.model.proofs.Decided.{tested}
use Rattle.model.proofs.Granted.{access-granted, create-granted, delete-granted, create-ipc-granted, Caller, CreateGranted}
use Rattle.model.proofs.Formed.{defaults, dir-occupied}
use Rattle.model.proofs.Kept.{create-kept, delete-kept, create-ipc-kept, delete-ipc-kept}
use Rattle.model.proofs.Created.{created-value, created-type}
use Rattle.confinement.proofs.Callers.{process, own-role, own-right, member-role, unreached}
use Rattle.confinement.proofs.Claim.{PlainIn, Accepted}
use Rattle.confinement.proofs.Invariant.{Anchor, Invariant}
use Rattle.confinement.proofs.Steps.{Good}
use Rattle.confinement.proofs.Writes.{put-file, put-ipc}

-- a test that cannot hold
fails : (b : Bool) → (b ≡ true → ⊥) → not b ≡ true
fails true h = absurd (h refl)
fails false h = refl

module _ (t₀ w : List ℕ) (claim : Accepted t₀ w) (t : List ℕ) (F : Family) (inv : Invariant t₀ w t F) (c : ℕ) (me : Caller t c) where
  file_type : (o : ℕ) → o < FILES → occupied t FILESYSTEM o ≡ true → kept_at t KEPT-TYPE o < TYPES
  file_type = kept-type-range t inv.formed

  -- calls read the type that is kept, and harm is said of the climb's
  type-kept : (o : ℕ) → o < FILES → kept_at t KEPT-TYPE o ≡ value_at t FILE-TYPE o
  type-kept o = inv.formed.kept KEPT-TYPE o (omega arith)

  -- ---- access

  pub access-good : (g o right : ℕ) → o < places g → access_no t c g o right ≡ 0 → Good t₀ w t F c (reaches g o right) (granting 0 t)
  unfolding type_of
  access-good g o right l e = let h = (access-granted t c g o right).0 e in (
    inv,
    λ f. fails (eqb g FILESYSTEM && changes right && eqb (value_at t FILE-TYPE o) (type_in w)) (λ b.
        let x = simp tested at b in
        let m : may t c FILESYSTEM (kept_at t KEPT-TYPE o) right ≡ true = rw x.0.0 at h.right in
        let i : o < FILES = rw x.0.0 at l in
        unreached t₀ w t F inv c claim f (kept_at t KEPT-TYPE o) right (file_type o i (rw x.0.0 at h.used)) m x.0.1 (type-kept o i ∙ x.1)),
  )

  -- ---- create, in the lowest free place below the DIR y

  module _ (kind y : ℕ) (k : (kind ≡ FILE) ⊎ (kind ≡ DIR)) (l : y < FILES) (e : create_no t c y ≡ 0) where
    passed : CreateGranted t c y
    passed = (create-granted t c y).0 e

    parent-used : occupied t FILESYSTEM y ≡ true
    parent-used = dir-occupied t y passed.dir

    -- what is kept for the new file: the role's default type, or what is kept for the parent
    new-kept : (i : ℕ) → i < KEPT-WORDS → kept_at (create_row t c kind y) i (free_place t FILESYSTEM)
        ≡ default_or (file_words (created (own_role t c) (kind_of kind) y (file_word t y DEPTH + 1)) ! (FILE-TYPE + i)) (kept_at t i y)
    new-kept i m =
        (create-kept t inv.formed c me kind y k l e).kept i (free_place t FILESYSTEM) m passed.room
        ∙ created-value t inv.formed c me kind y k l e (FILE-TYPE + i) (omega arith)
        ∙ ap (default_or _) (sym (inv.formed.kept i y m l))

    -- C6
    create-anchor : Anchor t₀ w (create_row t c kind y) (free_place t FILESYSTEM)
    unfolding created default_or
    create-anchor =
        let a = inv.anchors y l parent-used in
        let own = own-role t₀ w t F inv c me in
        let r = (process_at t c).role in
        let m : r < ROLES = (process t₀ w t F inv c me).role in
        let may = own-right t₀ w t F inv c me FILESYSTEM (kept_at t KEPT-TYPE y) CREATE (omega arith) (file_type y l parent-used) passed.right in
        let d : (own_role t c).filecreate ≤ INHERIT-PARENT = rw own.filecreate (defaults t₀ claim.formed.formed r m).filecreate in
        let plain : PlainIn (T w a.at) (own_role t c).filecreate =
        rw own.filecreate (claim.created_type a.at r (kept_at t KEPT-TYPE y) a.placed (a.dir passed.dir) m a.rctype may) in
        record {
          at = a.at;
          placed = a.placed;
          used = a.used;
          dir = λ z. a.dir passed.dir;
          rctype =
              rw (new-kept KEPT-TYPE (omega arith))
              (default-or (λ k. has (T w a.at) k ≡ true) (own_role t c).filecreate (kept_at t KEPT-TYPE y) (λ n. plain (omega arith)) a.rctype);
          initial = new-kept KEPT-INITIAL (omega arith) ∙ a.initial;
          forced = new-kept KEPT-FORCED (omega arith) ∙ a.forced;
        }

    -- C3: a member has no CREATE to type k, and no file create type k
    create-harmless : F c ≡ true → value_at (create_row t c kind y) FILE-TYPE (free_place t FILESYSTEM) ≢ type_in w
    create-harmless f =
        rw (created-type t inv.formed c me kind y k l e, ← type-kept y l)
        (default-or (λ k. k ≢ type_in w) (own_role t c).filecreate (kept_at t KEPT-TYPE y)
        (λ n. rw (own-role t₀ w t F inv c me).filecreate (claim.creates_not (process_at t c).role (member-role t₀ w t F inv c f)))
        (unreached t₀ w t F inv c claim f (kept_at t KEPT-TYPE y) CREATE (file_type y l parent-used) passed.right refl))

    pub create-good : Good t₀ w t F c creates (granting (free_place t FILESYSTEM) (create_row t c kind y))
    unfolding create_row
    create-good = (
      put-file t₀ w t F inv (free_place t FILESYSTEM) _ (create_row t c kind y) passed.room (settled-written _ (free_place t FILESYSTEM))
          (create-kept t inv.formed c me kind y k l e) (λ o. create-anchor),
      λ f. fails (eqb (value_at (create_row t c kind y) FILE-TYPE (free_place t FILESYSTEM)) (type_in w)) (λ b. create-harmless f (eqb-true _ _ b)),
    )

  -- ---- delete: the place is free, and has no anchor

  pub delete-good : (o : ℕ) → o < FILES → delete_no t c o ≡ 0 → Good t₀ w t F c (deletes o) (granting 0 (delete_row t o))
  unfolding delete_row
  delete-good o l e =
      let h = (delete-granted t c o).0 e in
      let beside = unkept-written (put_file t o free_file) o in (
        put-file t₀ w t F inv o free_file (delete_row t o) l beside (delete-kept t inv.formed c o l e)
            (λ u. absurd (true≢false (sym u ∙ occupied-stays beside FILESYSTEM o (omega arith) ∙ file-put-occupied t inv.formed.formed.sized o free_file l))),
        λ f. fails (eqb (value_at t FILE-TYPE o) (type_in w))
            (λ b. unreached t₀ w t F inv c claim f (kept_at t KEPT-TYPE o) DELETE (file_type o l h.used) h.right refl (type-kept o l ∙ eqb-true _ _ b)),
      )

  -- ---- IPC objects: nothing that the invariant speaks of

  pub create-ipc-good : create_ipc_no t c ≡ 0 → Good t₀ w t F c other (granting (free_place t IPC) (create_ipc_row t c))
  unfolding create_ipc_row
  create-ipc-good e =
      (put-ipc t₀ w t F inv (free_place t IPC) _ ((create-ipc-granted t c).0 e).room (create-ipc-kept t inv.formed c me e), λ f. refl)

  pub delete-ipc-good : (i : ℕ) → i < IPCS → Good t₀ w t F c other (granting 0 (delete_ipc_row t i))
  unfolding delete_ipc_row
  delete-ipc-good i l = (put-ipc t₀ w t F inv i _ l (delete-ipc-kept t inv.formed c i l), λ f. refl)
