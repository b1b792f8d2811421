-- What a grant says: that the caller is live and the call's numbers are in range, and of a call with many tests which it passed, by name. It is
-- exactly these that are tested: each law goes both ways.
-- Assumes nothing.
use Prim.Native.Nat.{ℕ, ◌<◌}
use mathlib.Core.Path.{◌≡◌}
use mathlib.Core.Bool.{Bool, true, ◌&&◌, ◌||◌}
use mathlib.Core.List.{List}
use mathlib.Core.Logic.{◌↔◌, ◌⊎◌, inl, inr, ⊎_elim}
use borrow.Author.Tests.{lt-ltb, eqb-true, eq-eqb}
use lib.Dec.{eqb}
use Rattle.sets.proofs.Below.{which}
use Rattle.model.specs.declared.Call.{Call}
use Rattle.model.specs.Numbers.{FILESYSTEM, PROCESS, IPC, PROCESSES, FILES, IPCS, FILE, DIR, DEEPEST, EXECUTE, CREATE, DELETE, CLONE, MODIFY-ATTRIBUTE}
use Rattle.model.specs.Layout.{KIND, DEPTH, KEPT-TYPE}
use Rattle.model.specs.Ranges.{ranged}
use Rattle.model.specs.Records.{process_at, file_word, kept_at, occupied, free_place}
use Rattle.model.specs.KeptValues.{type_of}
use Rattle.model.specs.Calls.{own_role, may, access_no, clone_no, execute_no, create_no, removable, delete_no, create_ipc_no, delete_ipc_no}
use Rattle.model.specs.Administration.{passes, modify_no}
use Rattle.model.specs.Step.{caller_no, ruling, number}
use Rattle.model.proofs.Decided.{tested}

-- ---- every call

-- the caller is a live process
pub record Caller (t : List ℕ) (c : ℕ) : Type 0 where
  pub placed : c < PROCESSES
  pub live : occupied t PROCESS c ≡ true

pub record Granted (t : List ℕ) (c : ℕ) (call : Call) : Type 0 where
  pub caller : Caller t c
  pub ranged : ranged call ≡ true
  pub ruled : (ruling t c call).number ≡ 0

pub granted-by : (t : List ℕ) (c : ℕ) (call : Call) → (number t c call ≡ 0) ↔ Granted t c call
unfolding number caller_no
granted-by t c call = (
  λ e. let h = simp tested at e in record { caller = record { placed = h.0.0.0; live = h.0.1 }; ranged = h.0.0.1; ruled = h.1 },
  λ g. rw (lt-ltb c PROCESSES g.caller.placed, g.ranged, g.caller.live, g.ruled),
)

-- ---- call by call: the tests past the caller and the ranges. Exit, change owner, change role and most changes have one test.

module _ (t : List ℕ) (c : ℕ) where
  pub record AccessGranted (g o r : ℕ) : Type 0 where
    pub used : occupied t g o ≡ true
    pub right : may t c g (type_of t g o) r ≡ true

  pub access-granted : (g o right : ℕ) → (access_no t c g o right ≡ 0) ↔ AccessGranted g o right
  unfolding access_no
  access-granted g o right = (
    λ e. let h = simp tested at e in record { used = h.0; right = h.1 },
    λ g. rw (g.used, g.right),
  )

  pub record CloneGranted : Type 0 where
    pub right : may t c PROCESS (process_at t c).rctype CLONE ≡ true
    pub room : free_place t PROCESS < PROCESSES

  pub clone-granted : (clone_no t c ≡ 0) ↔ CloneGranted
  unfolding clone_no
  clone-granted = (
    λ e. let h = simp tested at e in record { right = h.0; room = h.1 },
    λ g. rw (g.right, lt-ltb (free_place t PROCESS) PROCESSES g.room),
  )

  pub record ExecuteGranted (f : ℕ) : Type 0 where
    pub file : file_word t f KIND ≡ FILE
    pub right : may t c FILESYSTEM (kept_at t KEPT-TYPE f) EXECUTE ≡ true

  pub execute-granted : (f : ℕ) → (execute_no t c f ≡ 0) ↔ ExecuteGranted f
  unfolding execute_no
  execute-granted f = (
    λ e. let h = simp tested at e in record { file = h.0; right = h.1 },
    λ g. rw (eq-eqb (file_word t f KIND) FILE g.file, g.right),
  )

  pub record CreateGranted (y : ℕ) : Type 0 where
    pub dir : file_word t y KIND ≡ DIR
    pub right : may t c FILESYSTEM (kept_at t KEPT-TYPE y) CREATE ≡ true
    pub depth : file_word t y DEPTH < DEEPEST
    pub room : free_place t FILESYSTEM < FILES

  pub create-granted : (y : ℕ) → (create_no t c y ≡ 0) ↔ CreateGranted y
  unfolding create_no
  create-granted y = (
    λ e. let h = simp tested at e in record { dir = h.0; right = h.1.0; depth = h.1.1.0; room = h.1.1.1 },
    λ g. rw (eq-eqb (file_word t y KIND) DIR g.dir, g.right, lt-ltb (file_word t y DEPTH) DEEPEST g.depth, lt-ltb (free_place t FILESYSTEM) FILES g.room),
  )

  pub record DeleteGranted (o : ℕ) : Type 0 where
    pub used : occupied t FILESYSTEM o ≡ true
    pub right : may t c FILESYSTEM (kept_at t KEPT-TYPE o) DELETE ≡ true
    pub removable : removable t o ≡ true

  pub delete-granted : (o : ℕ) → (delete_no t c o ≡ 0) ↔ DeleteGranted o
  unfolding delete_no
  delete-granted o = (
    λ e. let h = simp tested at e in record { used = h.0; right = h.1.0; removable = h.1.1 },
    λ g. rw (g.used, g.right, g.removable),
  )

  pub record CreateIpcGranted : Type 0 where
    pub right : may t c IPC (own_role t c).ipccreate CREATE ≡ true
    pub room : free_place t IPC < IPCS

  pub create-ipc-granted : (create_ipc_no t c ≡ 0) ↔ CreateIpcGranted
  unfolding create_ipc_no
  create-ipc-granted = (
    λ e. let h = simp tested at e in record { right = h.0; room = h.1 },
    λ g. rw (g.right, lt-ltb (free_place t IPC) IPCS g.room),
  )

  pub record DeleteIpcGranted (i : ℕ) : Type 0 where
    pub used : occupied t IPC i ≡ true
    pub right : may t c IPC (type_of t IPC i) DELETE ≡ true

  pub delete-ipc-granted : (i : ℕ) → (delete_ipc_no t c i ≡ 0) ↔ DeleteIpcGranted i
  unfolding delete_ipc_no
  delete-ipc-granted i = (λ e. let h = simp tested at e in record { used = h.0; right = h.1 }, λ g. rw (g.used, g.right))

  -- ---- administration

  -- an administration call passes by the Role Admin mark or by its rule
  pub passes-by : (rule : Bool) → passes t c rule ≡ true → ((own_role t c).mark ≡ true) ⊎ (rule ≡ true)
  unfolding passes
  passes-by rule e = which (own_role t c).mark rule e

  pub record ModifyGranted (g o : ℕ) (rule : Bool) : Type 0 where
    pub used : occupied t g o ≡ true
    pub passed : passes t c (rule && may t c g (type_of t g o) MODIFY-ATTRIBUTE) ≡ true

  pub modify-granted : (g o : ℕ) (rule : Bool) → (modify_no t c g o rule ≡ 0) ↔ ModifyGranted g o rule
  unfolding modify_no
  modify-granted g o rule = (
    λ e. let h = simp tested at e in record { used = h.0; passed = h.1 },
    λ g. rw (g.used, g.passed),
  )

-- the two kinds that may be asked for
pub kind-ranged : (kind : ℕ) → (eqb kind FILE || eqb kind DIR ≡ true) ↔ ((kind ≡ FILE) ⊎ (kind ≡ DIR))
kind-ranged kind = (
  λ e. ⊎_elim (λ i. inl (eqb-true kind FILE i)) (λ i. inr (eqb-true kind DIR i)) (which (eqb kind FILE) (eqb kind DIR) e),
  λ k. ⊎_elim (λ i. rw i) (λ i. rw i) k,
)
