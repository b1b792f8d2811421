-- What a call changes. A refusal leaves the row; a grant leaves the row with one run of words put into it, and then writes among what is kept beside
-- the files; what is read after a put is known once for every address and length.
-- Assumes nothing.
use Prim.Native.Nat.{◌+◌, ◌*◌, ◌<◌, ◌≤◌, ℕ}
use mathlib.Core.List.{List, [], ◌∷◌}
use mathlib.Core.Path.{◌∙◌, ◌≡◌, ap, refl, sym}
use mathlib.Core.Bool.{cond, true, not}
use mathlib.Core.Logic.{◌⊎◌, inl, inr, ⊎_elim}
use native.Mathlib.Nat.{add-zero}
use native.Mathlib.Omega.{arith}
use borrow.Author.Tests.{ltb-true, not-false}
use lib.Dec.{eqb}
use lib.Seq.{set-get_or}
use lib.ListN.{length, set}
use Rattle.sets.proofs.Below.{first-least, lt-or-le}
use Rattle.sets.proofs.Sets.{added-there, removed-absent}
use Rattle.model.specs.declared.Call.{Call}
use Rattle.model.specs.declared.Change.{Change}
use Rattle.model.specs.Numbers.{FILES, FILESYSTEM, GROUPS, IPC, IPCS, PROCESS, ◌unless◌, ◌▹◌, places}
use Rattle.model.specs.Layout.{KEPT-AT, KEPT-FORCED, KEPT-INITIAL, KEPT-TYPE, KEPT-WORDS, RIGHTS-AT, row_length}
use Rattle.model.specs.Ranges.{ranged_change}
use Rattle.model.specs.Words.{put, ◌!◌}
use Rattle.model.specs.Records.{put_file, put_ipc, put_process, free_place, has_right, occupied}
use Rattle.model.specs.WellFormed.{well_formed}
use Rattle.model.specs.Outcome.{Outcome, granting, Ruling}
use Rattle.model.specs.Calls.{change_owner_row, change_role_row, clone_row, create_ipc_row, create_row, delete_ipc_row, delete_row, execute_row, exit_row}
use Rattle.model.specs.Administration.{change_right_row, change_set_row, ruling_on, set_default_type_row, set_process_forced_row, set_program_roles_row, set_role_admin_row, set_type_row, set_user_role_row, type_addr}
use Rattle.model.specs.Step.{ruling, step, number}
use Rattle.model.specs.KeptValues.{revalued}
use Rattle.model.proofs.Words.{block-put-same, put-length, word-put-other}
use Rattle.model.proofs.Records.{Written, block-stays, by-group, free-place, unwritten, written_then, written-within}
use Rattle.model.proofs.KeptValues.{revalued-written, settled-written, unkept-written}
use Rattle.model.proofs.Decided.{decide-granting, decide-refusing, decided, tested}
use Rattle.model.proofs.Granted.{Granted, clone-granted, create-granted, create-ipc-granted, granted-by}
use Rattle.model.proofs.Formed.{facts}
use Rattle.promises.specs.Promises.{A-granted-call-changes-one-record, A-refused-call-changes-nothing, A-grant-answers-the-place-taken, Adding-what-is-there-or-removing-what-is-not-changes-nothing, Every-answer-fits-two-bytes, The-place-taken-is-the-lowest-free-one}
use Rattle.promises.specs.Writes.{change_writes, writes, place_taken, Write, Wrote}
use Rattle.promises.proofs.Numbers.{a-call-answers-0-to-8, step-number, step-granted}
use denote.Index.{place}

-- ---- refused

pub a-refused-call-changes-nothing : A-refused-call-changes-nothing
unfolding step
a-refused-call-changes-nothing t c call h =
    let n = 1 unless well_formed t ▹ number t c call in
    let e = decide-refusing t n (ruling t c call).place (ruling t c call).row (λ z. h (step-number t c call ∙ z)) in
    (ap (λ (o : Outcome). o.after) e, ap (λ (o : Outcome). o.answer.place) e)

-- ---- granted: the row with what the call writes

one_word : (t : List ℕ) (a v : ℕ) → set t a v ≡ put t a (v ∷ [])
unfolding put
one_word t a v = rw add-zero

-- where a call writes: among the tables, and apart from what is kept beside the files
abbrev Apart : Write → Type 0
Apart x = (x.at + length x.words ≤ KEPT-AT) ⊎ ((RIGHTS-AT ≤ x.at) × (x.at + length x.words ≤ row_length))

module _ (t : List ℕ) (c : ℕ) where
  -- a ruling leaves the row with what is written, but for what is kept, and answers a place
  abbrev Leaves : Write → ℕ → Ruling → Type 0
  Leaves x place r = Written (put t x.at x.words) r.row KEPT-AT (FILES * KEPT-WORDS) × (r.place ≡ place)

  -- all there is to it
  just : (x : Write) (u : List ℕ) → u ≡ put t x.at x.words → Written (put t x.at x.words) u KEPT-AT (FILES * KEPT-WORDS)
  just x u e = rw e (unwritten _ _ _)

  type-leaves : (g o v : ℕ) → g < GROUPS → o < places g
      → Written (put t (type_addr g o) (v ∷ [])) (cond (eqb g FILESYSTEM) (revalued (set t (type_addr g o) v) KEPT-TYPE o) (set t (type_addr g o) v)) KEPT-AT (FILES * KEPT-WORDS)
  type-leaves g o v =
      by-group
      (λ g. o < places g
      → Written (put t (type_addr g o) (v ∷ [])) (cond (eqb g FILESYSTEM) (revalued (set t (type_addr g o) v) KEPT-TYPE o) (set t (type_addr g o) v)) KEPT-AT (FILES * KEPT-WORDS))
      (λ l. rw (← one_word t (type_addr FILESYSTEM o) v) (revalued-written KEPT-TYPE (omega arith) (set t (type_addr FILESYSTEM o) v) o l))
      (λ l. rw (one_word t (type_addr PROCESS o) v) (unwritten _ _ _))
      (λ l. rw (one_word t (type_addr IPC o) v) (unwritten _ _ _))
      g

  change-leaves : (change : Change) → ranged_change change ≡ true → Leaves (change_writes t change) 0 (ruling_on t c change)
  unfolding ruling_on change_set_row set_user_role_row set_program_roles_row set_process_forced_row set_default_type_row set_role_admin_row set_type_row change_right_row
  change-leaves (Change.AddRole s r member) l = (just _ _ (one_word t _ _), refl)
  change-leaves (Change.RemoveRole s r member) l = (just _ _ (one_word t _ _), refl)
  change-leaves (Change.SetUserRole u r) l = (just _ _ (one_word t _ _), refl)
  change-leaves (Change.SetProgramRoles f initial forced) l =
      let h = simp tested at l in
      (written_then (revalued-written KEPT-INITIAL (omega arith) _ f h.0.0) (revalued-written KEPT-FORCED (omega arith) _ f h.0.0), refl)
  change-leaves (Change.SetProcessForced p v) l = (just _ _ (one_word t _ _), refl)
  change-leaves (Change.SetDefaultType which r v) l = (just _ _ (one_word t _ _), refl)
  change-leaves (Change.SetRoleAdmin r mark) l = (just _ _ (one_word t _ _), refl)
  change-leaves (Change.SetType g o v) l = let h = simp tested at l in (type-leaves g o v h.0.0 h.0.1, refl)
  change-leaves (Change.AddRight g r k right) l = (just _ _ (one_word t _ _), refl)
  change-leaves (Change.RemoveRight g r k right) l = (just _ _ (one_word t _ _), refl)

  call-leaves : (call : Call) → Granted t c call → Leaves (writes t c call) (place_taken t call) (ruling t c call)
  unfolding ruling clone_row exit_row execute_row change_owner_row change_role_row create_row delete_row create_ipc_row delete_ipc_row put_process put_file put_ipc put
  call-leaves (Call.Access g o right) h = (unwritten _ _ _, refl)
  call-leaves Call.Clone h = (unwritten _ _ _, refl)
  call-leaves Call.Exit h = (unwritten _ _ _, refl)
  call-leaves (Call.Execute f) h = (unwritten _ _ _, refl)
  call-leaves (Call.ChangeOwner u) h = (unwritten _ _ _, refl)
  call-leaves (Call.ChangeRole r) h = (unwritten _ _ _, refl)
  call-leaves (Call.Create kind y) h =
      let l = ((create-granted t c y).0 h.ruled).room in
      (written-within (settled-written _ _) _ _ (omega arith) (omega arith), refl)
  call-leaves (Call.Delete o) h =
      let l = ltb-true o FILES h.ranged in
      (written-within (unkept-written _ o) _ _ (omega arith) (omega arith), refl)
  call-leaves Call.CreateIpc h = (unwritten _ _ _, refl)
  call-leaves (Call.DeleteIpc i) h = (unwritten _ _ _, refl)
  call-leaves (Call.Administer change) h = change-leaves change h.ranged

  -- ---- it lies within the tables

  type-fits : (g o : ℕ) → g < GROUPS → o < places g → type_addr g o + 1 ≤ KEPT-AT
  type-fits g o = by-group (λ g. o < places g → type_addr g o + 1 ≤ KEPT-AT) (λ l. omega arith) (λ l. omega arith) (λ l. omega arith) g

  change-fits : (change : Change) → ranged_change change ≡ true → Apart (change_writes t change)
  change-fits (Change.AddRole s r member) l = let h = simp tested at l in inl (omega arith)
  change-fits (Change.RemoveRole s r member) l = let h = simp tested at l in inl (omega arith)
  change-fits (Change.SetUserRole u r) l = let h = simp tested at l in inl (omega arith)
  change-fits (Change.SetProgramRoles f initial forced) l = let h = simp tested at l in inl (omega arith)
  change-fits (Change.SetProcessForced p v) l = let h = simp tested at l in inl (omega arith)
  change-fits (Change.SetDefaultType which r v) l = let h = simp tested at l in inl (omega arith)
  change-fits (Change.SetRoleAdmin r mark) l = let h = simp tested at l in inl (omega arith)
  change-fits (Change.SetType g o v) l = let h = simp tested at l in inl (type-fits g o h.0.0 h.0.1)
  change-fits (Change.AddRight g r k right) l = let h = simp tested at l in inr (omega arith, omega arith)
  change-fits (Change.RemoveRight g r k right) l = let h = simp tested at l in inr (omega arith, omega arith)

  call_fits : (call : Call) → Granted t c call → Apart (writes t c call)
  unfolding ruling
  call_fits (Call.Access g o right) h = inl (omega arith)
  call_fits Call.Clone h = let l = ((clone-granted t c).0 h.ruled).room in inl (omega arith)
  call_fits Call.Exit h = let l = h.caller.placed in inl (omega arith)
  call_fits (Call.Execute f) h = let l = h.caller.placed in inl (omega arith)
  call_fits (Call.ChangeOwner u) h = let l = h.caller.placed in inl (omega arith)
  call_fits (Call.ChangeRole r) h = let l = h.caller.placed in inl (omega arith)
  call_fits (Call.Create kind y) h = let l = ((create-granted t c y).0 h.ruled).room in inl (omega arith)
  call_fits (Call.Delete o) h = let l = ltb-true o FILES h.ranged in inl (omega arith)
  call_fits Call.CreateIpc h = let l = ((create-ipc-granted t c).0 h.ruled).room in inl (omega arith)
  call_fits (Call.DeleteIpc i) h = let l = ltb-true i IPCS h.ranged in inl (omega arith)
  call_fits (Call.Administer change) h = change-fits change h.ranged

  -- ---- the place taken is one of its table

  place-fits : (call : Call) → Granted t c call → place_taken t call < 256
  unfolding ruling
  place-fits (Call.Access g o right) h = omega arith
  place-fits Call.Clone h = let l = ((clone-granted t c).0 h.ruled).room in omega arith
  place-fits Call.Exit h = omega arith
  place-fits (Call.Execute f) h = omega arith
  place-fits (Call.ChangeOwner u) h = omega arith
  place-fits (Call.ChangeRole r) h = omega arith
  place-fits (Call.Create kind y) h = let l = ((create-granted t c y).0 h.ruled).room in omega arith
  place-fits (Call.Delete o) h = omega arith
  place-fits Call.CreateIpc h = let l = ((create-ipc-granted t c).0 h.ruled).room in omega arith
  place-fits (Call.DeleteIpc i) h = omega arith
  place-fits (Call.Administer change) h = omega arith

granted-outcome : (t : List ℕ) (c : ℕ) (call : Call) → (step t c call).answer.number ≡ 0
    → step t c call ≡ granting (ruling t c call).place (ruling t c call).row
unfolding step
granted-outcome t c call e =
    decide-granting t (1 unless well_formed t ▹ number t c call) (ruling t c call).place (ruling t c call).row (sym (step-number t c call) ∙ e)

pub granted-row : (t : List ℕ) (c : ℕ) (call : Call) → (step t c call).answer.number ≡ 0 → (step t c call).after ≡ (ruling t c call).row
granted-row t c call e = ap (λ (o : Outcome). o.after) (granted-outcome t c call e)

-- words that were put, with what is kept written after them
wrote : (t u : List ℕ) (x : Write) → length t ≡ row_length → Apart x → Written (put t x.at x.words) u KEPT-AT (FILES * KEPT-WORDS) → Wrote t u x
wrote t u x sized fits y =
    record {
      sized = y.sized ∙ put-length t x.at x.words;
      there =
          block-stays y x.at (length x.words) (⊎_elim (λ l. omega arith) (λ l. omega arith) fits)
          ∙ block-put-same t x.at x.words (⊎_elim (λ l. omega arith) (λ l. omega arith) fits);
      others = λ b c d. y.other b (⊎_elim (λ l. omega arith) (λ l. omega arith) d) ∙ word-put-other t x.at x.words b c;
    }

pub a-granted-call-changes-one-record : A-granted-call-changes-one-record
a-granted-call-changes-one-record t c call e =
    let h = (step-granted t c call).0 e in
    let g = (granted-by t c call).0 h.1 in
    rw (granted-row t c call e) (wrote t _ (writes t c call) (facts t h.0).formed.sized (call_fits t c call g) (call-leaves t c call g).0)

-- ---- the place answered

pub a-grant-answers-the-place-taken : A-grant-answers-the-place-taken
a-grant-answers-the-place-taken t c call e =
    let h = (step-granted t c call).0 e in
    ap (λ (o : Outcome). o.answer.place) (granted-outcome t c call e) ∙ (call-leaves t c call ((granted-by t c call).0 h.1)).1

pub every-answer-fits-two-bytes : Every-answer-fits-two-bytes
every-answer-fits-two-bytes t c call =
    let n = (step t c call).answer.number in
    let most = a-call-answers-0-to-8 t c call in (
      omega arith,
      ⊎_elim
          (λ (l : n < 1). let e : n ≡ 0 = omega arith in
          rw (a-grant-answers-the-place-taken t c call e) (place-fits t c call ((granted-by t c call).0 ((step-granted t c call).0 e).1)))
          (λ (l : 1 ≤ n). rw (a-refused-call-changes-nothing t c call (λ e. omega (arith, e, l))).1 (omega arith))
          (lt-or-le n 1),
    )

pub the-place-taken-is-the-lowest-free-one : The-place-taken-is-the-lowest-free-one
unfolding free_place
the-place-taken-is-the-lowest-free-one t g l = (
  free-place t g l,
  λ p m. not-false (occupied t g p) (first-least (λ p. not (occupied t g p)) (places g) p m),
)

-- ---- H11

same_word : (t : List ℕ) (a v : ℕ) → v ≡ t ! a → set t a v ≡ t
same_word t a v e = rw e (set-get_or t a 0)

-- a grant that leaves the row leaves it in either case
stays : (t : List ℕ) (c : ℕ) (call : Call) → (ruling t c call).row ≡ t → (step t c call).after ≡ t
unfolding step
stays t c call e = decided t _ (ruling t c call).place (ruling t c call).row (λ u. u ≡ t) refl (λ z. e)

pub adding-what-is-there-or-removing-what-is-not-changes-nothing : Adding-what-is-there-or-removing-what-is-not-changes-nothing
unfolding ruling ruling_on change_set_row change_right_row has_right
adding-what-is-there-or-removing-what-is-not-changes-nothing t c = (
  λ s r member h. stays t c (Call.Administer (Change.AddRole s r member)) (same_word t _ _ (added-there _ member h)),
  λ s r member h. stays t c (Call.Administer (Change.RemoveRole s r member)) (same_word t _ _ (removed-absent _ member h)),
  λ g r k right h. stays t c (Call.Administer (Change.AddRight g r k right)) (same_word t _ _ (added-there _ right h)),
  λ g r k right h. stays t c (Call.Administer (Change.RemoveRight g r k right)) (same_word t _ _ (removed-absent _ right h)),
)
