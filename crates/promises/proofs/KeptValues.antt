-- What is kept beside the files: the climb's, on well-formed tables and after every call, zeros for a free place; and no call moves more of it than
-- it has to. A write moves only what lies within it; and where values of a file are set, a climb that does not pass that file is as it was.
-- Assumes nothing.
use Prim.Native.Nat.{◌+◌, ◌*◌, ◌<◌, suc, zero, ℕ}
use mathlib.Core.Bool.{cond, false, true, ◌&&◌}
use mathlib.Core.List.{List, [], ◌∷◌}
use mathlib.Core.Logic.{◌≢◌, ◌⊎◌, inl, inr, ⊎_elim}
use mathlib.Core.Path.{◌∙◌, ◌≡◌, ap, refl, sym}
use native.Mathlib.Omega.{arith}
use native.Mathlib.Decide.{ℕ_discrete}
use borrow.Author.Tests.{eq-eqb, eqb-false, ltb-true}
use lib.Dec.{eqb}
use lib.ListN.{set}
use Rattle.sets.proofs.Below.{by_bool, neither}
use Rattle.model.specs.declared.Call.{Call}
use Rattle.model.specs.declared.Change.{Change}
use Rattle.model.specs.declared.Climbed.{Climbed}
use Rattle.model.specs.Numbers.{FILES, FILESYSTEM, GROUPS, INHERIT-PARENT, IPCS, places}
use Rattle.model.specs.Layout.{DEPTH, FILE-TYPE, FILE-WORDS, FORCED, INITIAL, KEPT-AT, KEPT-FORCED, KEPT-INITIAL, KEPT-TYPE, KEPT-WORDS, PARENT, file_addr}
use Rattle.model.specs.Ranges.{ranged_change}
use Rattle.model.specs.Words.{put}
use Rattle.model.specs.Records.{file_word, free_file, kept_at}
use Rattle.model.specs.Effective.{climb, ends_at, one_up, value_at}
use Rattle.model.specs.KeptValues.{revalued}
use Rattle.model.specs.Calls.{change_owner_row, change_role_row, clone_row, create_ipc_row, create_row, delete_ipc_row, delete_row, execute_row, exit_row}
use Rattle.model.specs.Administration.{change_right_row, change_set_row, ruling_on, set_default_type_row, set_process_forced_row, set_program_roles_row, set_role_admin_row, set_type_row, set_user_role_row, type_addr}
use Rattle.model.specs.Step.{ruling}
use Rattle.model.proofs.Records.{Written, by-group, file-word-stays, file-written, files-stay, ipc-written, kept-stays, process-written, put_written, set-written, written_then, written-within}
use Rattle.model.proofs.Decided.{tested}
use Rattle.model.proofs.Formed.{WellFormed, facts, free-file, parent_dir}
use Rattle.model.proofs.Effective.{effective-climb, effective-own}
use Rattle.model.proofs.KeptValues.{revalued-other, revalued-written, settled-written, unkept-written}
use Rattle.model.proofs.Kept.{change-kept, step_kept}
use Rattle.model.proofs.Granted.{Granted, clone-granted, create-granted, create-ipc-granted, granted-by}
use Rattle.promises.specs.Promises.{After-every-call-the-climb-is-kept-again, For-a-free-place-zeros-are-kept, No-other-value-kept-moves, Well-formed-tables-keep-the-climb}
use Rattle.promises.specs.Writes.{change_moves, climbs_past, moves_kept}
use Rattle.promises.proofs.Numbers.{step-granted}
use Rattle.promises.proofs.Changes.{granted-row}

pub well-formed-tables-keep-the-climb : Well-formed-tables-keep-the-climb
well-formed-tables-keep-the-climb t e = (facts t e).kept

pub after-every-call-the-climb-is-kept-again : After-every-call-the-climb-is-kept-again
after-every-call-the-climb-is-kept-again t c call e = (facts _ (step_kept t c call e)).kept

pub for-a-free-place-zeros-are-kept : For-a-free-place-zeros-are-kept
unfolding value_at
for-a-free-place-zeros-are-kept t k o e m l free =
    let zero_word = free-file t (facts t e).formed o l free (FILE-TYPE + k) (omega arith) in
    (facts t e).kept k o m l ∙ ap (λ (x : Climbed). x.value) (effective-own t (FILE-TYPE + k) o (λ z. absurd (omega arith))) ∙ zero_word

-- ---- values of file o are set

-- and then what is kept is written
module _ {t s u : List ℕ} (w : WellFormed t) (after : WellFormed u) (o : ℕ) (x : Written t s (file_addr o + FILE-TYPE) KEPT-WORDS) (y : Written s u KEPT-AT (FILES * KEPT-WORDS)) where
  word : (q k : ℕ) → q < FILES → k < FILE-WORDS → (q ≢ o) ⊎ (k < FILE-TYPE) → file_word u q k ≡ file_word t q k
  word q k i h d = files-stay y (omega arith) q k i h ∙ file-word-stays x q k (⊎_elim (λ n. omega arith) (λ n. omega arith) d)

  module _ (k : ℕ) (m : k < KEPT-WORDS) where
    -- a climb that does not pass o
    elsewhere : (d q : ℕ) → q < FILES → climbs_past d t (FILE-TYPE + k) o q ≡ false → climb d u (FILE-TYPE + k) q ≡ climb d t (FILE-TYPE + k) q
    unfolding climb
    elsewhere zero q i e = rw (word q (FILE-TYPE + k) i (omega arith) (inl (eqb-false q o e)))
    elsewhere (suc d) q i e =
        let h = neither (eqb q o) (eqb (file_word t q (FILE-TYPE + k)) INHERIT-PARENT && climbs_past d t (FILE-TYPE + k) o (file_word t q PARENT)) e in
        let n : q ≢ o = eqb-false q o h.0 in
        rw (word q (FILE-TYPE + k) i (omega arith) (inl n), word q PARENT i (omega arith) (inl n))
        (by_bool
        (λ b. (b && climbs_past d t (FILE-TYPE + k) o (file_word t q PARENT)) ≡ false
        → cond b (one_up (climb d u (FILE-TYPE + k) (file_word t q PARENT))) (ends_at q (file_word t q (FILE-TYPE + k)))
        ≡ cond b (one_up (climb d t (FILE-TYPE + k) (file_word t q PARENT))) (ends_at q (file_word t q (FILE-TYPE + k))))
        (eqb (file_word t q (FILE-TYPE + k)) INHERIT-PARENT)
        (λ z f. ap one_up (elsewhere d (file_word t q PARENT) (parent_dir t w.formed q i).0 f)) (λ z f. refl) h.1)

    passed-by : (q : ℕ) → q < FILES → climbs_past (file_word t q DEPTH) t (FILE-TYPE + k) o q ≡ false → kept_at u k q ≡ kept_at t k q
    unfolding value_at
    passed-by q i e =
        after.kept k q m i
        ∙ ap (λ (x : Climbed). x.value)
        (effective-climb u after.formed (FILE-TYPE + k) q i
        ∙ rw (word q DEPTH i (omega arith) (inr (omega arith))) (elsewhere (file_word t q DEPTH) q i e)
        ∙ sym (effective-climb t w.formed (FILE-TYPE + k) q i))
        ∙ sym (w.kept k q m i)

  -- value k may be set: that of a file whose climb does not pass o stays
  not-moved : (k j q : ℕ) → k < KEPT-WORDS → q < FILES → j ≡ k → (eqb j k && climbs_past (file_word t q DEPTH) t (FILE-TYPE + k) o q) ≡ false → kept_at u j q ≡ kept_at t j q
  not-moved k j q m i z e = rw z (passed-by k m q i (rw (eq-eqb j k z) at e))

-- ---- call by call

module _ (t : List ℕ) (w : WellFormed t) (c j q : ℕ) (h : j < KEPT-WORDS) (i : q < FILES) where
  type-moves : (o v : ℕ) → o < FILES → WellFormed (revalued (set t (file_addr o + FILE-TYPE) v) KEPT-TYPE o)
      → (eqb j KEPT-TYPE && climbs_past (file_word t q DEPTH) t FILE-TYPE o q) ≡ false
      → kept_at (revalued (set t (file_addr o + FILE-TYPE) v) KEPT-TYPE o) j q ≡ kept_at t j q
  type-moves o v l after e =
      elim (ℕ_discrete j KEPT-TYPE) [
        | yes z ↦ not-moved w after o (written-within x _ _ (omega arith) (omega arith)) (revalued-written KEPT-TYPE (omega arith) _ o l) KEPT-TYPE j q (omega arith) i z e
        | no d ↦ revalued-other KEPT-TYPE (omega arith) _ o j q h d ∙ kept-stays x j q (omega arith)
      ]
    where
      x : Written t (set t (file_addr o + FILE-TYPE) v) (file_addr o + FILE-TYPE) 1
      x = set-written t (file_addr o + FILE-TYPE) v

  roles-move : (f initial forced : ℕ) → f < FILES → WellFormed (set_program_roles_row t f initial forced)
      → (eqb j KEPT-INITIAL && climbs_past (file_word t q DEPTH) t INITIAL f q) ≡ false → (eqb j KEPT-FORCED && climbs_past (file_word t q DEPTH) t FORCED f q) ≡ false
      → kept_at (set_program_roles_row t f initial forced) j q ≡ kept_at t j q
  unfolding set_program_roles_row
  roles-move f initial forced l after a b =
      elim (ℕ_discrete j KEPT-INITIAL) [
        | yes z ↦ not-moved w after f within both KEPT-INITIAL j q (omega arith) i z a
        | no d ↦
            elim (ℕ_discrete j KEPT-FORCED) [
              | yes z ↦ not-moved w after f within both KEPT-FORCED j q (omega arith) i z b
              | no n ↦ revalued-other KEPT-FORCED (omega arith) _ f j q h n ∙ revalued-other KEPT-INITIAL (omega arith) _ f j q h d ∙ kept-stays x j q (omega arith)
            ]
      ]
    where
      s : List ℕ
      s = put t (file_addr f + INITIAL) (initial ∷ forced ∷ [])

      x : Written t s (file_addr f + INITIAL) 2
      x = put_written t (file_addr f + INITIAL) (initial ∷ forced ∷ [])

      within : Written t s (file_addr f + FILE-TYPE) KEPT-WORDS
      within = written-within x _ _ (omega arith) (omega arith)

      both : Written s (revalued (revalued s KEPT-INITIAL f) KEPT-FORCED f) KEPT-AT (FILES * KEPT-WORDS)
      both = written_then (revalued-written KEPT-INITIAL (omega arith) s f l) (revalued-written KEPT-FORCED (omega arith) (revalued s KEPT-INITIAL f) f l)

  set-type-moves : (g o v : ℕ) → g < GROUPS → o < places g → WellFormed (set_type_row t g o v)
      → (eqb g FILESYSTEM && (eqb j KEPT-TYPE && climbs_past (file_word t q DEPTH) t FILE-TYPE o q)) ≡ false → kept_at (set_type_row t g o v) j q ≡ kept_at t j q
  unfolding set_type_row
  set-type-moves g o v =
      by-group
      (λ g. o < places g → WellFormed (cond (eqb g FILESYSTEM) (revalued (set t (type_addr g o) v) KEPT-TYPE o) (set t (type_addr g o) v))
      → (eqb g FILESYSTEM && (eqb j KEPT-TYPE && climbs_past (file_word t q DEPTH) t FILE-TYPE o q)) ≡ false
      → kept_at (cond (eqb g FILESYSTEM) (revalued (set t (type_addr g o) v) KEPT-TYPE o) (set t (type_addr g o) v)) j q ≡ kept_at t j q)
      (λ l after e. type-moves o v l after e)
      (λ l after e. kept-stays (set-written t _ v) j q (omega arith))
      (λ l after e. kept-stays (set-written t _ v) j q (omega arith))
      g

  change-moves : (change : Change) → ranged_change change ≡ true → (ruling_on t c change).number ≡ 0 → change_moves t change j q ≡ false
      → kept_at (ruling_on t c change).row j q ≡ kept_at t j q
  unfolding ruling_on change_set_row set_user_role_row set_process_forced_row set_default_type_row set_role_admin_row change_right_row
  change-moves (Change.AddRole s r member) l g e = let x = simp tested at l in kept-stays (set-written t _ _) j q (omega arith)
  change-moves (Change.RemoveRole s r member) l g e = let x = simp tested at l in kept-stays (set-written t _ _) j q (omega arith)
  change-moves (Change.SetUserRole a r) l g e = let x = simp tested at l in kept-stays (set-written t _ _) j q (omega arith)
  change-moves (Change.SetProgramRoles f initial forced) l g e =
      let x = simp tested at l in
      let n = neither _ _ e in
      roles-move f initial forced x.0.0 (change-kept t w c (Change.SetProgramRoles f initial forced) l g) n.0 n.1
  change-moves (Change.SetProcessForced p v) l g e = let x = simp tested at l in kept-stays (set-written t _ _) j q (omega arith)
  change-moves (Change.SetDefaultType which r v) l g e = let x = simp tested at l in kept-stays (set-written t _ _) j q (omega arith)
  change-moves (Change.SetRoleAdmin r mark) l g e = let x = simp tested at l in kept-stays (set-written t _ _) j q (omega arith)
  change-moves (Change.SetType g o v) l n e =
      let x = simp tested at l in
      set-type-moves g o v x.0.0 x.0.1 (change-kept t w c (Change.SetType g o v) l n) e
  change-moves (Change.AddRight g r k right) l n e = kept-stays (set-written t _ _) j q (omega arith)
  change-moves (Change.RemoveRight g r k right) l n e = kept-stays (set-written t _ _) j q (omega arith)

  call-moves : (call : Call) → Granted t c call → moves_kept t call j q ≡ false → kept_at (ruling t c call).row j q ≡ kept_at t j q
  unfolding ruling clone_row exit_row execute_row change_owner_row change_role_row create_row delete_row create_ipc_row delete_ipc_row
  call-moves (Call.Access g o right) x e = refl
  call-moves Call.Clone x e = let l = ((clone-granted t c).0 x.ruled).room in kept-stays (process-written t _ _) j q (omega arith)
  call-moves Call.Exit x e = let l = x.caller.placed in kept-stays (process-written t _ _) j q (omega arith)
  call-moves (Call.Execute f) x e = let l = x.caller.placed in kept-stays (process-written t _ _) j q (omega arith)
  call-moves (Call.ChangeOwner a) x e = let l = x.caller.placed in kept-stays (process-written t _ _) j q (omega arith)
  call-moves (Call.ChangeRole r) x e = let l = x.caller.placed in kept-stays (process-written t _ _) j q (omega arith)
  call-moves (Call.Create kind y) x e =
      let l = ((create-granted t c y).0 x.ruled).room in
      let n = eqb-false q _ e in
      kept-stays (settled-written _ _) j q (omega arith) ∙ kept-stays (file-written t _ _) j q (omega arith)
  call-moves (Call.Delete o) x e =
      let l = ltb-true o FILES x.ranged in
      let n = eqb-false q o e in
      kept-stays (unkept-written _ o) j q (omega arith) ∙ kept-stays (file-written t o free_file) j q (omega arith)
  call-moves Call.CreateIpc x e = let l = ((create-ipc-granted t c).0 x.ruled).room in kept-stays (ipc-written t _ _) j q (omega arith)
  call-moves (Call.DeleteIpc a) x e = let l = ltb-true a IPCS x.ranged in kept-stays (ipc-written t a _) j q (omega arith)
  call-moves (Call.Administer change) x e = change-moves change x.ranged x.ruled e

pub no-other-value-kept-moves : No-other-value-kept-moves
no-other-value-kept-moves t c call j q e h i stays =
    let x = (step-granted t c call).0 e in
    rw (granted-row t c call e) (call-moves t (facts t x.0) c j q h i call ((granted-by t c call).0 x.1) stays)
