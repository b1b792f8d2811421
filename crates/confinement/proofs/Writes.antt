-- What a write leaves of the invariant. A write of a process, an IPC object or a file leaves roles, users and rights; a write of a process or an
-- IPC object leaves every file and its anchor; a write of one process leaves every other member; a write of a file, with what is kept for it,
-- leaves every other file's anchor.
-- Assumes nothing.
use Prim.Native.Nat.{ℕ, ◌+◌, ◌-◌, ◌≤◌, ◌<◌}
use mathlib.Core.Path.{◌≡◌, sym, ◌∙◌}
use mathlib.Core.Bool.{true}
use mathlib.Core.List.{List}
use mathlib.Core.Logic.{◌≢◌, ◌⊎◌, ⊎_elim}
use native.Mathlib.Omega.{arith}
use native.Mathlib.Decide.{ℕ_discrete}
use Rattle.model.specs.declared.File.{File}
use Rattle.model.specs.declared.Ipc.{Ipc}
use Rattle.model.specs.declared.Process.{Process}
use Rattle.model.specs.Numbers.{FILESYSTEM, PROCESS, PROCESSES, FILES, IPCS}
use Rattle.model.specs.Layout.{process_addr, kept_addr, FILES-AT, RIGHTS-AT, KEPT-FORCED, KEPT-INITIAL, KEPT-TYPE, KEPT-WORDS, KIND}
use Rattle.model.specs.Records.{process_at, put_process, file_word, kept_at, put_file, put_ipc, occupied}
use Rattle.model.specs.Policy.{SamePolicy}
use Rattle.model.specs.Runs.{Family}
use Rattle.model.proofs.Records.{Written, written-within, written_then, policy-stays, file-word-stays, kept-stays, process-stays, occupied-stays, process-written, file-written, ipc-written, process-put-same, process-put-other, file-word-put-other, file-occupied, process-put-occupied}
use Rattle.model.proofs.Formed.{WellFormed}
use Rattle.confinement.proofs.Invariant.{Within, Member, Anchor, Invariant}
use Rattle.confinement.proofs.Less.{NoMore, no-more-same, no-more-on}

module _ (t₀ w t : List ℕ) (F : Family) (inv : Invariant t₀ w t F) where
  policy-after : {u : List ℕ} → SamePolicy t u → NoMore t₀ u
  policy-after {u} s = no-more-on t₀ t u inv.policy (no-more-same t u s)

  -- ---- files

  -- a file with the kind that it had, and with what was kept for it
  anchor-kept : (u : List ℕ) (x : ℕ) → x < FILES → file_word u x KIND ≡ file_word t x KIND
      → ((k : ℕ) → k < KEPT-WORDS → kept_at u k x ≡ kept_at t k x) → occupied u FILESYSTEM x ≡ true → Anchor t₀ w u x
  anchor-kept u x l kind same o =
      let a = inv.anchors x l (file-occupied t x ∙ rw (← kind) (sym (file-occupied u x) ∙ o)) in
      record {
        at = a.at;
        placed = a.placed;
        used = a.used;
        dir = λ d. a.dir (sym kind ∙ d);
        rctype = rw (same KEPT-TYPE (omega arith)) a.rctype;
        initial = same KEPT-INITIAL (omega arith) ∙ a.initial;
        forced = same KEPT-FORCED (omega arith) ∙ a.forced;
      }

  -- a write before the files leaves them all, and what is kept for them
  anchors-same : {u : List ℕ} {a n : ℕ} → Written t u a n → a + n ≤ FILES-AT → (x : ℕ) → x < FILES → occupied u FILESYSTEM x ≡ true → Anchor t₀ w u x
  anchors-same {u} written b x l = anchor-kept u x l (file-word-stays written x KIND (omega arith)) (λ k m. kept-stays written k x (omega arith))

  -- ---- processes

  member-kept : (u : List ℕ) (p : ℕ) → process_at u p ≡ process_at t p → occupied u PROCESS p ≡ occupied t PROCESS p
      → F p ≡ true → Member t₀ w u p
  member-kept u p r o f =
      let m = inv.members p f in
      record { placed = m.placed; live = o ∙ m.live; within = rw r m.within }

  -- a write past the processes leaves them all
  members-same : {u : List ℕ} {a n : ℕ} → Written t u a n → process_addr PROCESSES ≤ a → (q : ℕ) → F q ≡ true → Member t₀ w u q
  members-same {u} written l q f =
      let m = (inv.members q f).placed in
      member-kept u q (process-stays written q (omega arith)) (occupied-stays written PROCESS q (omega arith)) f

  -- a process is put at p: each member of the family afterwards was one elsewhere, or is at p and within the bounds
  pub put-process : (p : ℕ) (r : Process) (F' : Family) → p < PROCESSES → WellFormed (put_process t p r)
      → ((q : ℕ) → F' q ≡ true → ((q ≢ p) × (F q ≡ true)) ⊎ ((q ≡ p) × (r.live ≡ true) × Within t₀ w r))
      → Invariant t₀ w (put_process t p r) F'
  put-process p r F' l formed member =
      record {
        formed = formed;
        policy = policy-after (policy-stays (process-written t p r) (omega arith) (omega arith));
        anchors = anchors-same (process-written t p r) (omega arith);
        members = λ q f. ⊎_elim (λ h. other q h.0 h.1) (λ h. rw h.0 (here h.1 h.2)) (member q f);
      }
    where
      other : (q : ℕ) → q ≢ p → F q ≡ true → Member t₀ w (put_process t p r) q
      other q n f =
          member-kept (put_process t p r) q (process-put-other t p r q n) (occupied-stays (process-written t p r) PROCESS q (omega arith)) f

      here : r.live ≡ true → Within t₀ w r → Member t₀ w (put_process t p r) p
      here e h =
          let sized = inv.formed.formed.sized in
          record {
            placed = l;
            live = process-put-occupied t sized p r l ∙ e;
            within = rw (process-put-same t sized p r l h.named) h;
          }

  -- ---- files and IPC objects: the family is as before

  -- a file is put at z, and then what is kept for it
  pub put-file : (z : ℕ) (f : File) (u : List ℕ) → z < FILES → Written (put_file t z f) u (kept_addr z) KEPT-WORDS → WellFormed u
      → (occupied u FILESYSTEM z ≡ true → Anchor t₀ w u z) → Invariant t₀ w u F
  put-file z f u l beside formed new =
      record {
        formed = formed;
        policy = policy-after (policy-stays both (omega arith) (omega arith));
        anchors = λ x h o. elim (ℕ_discrete x z) [
          | yes e ↦ rw e (new (rw e at o))
          | no n ↦
              anchor-kept u x h (file-word-stays beside x KIND (omega arith) ∙ file-word-put-other t z f x KIND n (omega arith))
              (λ k m. kept-stays beside k x (omega arith) ∙ kept-stays (file-written t z f) k x (omega arith)) o
        ];
        members = members-same both (omega arith);
      }
    where
      both : Written t u FILES-AT (RIGHTS-AT - FILES-AT)
      both =
          written_then (written-within (file-written t z f) FILES-AT (RIGHTS-AT - FILES-AT) (omega arith) (omega arith))
          (written-within beside FILES-AT (RIGHTS-AT - FILES-AT) (omega arith) (omega arith))

  pub put-ipc : (i : ℕ) (r : Ipc) → i < IPCS → WellFormed (put_ipc t i r) → Invariant t₀ w (put_ipc t i r) F
  put-ipc i r l formed =
      record {
        formed = formed;
        policy = policy-after (policy-stays (ipc-written t i r) (omega arith) (omega arith));
        anchors = anchors-same (ipc-written t i r) (omega arith);
        members = members-same (ipc-written t i r) (omega arith);
      }
