-- A write within one place keeps a well-formed row well formed, if that place passes afterwards: one law for each table, whatever is written there.
-- Below them, what may be put or set: any valid record, and any one word in its range. After a write of a file all is well formed but what is kept
-- beside the files (`Formed`); KeptValues goes on from there.
-- Assumes nothing.
use Prim.Native.Nat.{ℕ, ◌+◌, ◌*◌, ◌-◌, ◌≤◌, ◌<◌}
use mathlib.Core.Path.{◌≡◌, refl, sym, ap, ◌∙◌}
use mathlib.Core.Bool.{Bool, true, false, cond, false≢true}
use mathlib.Core.List.{List}
use mathlib.Core.Logic.{◌≢◌, ◌⊎◌, inl, inr, ⊎_elim}
use native.Mathlib.Omega.{arith}
use native.Mathlib.Decide.{ℕ_discrete}
use borrow.Author.Tests.{lt-ltb, le-leb, eq-eqb, ne_eqb, eqb-false}
use lib.ListN.{length, set}
use lib.Dec.{ltb, leb, eqb}
use Rattle.sets.specs.Below.{all_below}
use Rattle.sets.proofs.Below.{all-at, all_of}
use Rattle.model.specs.declared.Kind.{Kind}
use Rattle.model.specs.declared.Role.{Role}
use Rattle.model.specs.declared.Process.{Process}
use Rattle.model.specs.declared.File.{File}
use Rattle.model.specs.declared.Ipc.{Ipc}
use Rattle.model.specs.Numbers.{FILESYSTEM, PROCESS, IPC, PROCESSES, FILES, IPCS, ROLES, USERS, TYPES, FREE, DIR, DEEPEST, INHERIT-PARENT, FIRST-PROCESS, GROUPS, ROOT}
use Rattle.model.specs.Layout.{process_addr, user_addr, role_addr, ipc_addr, file_addr, rights_addr, DEPTH, FILE-WORDS, IPC-WORDS, KIND, PARENT, PROCESS-WORDS, ROLE-WORDS, FILE-TYPE, IPC-TYPE, FILES-AT, KEPT-AT, KEPT-WORDS, RIGHTS-AT}
use Rattle.model.specs.Ranges.{ok_process_forced, ok_default}
use Rattle.model.specs.Words.{◌!◌, block}
use Rattle.model.specs.Records.{kind_word, process_words, put_process, free_process, put_file, free_file, file_word, ipc_words, put_ipc, occupied}
use Rattle.model.specs.WellFormed.{process_words_ok, ipc_words_ok, process_ok, user_ok, role_ok, ipc_ok, file_ok}
use Rattle.model.specs.Transitions.{created}
use Rattle.model.proofs.Words.{word-set-same, word-set-other}
use Rattle.model.proofs.Records.{Clear, Written, set-written, process-written, file-written, ipc-written, block-stays, file-word-stays, kept-stays, files-stay, occupied-stays, process-block, file-block, file-block-word, ipc-block, file-word-set, process-first, ipc-first, file-first, file-occupied, process-put-occupied}
use Rattle.model.proofs.Formed.{Formed, WellFormed, Live, Defaults, ok_value, Used, Barren, used-file, used-ok, file-same, parent_dir, dir-occupied, free-barren}
use Rattle.model.proofs.Effective.{value_same}

-- ---- a write and the tables

module _ {t u : List ℕ} {a n : ℕ} (x : Written t u a n) where
  process-ok-stays : (p : ℕ) → Clear (process_addr p) PROCESS-WORDS a n → process_ok u p ≡ process_ok t p
  unfolding process_ok
  process-ok-stays p c = rw (block-stays x (process_addr p) PROCESS-WORDS c)

  user-ok-stays : (i : ℕ) → Clear (user_addr i) 1 a n → user_ok u i ≡ user_ok t i
  unfolding user_ok
  user-ok-stays i c = rw (x.other (user_addr i) c)

  role-ok-stays : (r : ℕ) → Clear (role_addr r) ROLE-WORDS a n → role_ok u r ≡ role_ok t r
  unfolding role_ok
  role-ok-stays r c = rw (block-stays x (role_addr r) ROLE-WORDS c)

  ipc-ok-stays : (i : ℕ) → Clear (ipc_addr i) IPC-WORDS a n → ipc_ok u i ≡ ipc_ok t i
  unfolding ipc_ok
  ipc-ok-stays i c = rw (block-stays x (ipc_addr i) IPC-WORDS c)

  -- each table lies clear of the write, or passes
  pub row-formed : Formed t
      → Clear (process_addr 0) (PROCESSES * PROCESS-WORDS) a n ⊎ (((p : ℕ) → p < PROCESSES → process_ok u p ≡ true) × (occupied u PROCESS FIRST-PROCESS ≡ true))
      → Clear (user_addr 0) USERS a n ⊎ ((i : ℕ) → i < USERS → user_ok u i ≡ true)
      → Clear (role_addr 0) (ROLES * ROLE-WORDS) a n ⊎ ((r : ℕ) → r < ROLES → role_ok u r ≡ true)
      → Clear (ipc_addr 0) (IPCS * IPC-WORDS) a n ⊎ ((i : ℕ) → i < IPCS → ipc_ok u i ≡ true)
      → Clear (file_addr 0) (FILES * FILE-WORDS) a n ⊎ (((o : ℕ) → o < FILES → file_ok u o ≡ true) × (occupied u FILESYSTEM ROOT ≡ true)) → Formed u
  row-formed w processes users roles ipcs files =
      record {
        sized = x.sized ∙ w.sized;
        processes = λ p l. ⊎_elim (λ c. process-ok-stays p (λ y z. c (omega arith) (omega arith)) ∙ w.processes p l) (λ h. h.0 p l) processes;
        users = λ i l. ⊎_elim (λ c. user-ok-stays i (λ y z. c (omega arith) (omega arith)) ∙ w.users i l) (λ h. h i l) users;
        roles = λ r l. ⊎_elim (λ c. role-ok-stays r (λ y z. c (omega arith) (omega arith)) ∙ w.roles r l) (λ h. h r l) roles;
        ipcs = λ i l. ⊎_elim (λ c. ipc-ok-stays i (λ y z. c (omega arith) (omega arith)) ∙ w.ipcs i l) (λ h. h i l) ipcs;
        files = λ o l. ⊎_elim
            (λ c.
            let y = (parent_dir t w o l).0 in
            file-same t u o (λ k m. file-word-stays x o k (λ p q. c (omega arith) (omega arith)))
            (file-word-stays x (file_word t o PARENT) KIND (λ p q. c (omega arith) (omega arith)))
            (file-word-stays x (file_word t o PARENT) DEPTH (λ p q. c (omega arith) (omega arith)))
            ∙ w.files o l)
            (λ h. h.0 o l) files;
        first = ⊎_elim (λ c. occupied-stays x PROCESS FIRST-PROCESS (λ y z. c (omega arith) (omega arith)) ∙ w.first) (λ h. h.1) processes;
        root = ⊎_elim (λ c. occupied-stays x FILESYSTEM ROOT (λ y z. c (omega arith) (omega arith)) ∙ w.root) (λ h. h.1) files;
      }

  -- a write apart from the files and from what is kept beside them leaves every value kept the climb's
  aside : WellFormed t → Clear FILES-AT (FILES * FILE-WORDS + FILES * KEPT-WORDS) a n → Formed u → WellFormed u
  aside w c f =
      record {
        formed = f;
        kept = λ k o m l.
            kept-stays x k o (λ p q. c (omega arith) (omega arith)) ∙ w.kept k o m l
            ∙ sym (value_same t u w.formed (files-stay x (λ p q. c (omega arith) (omega arith))) (FILE-TYPE + k) (omega arith) o l);
      }

  -- ---- a write within one place, by its table

  pub process-place-kept : (p : ℕ) → WellFormed t → p < PROCESSES → process_addr p ≤ a → a + n ≤ process_addr p + PROCESS-WORDS
      → process_ok u p ≡ true → (p ≡ FIRST-PROCESS → occupied u PROCESS p ≡ true) → WellFormed u
  process-place-kept p w l from to ok first =
      let f = w.formed in
      aside w (omega arith)
      (row-formed f
      (inr (
        λ q m. elim (ℕ_discrete q p) [ yes s ↦ rw s ok | no d ↦ process-ok-stays q (omega arith) ∙ f.processes q m ],
        elim (ℕ_discrete p FIRST-PROCESS) [ yes s ↦ rw s at (first s) | no d ↦ occupied-stays x PROCESS FIRST-PROCESS (omega arith) ∙ f.first ],
      ))
      (inl (omega arith)) (inl (omega arith)) (inl (omega arith)) (inl (omega arith)))

  pub user-place-kept : (i : ℕ) → WellFormed t → i < USERS → user_addr i ≤ a → a + n ≤ user_addr i + 1 → user_ok u i ≡ true → WellFormed u
  user-place-kept i w l from to ok =
      aside w (omega arith)
      (row-formed w.formed (inl (omega arith))
      (inr (λ q m. elim (ℕ_discrete q i) [ yes s ↦ rw s ok | no d ↦ user-ok-stays q (omega arith) ∙ w.formed.users q m ]))
      (inl (omega arith)) (inl (omega arith)) (inl (omega arith)))

  pub role-place-kept : (r : ℕ) → WellFormed t → r < ROLES → role_addr r ≤ a → a + n ≤ role_addr r + ROLE-WORDS → role_ok u r ≡ true → WellFormed u
  role-place-kept r w l from to ok =
      aside w (omega arith)
      (row-formed w.formed (inl (omega arith)) (inl (omega arith))
      (inr (λ q m. elim (ℕ_discrete q r) [ yes s ↦ rw s ok | no d ↦ role-ok-stays q (omega arith) ∙ w.formed.roles q m ]))
      (inl (omega arith)) (inl (omega arith)))

  pub ipc-place-kept : (i : ℕ) → WellFormed t → i < IPCS → ipc_addr i ≤ a → a + n ≤ ipc_addr i + IPC-WORDS → ipc_ok u i ≡ true → WellFormed u
  ipc-place-kept i w l from to ok =
      aside w (omega arith)
      (row-formed w.formed (inl (omega arith)) (inl (omega arith)) (inl (omega arith))
      (inr (λ q m. elim (ℕ_discrete q i) [ yes s ↦ rw s ok | no d ↦ ipc-ok-stays q (omega arith) ∙ w.formed.ipcs q m ]))
      (inl (omega arith)))

  pub right-place-kept : WellFormed t → RIGHTS-AT ≤ a → a + n ≤ RIGHTS-AT + GROUPS * (ROLES * TYPES) → WellFormed u
  right-place-kept w from to =
      aside w (omega arith)
      (row-formed w.formed (inl (omega arith)) (inl (omega arith)) (inl (omega arith)) (inl (omega arith)) (inl (omega arith)))

  -- what is kept beside the files is no part of any table's test
  pub beside-formed : Formed t → KEPT-AT ≤ a → a + n ≤ KEPT-AT + FILES * KEPT-WORDS → Formed u
  beside-formed w from to = row-formed w (inl (omega arith)) (inl (omega arith)) (inl (omega arith)) (inl (omega arith)) (inl (omega arith))

  -- a file place whose kind and depth stay, or that no place names as its parent
  pub file-place-formed : (o : ℕ) → Formed t → o < FILES → file_addr o ≤ a → a + n ≤ file_addr o + FILE-WORDS
      → ((file_word u o KIND ≡ file_word t o KIND) × (file_word u o DEPTH ≡ file_word t o DEPTH)) ⊎ ((o ≢ ROOT) × Barren t o)
      → file_ok u o ≡ true → Formed u
  file-place-formed o w l from to link ok =
      row-formed w (inl (omega arith)) (inl (omega arith)) (inl (omega arith)) (inl (omega arith))
      (inr (λ q m. elim (ℕ_discrete q o) [ yes s ↦ rw s ok | no d ↦ other q m d ∙ w.files q m ], root))
    where
      word : (q k : ℕ) → q ≢ o → k < FILE-WORDS → file_word u q k ≡ file_word t q k
      word q k d m = file-word-stays x q k (omega arith)

      -- of the parent of q
      named : (q : ℕ) → q < FILES → (k : ℕ) → k < FILE-WORDS
          → ((file_word u o KIND ≡ file_word t o KIND) × (file_word u o DEPTH ≡ file_word t o DEPTH) → file_word u o k ≡ file_word t o k)
          → file_word u (file_word t q PARENT) k ≡ file_word t (file_word t q PARENT) k
      named q m k j same =
          elim (ℕ_discrete (file_word t q PARENT) o) [
            | yes s ↦ rw s (⊎_elim same (λ b. absurd (b.1 q m s)) link)
            | no d ↦ word (file_word t q PARENT) k d j
          ]

      other : (q : ℕ) → q < FILES → q ≢ o → file_ok u q ≡ file_ok t q
      other q m d = file-same t u q (λ k j. word q k d j) (named q m KIND (omega arith) (λ h. h.0)) (named q m DEPTH (omega arith) (λ h. h.1))

      -- the kind of the root stays, in either case
      kind : file_word u ROOT KIND ≡ file_word t ROOT KIND
      kind =
          elim (ℕ_discrete o ROOT) [
            | yes s ↦ ⊎_elim (λ h. rw s at h.0) (λ h. absurd (h.0 s)) link
            | no d ↦ word ROOT KIND (λ e. d (sym e)) (omega arith)
          ]

      root : occupied u FILESYSTEM ROOT ≡ true
      root = rw (file-occupied u ROOT, kind, ← file-occupied t ROOT) w.root

-- ---- what may be put

live-ok : (r : Process) → Live r → process_words_ok (process_words r) ≡ true
live-ok r l = rw (l.live, lt-ltb r.owner USERS l.owner, lt-ltb r.role ROLES l.role, lt-ltb r.rctype TYPES l.rctype, l.forced)

kind-bound : (k : Kind) → kind_word k ≤ DIR
kind-bound Kind.Free = omega arith
kind-bound Kind.File = omega arith
kind-bound Kind.Dir = omega arith

module _ (t : List ℕ) (w : WellFormed t) where
  -- a live process anywhere
  pub put-live : (p : ℕ) (r : Process) → p < PROCESSES → Live r → WellFormed (put_process t p r)
  unfolding process_ok
  put-live p r l v =
      process-place-kept (process-written t p r) p w l (omega arith) (omega arith) (rw (process-block t w.formed.sized p r l) (live-ok r v))
      (λ z. process-put-occupied t w.formed.sized p r l ∙ v.live)

  -- process 0 stays
  pub put-free-process : (p : ℕ) → p < PROCESSES → p ≢ FIRST-PROCESS → WellFormed (put_process t p free_process)
  unfolding process_ok
  put-free-process p l n =
      process-place-kept (process-written t p free_process) p w l (omega arith) (omega arith) (rw (process-block t w.formed.sized p free_process l)) (λ z. absurd (n z))

  pub put-ipc : (i : ℕ) (r : Ipc) → i < IPCS → ipc_words_ok (ipc_words r) ≡ true → WellFormed (put_ipc t i r)
  unfolding ipc_ok
  put-ipc i r l v = ipc-place-kept (ipc-written t i r) i w l (omega arith) (omega arith) (rw (ipc-block t w.formed.sized i r l) v)

module _ (t : List ℕ) (w : Formed t) where
  pub put-file : (o : ℕ) (f : File) → o < FILES → o ≢ ROOT → Barren t o → file_ok (put_file t o f) o ≡ true → Formed (put_file t o f)
  put-file o f l n b v = file-place-formed (file-written t o f) o w l (omega arith) (omega arith) (inr (n, b)) v

  pub put-free-file : (o : ℕ) → o < FILES → o ≢ ROOT → Barren t o → Formed (put_file t o free_file)
  unfolding file_ok
  put-free-file o l n b = put-file o free_file l n b (rw (file-block t w.sized o free_file l))

  created-ok : (o y : ℕ) (own : Role) (kind : Kind) → o < FILES → o ≢ ROOT → y ≢ o → Defaults own → kind_word kind ≢ FREE
      → y < FILES → file_word t y KIND ≡ DIR → file_word t y DEPTH < DEEPEST → file_ok (put_file t o (created own kind y (file_word t y DEPTH + 1))) o ≡ true
  unfolding file_ok created
  created-ok o y own kind l nz n d k m dir depth =
      let f = created own kind y (file_word t y DEPTH + 1) in
      rw (file-block t w.sized o f l, block-stays (file-written t o f) (file_addr y) FILE-WORDS (omega arith), file-block-word t y KIND (omega arith), file-block-word t y DEPTH (omega arith), ne_eqb (kind_word kind) 0 k, le-leb (kind_word kind) DIR (kind-bound kind), le-leb own.filecreate INHERIT-PARENT d.filecreate, ne_eqb o ROOT nz, lt-ltb y FILES m, dir, eq-eqb (file_word t y DEPTH + 1) (file_word t y DEPTH + 1) refl, le-leb (file_word t y DEPTH + 1) DEEPEST (omega arith))

  -- rule 6: a new file or directory in a free place, under the DIR y
  pub put-created : (o y : ℕ) (own : Role) (kind : Kind) → o < FILES → occupied t FILESYSTEM o ≡ false → Defaults own → kind_word kind ≢ FREE
      → y < FILES → file_word t y KIND ≡ DIR → file_word t y DEPTH < DEEPEST → Formed (put_file t o (created own kind y (file_word t y DEPTH + 1)))
  put-created o y own kind l e d k m dir depth =
      let b = free-barren t w o e in
      put-file o (created own kind y (file_word t y DEPTH + 1)) l b.0 b.1
      (created-ok o y own kind l b.0 (λ z. false≢true (sym e ∙ ap (λ (q : ℕ). occupied t FILESYSTEM q) (sym z) ∙ dir-occupied t y dir)) d k m dir depth)

-- ---- what may be set

-- the words of a run stay in range if one of them is set to a word in range
words-set : (t : List ℕ) (a n s v : ℕ) (ok : ℕ → ℕ → Bool) → a + s < length t → ok s v ≡ true
    → all_below n (λ k. ok k (t ! (a + k))) ≡ true → all_below n (λ k. ok k (set t (a + s) v ! (a + k))) ≡ true
words-set t a n s v ok l h all =
    all_of _ n (λ k m.
    elim (ℕ_discrete k s) [
      | yes e ↦ rw (e, word-set-same t (a + s) v l) h
      | no d ↦ rw (word-set-other t (a + s) v (a + k) (omega arith)) (all-at _ n all k m)
    ])

-- the range of each word of a process, an IPC object and a role
abbrev pub process_word_ok : ℕ → ℕ → Bool
process_word_ok k v = cond (eqb k 0) (eqb v 1) (cond (eqb k 1) (ltb v USERS) (cond (eqb k 2) (ltb v ROLES) (cond (eqb k 3) (ltb v TYPES) (ok_process_forced v))))

abbrev pub ipc_word_ok : ℕ → ℕ → Bool
ipc_word_ok k v = cond (eqb k 0) (eqb v 1) (ltb v TYPES)

abbrev pub role_word_ok : ℕ → ℕ → Bool
role_word_ok k v = cond (ltb k 3) true (cond (eqb k 3) (leb v 1) (ok_default (k - 4) v))

module _ (t : List ℕ) where
  process-words : (p : ℕ) → occupied t PROCESS p ≡ true → process_ok t p ≡ all_below 5 (λ k. process_word_ok k (t ! (process_addr p + k)))
  unfolding process_ok block all_below
  process-words p e = rw (process-first t p true e)

  ipc-words : (i : ℕ) → occupied t IPC i ≡ true → ipc_ok t i ≡ all_below 2 (λ k. ipc_word_ok k (t ! (ipc_addr i + k)))
  unfolding ipc_ok block all_below
  ipc-words i e = rw (ipc-first t i true e)

  role-words : (r : ℕ) → role_ok t r ≡ all_below 9 (λ k. role_word_ok k (t ! (role_addr r + k)))
  unfolding role_ok block all_below
  role-words r = refl

module _ (t : List ℕ) (w : WellFormed t) where
  -- a word of a live process after the first
  pub set-process : (p s v : ℕ) → p < PROCESSES → occupied t PROCESS p ≡ true → 0 < s → s < PROCESS-WORDS → process_word_ok s v ≡ true
      → WellFormed (set t (process_addr p + s) v)
  set-process p s v l e z m h =
      let x = set-written t (process_addr p + s) v in
      let k : occupied (set t (process_addr p + s) v) PROCESS p ≡ true = occupied-stays x PROCESS p (omega arith) ∙ e in
      process-place-kept x p w l (omega arith) (omega arith)
      (process-words (set t (process_addr p + s) v) p k
      ∙ words-set t (process_addr p) PROCESS-WORDS s v process_word_ok (omega (arith, w.formed.sized)) h (sym (process-words t p e) ∙ w.formed.processes p l))
      (λ y. k)

  -- the type of a live IPC object
  pub set-ipc : (i v : ℕ) → i < IPCS → occupied t IPC i ≡ true → v < TYPES → WellFormed (set t (ipc_addr i + IPC-TYPE) v)
  set-ipc i v l e h =
      let x = set-written t (ipc_addr i + IPC-TYPE) v in
      ipc-place-kept x i w l (omega arith) (omega arith)
      (ipc-words (set t (ipc_addr i + IPC-TYPE) v) i (occupied-stays x IPC i (omega arith) ∙ e)
      ∙ words-set t (ipc_addr i) IPC-WORDS 1 v ipc_word_ok (omega (arith, w.formed.sized)) (lt-ltb v TYPES h) (sym (ipc-words t i e) ∙ w.formed.ipcs i l))

  -- a word of a role
  pub set-role : (r s v : ℕ) → r < ROLES → s < ROLE-WORDS → role_word_ok s v ≡ true → WellFormed (set t (role_addr r + s) v)
  set-role r s v l m h =
      role-place-kept (set-written t (role_addr r + s) v) r w l (omega arith) (omega arith)
      (role-words (set t (role_addr r + s) v) r
      ∙ words-set t (role_addr r) ROLE-WORDS s v role_word_ok (omega (arith, w.formed.sized)) h (sym (role-words t r) ∙ w.formed.roles r l))

  -- a user's default role
  pub set-user : (i v : ℕ) → i < USERS → v < ROLES → WellFormed (set t (user_addr i) v)
  unfolding user_ok
  set-user i v l h =
      user-place-kept (set-written t (user_addr i) v) i w l (omega arith) (omega arith)
      (rw (word-set-same t (user_addr i) v (omega (arith, w.formed.sized))) (lt-ltb v ROLES h))

  -- any right of any role
  pub set-right : (g r k v : ℕ) → g < GROUPS → r < ROLES → k < TYPES → WellFormed (set t (rights_addr g r k) v)
  set-right g r k v l m n = right-place-kept (set-written t (rights_addr g r k) v) w (omega arith) (omega arith)

module _ (t : List ℕ) (w : Formed t) where
  -- the type, initial or forced value of an occupied file place
  pub set_value : (o k v : ℕ) → o < FILES → occupied t FILESYSTEM o ≡ true → k < 3 → ok_value k v ≡ true → Formed (set t (file_addr o + (FILE-TYPE + k)) v)
  set_value o k v l e m h =
      file-place-formed x o w l (omega arith) (omega arith) (inl (word o KIND (omega arith), word o DEPTH (omega arith)))
      (used-ok u o (λ z. eqb-false _ _ (file-first t o true e) (sym (word o KIND (omega arith)) ∙ z)) used)
    where
      u : List ℕ
      u = set t (file_addr o + (FILE-TYPE + k)) v

      x : Written t u (file_addr o + (FILE-TYPE + k)) 1
      x = set-written t (file_addr o + (FILE-TYPE + k)) v

      f : Used t o
      f = used-file t w o l e

      -- kinds, parents and depths stay
      word : (q j : ℕ) → j < 3 → file_word u q j ≡ file_word t q j
      word q j n = file-word-stays x q j (omega arith)

      used : Used u o
      used =
          record {
            kind = rw (word o KIND (omega arith)) f.kind;
            values = λ j n.
                elim (ℕ_discrete j k) [
                  | yes s ↦ rw (s, file-word-set t w.sized o (FILE-TYPE + k) v l (omega arith)) h
                  | no d ↦ rw (file-word-stays x o (FILE-TYPE + j) (omega arith)) (f.values j n)
                ];
            top = λ z. rw (word o KIND (omega arith), word o PARENT (omega arith), word o DEPTH (omega arith)) (f.top z);
            under = λ n.
                let y = f.under n in
                record {
                  placed = rw (word o PARENT (omega arith)) y.placed;
                  dir = rw (word o PARENT (omega arith), word (file_word t o PARENT) KIND (omega arith)) y.dir;
                  deeper = rw (word o PARENT (omega arith), word o DEPTH (omega arith), word (file_word t o PARENT) DEPTH (omega arith)) y.deeper;
                  bounded = rw (word o DEPTH (omega arith)) y.bounded;
                };
          }
