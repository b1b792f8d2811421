-- What is read after a write. A write is a change of the row within one run of words (`Written`), and what lies clear of that run reads as before:
-- each reader has one law for every write (`..-stays`), each write one that says where it stands (`..-written`), and `omega` shows that they are clear.
-- Assumes nothing.
use Prim.Native.Nat.{ℕ, zero, suc, ◌+◌, ◌*◌, ◌≤◌, ◌<◌}
use mathlib.Core.Path.{◌≡◌, refl, sym, ap, ◌∙◌}
use mathlib.Core.Bool.{Bool, true, false, cond, not}
use mathlib.Core.List.{List}
use mathlib.Core.Logic.{◌≢◌, inl, inr, ⊎_elim}
use native.Mathlib.Omega.{arith}
use native.Mathlib.Nat.{add-zero}
use borrow.Author.Tests.{ltb-true, ltb-false, lt-ltb, eqb-true, eqb-false, not-true}
use lib.ListN.{length, set, length-set}
use lib.Dec.{ltb, eqb}
use Rattle.sets.proofs.Below.{lt-or-le, first-hit}
use Rattle.model.specs.declared.Initial.{Initial}
use Rattle.model.specs.declared.Forced.{Forced}
use Rattle.model.specs.declared.Process.{Process}
use Rattle.model.specs.declared.File.{File}
use Rattle.model.specs.declared.Ipc.{Ipc}
use Rattle.model.specs.Numbers.{GROUPS, FILESYSTEM, PROCESS, IPC, PROCESSES, FILES, IPCS, ROLES, USERS, TYPES, INHERIT-PARENT, USE-FORCED-ROLE, INHERIT-USER, INHERIT-PROCESS, UP-MIXED, places}
use Rattle.model.specs.Layout.{row_length, process_addr, user_addr, role_addr, ipc_addr, file_addr, kept_addr, rights_addr, FILE-WORDS, KEPT-WORDS, IPC-WORDS, KIND, PROCESS-WORDS, ROLE-WORDS, FILES-AT, RIGHTS-AT, USERS-AT, IPC-LIVE, LIVE}
use Rattle.model.specs.Words.{◌!◌, block, put}
use Rattle.model.specs.Records.{flag, kind_word, initial_of, forced_word, forced_of, process_words, process_of, process_at, put_process, file_words, put_file, file_word, kept_at, ipc_words, ipc_of, ipc_at, put_ipc, role_of, role_at, user_role, has_right, place_addr, occupied, free_place}
use Rattle.model.specs.Policy.{SamePolicy}
use Rattle.model.proofs.Words.{put-length, word-put-other, block-put-same, block-agree, block_at, word-set-same, word-set-other}

-- ---- writes

-- the m words at b and the n words at a have none in common
abbrev pub Clear : ℕ → ℕ → ℕ → ℕ → Type 0
Clear b m a n = a < b + m → b < a + n → ⊥

-- row u is row t but for the n words at a
pub record Written (t u : List ℕ) (a n : ℕ) : Type 0 where
  pub sized : length u ≡ length t
  pub other : (b : ℕ) → Clear b 1 a n → u ! b ≡ t ! b

module _ (t : List ℕ) where
  pub put_written : (a : ℕ) (vs : List ℕ) → Written t (put t a vs) a (length vs)
  put_written a vs =
      record {
        sized = put-length t a vs;
        other = λ b c. word-put-other t a vs b
            (⊎_elim (λ l. inl l) (λ l. ⊎_elim (λ m. absurd (c (omega arith) m)) (λ m. inr m) (lt-or-le b (a + length vs))) (lt-or-le b a));
      }

  pub set-written : (a v : ℕ) → Written t (set t a v) a 1
  set-written a v =
      record { sized = length-set t a v; other = λ b c. word-set-other t a v b (λ e. c (omega arith) (omega arith)) }

  pub process-written : (p : ℕ) (r : Process) → Written t (put_process t p r) (process_addr p) PROCESS-WORDS
  unfolding put_process
  process-written p r = put_written (process_addr p) (process_words r)

  pub file-written : (o : ℕ) (f : File) → Written t (put_file t o f) (file_addr o) FILE-WORDS
  unfolding put_file
  file-written o f = put_written (file_addr o) (file_words f)

  pub ipc-written : (i : ℕ) (r : Ipc) → Written t (put_ipc t i r) (ipc_addr i) IPC-WORDS
  unfolding put_ipc
  ipc-written i r = put_written (ipc_addr i) (ipc_words r)

-- no write at all, a write that lies within a longer run, and one write after another
pub unwritten : (t : List ℕ) (a n : ℕ) → Written t t a n
unwritten t a n = record { sized = refl; other = λ b c. refl }

module _ {t u : List ℕ} {a n : ℕ} (x : Written t u a n) where
  pub written-within : (b m : ℕ) → b ≤ a → a + n ≤ b + m → Written t u b m
  written-within b m from to = record { sized = x.sized; other = λ e c. x.other e (λ p q. c (omega arith) (omega arith)) }

  pub written_then : {v : List ℕ} → Written u v a n → Written t v a n
  written_then y = record { sized = y.sized ∙ x.sized; other = λ b c. y.other b c ∙ x.other b c }

-- ---- what lies clear of a write reads as before

module _ {t u : List ℕ} {a n : ℕ} (w : Written t u a n) where
  pub block-stays : (b m : ℕ) → Clear b m a n → block u b m ≡ block t b m
  block-stays b m c = block-agree u t b m (λ x l k. w.other x (λ p q. c (omega arith) (omega arith)))

  pub process-stays : (p : ℕ) → Clear (process_addr p) PROCESS-WORDS a n → process_at u p ≡ process_at t p
  unfolding process_at
  process-stays p c = ap process_of (block-stays (process_addr p) PROCESS-WORDS c)

  pub ipc-stays : (i : ℕ) → Clear (ipc_addr i) IPC-WORDS a n → ipc_at u i ≡ ipc_at t i
  unfolding ipc_at
  ipc-stays i c = ap ipc_of (block-stays (ipc_addr i) IPC-WORDS c)

  pub role-stays : (r : ℕ) → Clear (role_addr r) ROLE-WORDS a n → role_at u r ≡ role_at t r
  unfolding role_at
  role-stays r c = ap role_of (block-stays (role_addr r) ROLE-WORDS c)

  pub user-stays : (i : ℕ) → Clear (user_addr i) 1 a n → user_role u i ≡ user_role t i
  unfolding user_role
  user-stays i c = w.other (user_addr i) c

  pub right-stays : (g r k right : ℕ) → Clear (rights_addr g r k) 1 a n → has_right u g r k right ≡ has_right t g r k right
  unfolding has_right
  right-stays g r k right c = rw (w.other (rights_addr g r k) c)

  pub file-word-stays : (o k : ℕ) → Clear (file_addr o + k) 1 a n → file_word u o k ≡ file_word t o k
  unfolding file_word
  file-word-stays o k c = w.other (file_addr o + k) c

  pub kept-stays : (k o : ℕ) → Clear (kept_addr o + k) 1 a n → kept_at u k o ≡ kept_at t k o
  unfolding kept_at
  kept-stays k o c = w.other (kept_addr o + k) c

  pub occupied-stays : (g p : ℕ) → Clear (place_addr g p) 1 a n → occupied u g p ≡ occupied t g p
  unfolding occupied
  occupied-stays g p c = rw (w.other (place_addr g p) c)

-- ---- whole tables

-- a write of processes, IPC objects or files leaves the policy alone
pub policy-stays : {t u : List ℕ} {a n : ℕ} → Written t u a n → Clear USERS-AT (USERS + ROLES * ROLE-WORDS) a n
    → Clear RIGHTS-AT (GROUPS * (ROLES * TYPES)) a n → SamePolicy t u
policy-stays w c d =
    record {
      roles = λ r m. role-stays w r (λ p q. c (omega arith) (omega arith));
      users = λ i m. user-stays w i (λ p q. c (omega arith) (omega arith));
      rights = λ g r k right l m n. right-stays w g r k right (λ p q. d (omega arith) (omega arith));
    }

pub policy-same : (t : List ℕ) → SamePolicy t t
policy-same t = record { roles = λ r l. refl; users = λ i l. refl; rights = λ g r k right l m n. refl }

-- a write clear of the files leaves every word of every file alone
pub files-stay : {t u : List ℕ} {a n : ℕ} → Written t u a n → Clear FILES-AT (FILES * FILE-WORDS) a n
    → (o k : ℕ) → o < FILES → k < FILE-WORDS → file_word u o k ≡ file_word t o k
files-stay w c o k l m = file-word-stays w o k (λ p q. c (omega arith) (omega arith))

-- another place of the table that is written, and the policy

module _ (t : List ℕ) where
  pub process-put-other : (p : ℕ) (r : Process) (q : ℕ) → q ≢ p → process_at (put_process t p r) q ≡ process_at t q
  process-put-other p r q n = process-stays (process-written t p r) q (omega arith)

  pub file-word-put-other : (o : ℕ) (f : File) (q k : ℕ) → q ≢ o → k < FILE-WORDS → file_word (put_file t o f) q k ≡ file_word t q k
  file-word-put-other o f q k n l = file-word-stays (file-written t o f) q k (omega arith)

  pub process-put-policy : (p : ℕ) (r : Process) → p < PROCESSES → SamePolicy t (put_process t p r)
  process-put-policy p r l = policy-stays (process-written t p r) (omega arith) (omega arith)

  pub file-put-policy : (o : ℕ) (f : File) → o < FILES → SamePolicy t (put_file t o f)
  file-put-policy o f l = policy-stays (file-written t o f) (omega arith) (omega arith)

  pub ipc-put-policy : (i : ℕ) (r : Ipc) → i < IPCS → SamePolicy t (put_ipc t i r)
  ipc-put-policy i r l = policy-stays (ipc-written t i r) (omega arith) (omega arith)

-- ---- by cases

pub by_cond : {A : Type 0} (P : A → Type 0) (b : Bool) (x y : A) → (b ≡ true → P x) → (b ≡ false → P y) → P (cond b x y)
by_cond P true x y p q = p refl
by_cond P false x y p q = q refl

-- what is shown of each group holds of any
pub by-group : (P : ℕ → Type 0) → P FILESYSTEM → P PROCESS → P IPC → (g : ℕ) → g < GROUPS → P g
by-group P f p i zero l = f
by-group P f p i (suc zero) l = p
by-group P f p i (suc (suc zero)) l = i
by-group P f p i (suc (suc (suc g))) l = absurd (omega arith)

-- ---- values and their words

-- to show a thing of a decoded value, show it in each case
pub by-forced : (P : Forced → Type 0) (v : ℕ) → (v < ROLES → P (Forced.Plain v)) → (v ≡ INHERIT-PARENT → P Forced.InheritParent)
    → (v ≡ INHERIT-USER → P Forced.InheritUser) → (v ≡ INHERIT-PROCESS → P Forced.InheritProcess)
    → (ROLES ≤ v → v ≢ INHERIT-PARENT → v ≢ INHERIT-USER → v ≢ INHERIT-PROCESS → P Forced.UpMixed) → P (forced_of v)
unfolding forced_of
by-forced P v plain parent user process mixed =
    by_cond P (ltb v ROLES) _ _ (λ e. plain (ltb-true v ROLES e))
    (λ e. by_cond P (eqb v INHERIT-PARENT) _ _ (λ f. parent (eqb-true v INHERIT-PARENT f))
    (λ f. by_cond P (eqb v INHERIT-USER) _ _ (λ g. user (eqb-true v INHERIT-USER g))
    (λ g. by_cond P (eqb v INHERIT-PROCESS) _ _ (λ h. process (eqb-true v INHERIT-PROCESS h))
    (λ h. mixed (ltb-false v ROLES e) (eqb-false v INHERIT-PARENT f) (eqb-false v INHERIT-USER g) (eqb-false v INHERIT-PROCESS h)))))

pub by-initial : (P : Initial → Type 0) (v : ℕ) → (v < ROLES → P (Initial.Plain v)) → (v ≡ INHERIT-PARENT → P Initial.InheritParent)
    → (ROLES ≤ v → v ≢ INHERIT-PARENT → P Initial.UseForcedRole) → P (initial_of v)
unfolding initial_of
by-initial P v plain parent forced =
    by_cond P (ltb v ROLES) _ _ (λ e. plain (ltb-true v ROLES e))
    (λ e. by_cond P (eqb v INHERIT-PARENT) _ _ (λ f. parent (eqb-true v INHERIT-PARENT f))
    (λ f. forced (ltb-false v ROLES e) (eqb-false v INHERIT-PARENT f)))

-- the role that a value names, 0 where it names none
abbrev pub role_in_forced : Forced → ℕ
role_in_forced (Forced.Plain r) = r
role_in_forced Forced.InheritParent = 0
role_in_forced Forced.InheritUser = 0
role_in_forced Forced.InheritProcess = 0
role_in_forced Forced.UpMixed = 0

abbrev pub role_in_initial : Initial → ℕ
role_in_initial (Initial.Plain r) = r
role_in_initial Initial.InheritParent = 0
role_in_initial Initial.UseForcedRole = 0

-- a decoded value names a role, if any
pub forced-named : (v : ℕ) → role_in_forced (forced_of v) < ROLES
forced-named v =
    by-forced (λ f. role_in_forced f < ROLES) v (λ e. e) (λ e. omega arith) (λ e. omega arith) (λ e. omega arith) (λ e f g h. omega arith)

-- the word of a decoded word, where it stands for a value
pub forced-word : (v : ℕ) → v ≤ UP-MIXED → v ≢ USE-FORCED-ROLE → forced_word (forced_of v) ≡ v
forced-word v l n =
    by-forced (λ f. forced_word f ≡ v) v (λ e. refl) (λ e. sym e) (λ e. sym e) (λ e. sym e) (λ e f g h. omega arith)

-- the value of a value's word
pub forced-same : (f : Forced) → role_in_forced f < ROLES → forced_of (forced_word f) ≡ f
unfolding forced_of
forced-same (Forced.Plain r) l = rw (lt-ltb r ROLES l)
forced-same Forced.InheritParent l = refl
forced-same Forced.InheritUser l = refl
forced-same Forced.InheritProcess l = refl
forced-same Forced.UpMixed l = refl

pub flag_same : (b : Bool) → eqb (flag b) 1 ≡ b
flag_same true = refl
flag_same false = refl

flag-there : (b : Bool) → not (eqb (flag b) 0) ≡ b
flag-there true = refl
flag-there false = refl

-- ---- whether a place is occupied: the first word of its record

flipped : (x b : Bool) → not x ≡ b → x ≡ not b
flipped true b e = ap not e
flipped false b e = ap not e

module _ (t : List ℕ) where
  pub process-occupied : (p : ℕ) → occupied t PROCESS p ≡ not (eqb (block t (process_addr p) PROCESS-WORDS ! LIVE) 0)
  unfolding occupied
  process-occupied p = rw (block_at t (process_addr p) PROCESS-WORDS LIVE (omega arith), add-zero)

  pub ipc-occupied : (i : ℕ) → occupied t IPC i ≡ not (eqb (block t (ipc_addr i) IPC-WORDS ! IPC-LIVE) 0)
  unfolding occupied
  ipc-occupied i = rw (block_at t (ipc_addr i) IPC-WORDS IPC-LIVE (omega arith), add-zero)

  pub file-occupied : (o : ℕ) → occupied t FILESYSTEM o ≡ not (eqb (file_word t o KIND) 0)
  unfolding occupied file_word
  file-occupied o = rw add-zero

  -- read from the place to the word
  pub process-first : (p : ℕ) (b : Bool) → occupied t PROCESS p ≡ b → eqb (block t (process_addr p) PROCESS-WORDS ! LIVE) 0 ≡ not b
  process-first p b e = flipped (eqb (block t (process_addr p) PROCESS-WORDS ! LIVE) 0) b (sym (process-occupied p) ∙ e)

  pub ipc-first : (i : ℕ) (b : Bool) → occupied t IPC i ≡ b → eqb (block t (ipc_addr i) IPC-WORDS ! IPC-LIVE) 0 ≡ not b
  ipc-first i b e = flipped (eqb (block t (ipc_addr i) IPC-WORDS ! IPC-LIVE) 0) b (sym (ipc-occupied i) ∙ e)

  pub file-first : (o : ℕ) (b : Bool) → occupied t FILESYSTEM o ≡ b → eqb (file_word t o KIND) 0 ≡ not b
  file-first o b e = flipped (eqb (file_word t o KIND) 0) b (sym (file-occupied o) ∙ e)

  pub file-block-word : (o k : ℕ) → k < FILE-WORDS → block t (file_addr o) FILE-WORDS ! k ≡ file_word t o k
  unfolding file_word
  file-block-word o k l = block_at t (file_addr o) FILE-WORDS k l

  -- the place that a creation takes is free
  pub free-place : (g : ℕ) → free_place t g < places g → occupied t g (free_place t g) ≡ false
  unfolding free_place
  free-place g l = not-true (occupied t g (free_place t g)) (first-hit (λ p. not (occupied t g p)) (places g) l)

-- ---- what was written is read back, in a row of full length

module _ (t : List ℕ) (e : length t ≡ row_length) where
  -- the words of the record
  pub process-block : (p : ℕ) (r : Process) → p < PROCESSES → block (put_process t p r) (process_addr p) PROCESS-WORDS ≡ process_words r
  unfolding put_process
  process-block p r l = block-put-same t (process_addr p) (process_words r) (omega arith)

  pub file-block : (o : ℕ) (f : File) → o < FILES → block (put_file t o f) (file_addr o) FILE-WORDS ≡ file_words f
  unfolding put_file
  file-block o f l = block-put-same t (file_addr o) (file_words f) (omega arith)

  pub ipc-block : (i : ℕ) (r : Ipc) → i < IPCS → block (put_ipc t i r) (ipc_addr i) IPC-WORDS ≡ ipc_words r
  unfolding put_ipc
  ipc-block i r l = block-put-same t (ipc_addr i) (ipc_words r) (omega arith)

  pub file-word-put : (o : ℕ) (f : File) (k : ℕ) → o < FILES → k < FILE-WORDS → file_word (put_file t o f) o k ≡ file_words f ! k
  file-word-put o f k l m = sym (file-block-word (put_file t o f) o k m) ∙ ap (λ (ws : List ℕ). ws ! k) (file-block o f l)

  -- the record
  pub process-put-same : (p : ℕ) (r : Process) → p < PROCESSES → role_in_forced r.forced < ROLES → process_at (put_process t p r) p ≡ r
  unfolding process_at
  process-put-same p r l n = rw (process-block p r l, flag_same r.live, forced-same r.forced n)

  -- whether the place is occupied
  pub process-put-occupied : (p : ℕ) (r : Process) → p < PROCESSES → occupied (put_process t p r) PROCESS p ≡ r.live
  process-put-occupied p r l = rw (process-occupied (put_process t p r) p, process-block p r l) (flag-there r.live)

  pub file-put-occupied : (o : ℕ) (f : File) → o < FILES → occupied (put_file t o f) FILESYSTEM o ≡ not (eqb (kind_word f.kind) 0)
  file-put-occupied o f l = rw (file-occupied (put_file t o f) o, file-word-put o f KIND l (omega arith))

  -- a word that was set
  pub file-word-set : (o k v : ℕ) → o < FILES → k < FILE-WORDS → file_word (set t (file_addr o + k) v) o k ≡ v
  unfolding file_word
  file-word-set o k v l m = word-set-same t (file_addr o + k) v (omega arith)

  pub kept_set : (k o v : ℕ) → o < FILES → k < KEPT-WORDS → kept_at (set t (kept_addr o + k) v) k o ≡ v
  unfolding kept_at
  kept_set k o v l m = word-set-same t (kept_addr o + k) v (omega arith)
