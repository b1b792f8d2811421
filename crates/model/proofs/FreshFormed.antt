-- Fresh tables are well formed. The small tables are computed; of the files, and of what is kept beside them, only the root's place is, since all
-- words past it are zeros, and a place that holds zeros passes.
-- Assumes nothing.
use Prim.Native.Nat.{ℕ, zero, suc, ◌+◌, ◌-◌, ◌*◌, ◌<◌}
use mathlib.Core.Path.{◌≡◌, refl, sym, ap, ◌∙◌}
use mathlib.Core.Bool.{true}
use mathlib.Core.List.{List, [], ◌∷◌, ◌++◌}
use native.Mathlib.Omega.{arith}
use lib.ListN.{length, replicate}
use lib.Seq.{get_or-append-add}
use Rattle.sets.specs.Below.{all_below}
use Rattle.sets.proofs.Below.{all-at}
use Rattle.model.specs.declared.Climbed.{Climbed}
use Rattle.model.specs.Numbers.{PROCESSES, USERS, ROLES, IPCS, FILES, ROOT, ROOT-TYPE, ROOT-INITIAL, ROOT-FORCED}
use Rattle.model.specs.Layout.{KIND, PARENT, DEPTH, FILE-TYPE, INITIAL, FORCED, FILE-WORDS, ROLE-WORDS, IPC-WORDS, KEPT-WORDS, USERS-AT, ROLES-AT, IPCS-AT, FILES-AT, file_addr, kept_addr}
use Rattle.model.specs.Words.{◌!◌, block}
use Rattle.model.specs.Records.{file_word, file_words, kept_at, occupied}
use Rattle.model.specs.WellFormed.{process_ok, user_ok, role_ok, ipc_ok, file_ok, well_formed}
use Rattle.model.specs.Effective.{climb, effective, value_at, root_value}
use Rattle.model.specs.Fresh.{root_dir, fresh_processes, fresh_users, fresh_roles, fresh_ipc, fresh_files, fresh_kept, fresh_rights, fresh}
use Rattle.model.proofs.Formed.{WellFormed, test}
use Rattle.model.proofs.Effective.{effective-own}

-- word n of a list that begins with the m words a is word k of the rest
past : (a rest : List ℕ) (m n k : ℕ) → length a ≡ m → n ≡ m + k → (a ++ rest) ! n ≡ rest ! k
past a rest m n k l e = let z : n ≡ length a + k = rw l e in ap (λ (i : ℕ). (a ++ rest) ! i) z ∙ get_or-append-add a rest k 0

zeros-first : (n : ℕ) (rest : List ℕ) (k : ℕ) → k < n → (replicate n 0 ++ rest) ! k ≡ 0
zeros-first zero rest k l = absurd (omega arith)
zeros-first (suc n) rest zero l = refl
zeros-first (suc n) rest (suc k) l = zeros-first n rest k (omega arith)

-- a word of the files, and of what is kept beside them: table by table
in-files : (n k : ℕ) → n ≡ FILES-AT + k → fresh ! n ≡ (fresh_files ++ fresh_kept ++ fresh_rights) ! k
unfolding fresh
in-files n k e =
    past fresh_processes (fresh_users ++ fresh_roles ++ fresh_ipc ++ fresh_files ++ fresh_kept ++ fresh_rights) USERS-AT n (FILES-AT - USERS-AT + k) refl (omega arith)
    ∙ past fresh_users (fresh_roles ++ fresh_ipc ++ fresh_files ++ fresh_kept ++ fresh_rights) USERS (FILES-AT - USERS-AT + k) (FILES-AT - ROLES-AT + k) refl (omega arith)
    ∙ past fresh_roles (fresh_ipc ++ fresh_files ++ fresh_kept ++ fresh_rights) (ROLES * ROLE-WORDS) (FILES-AT - ROLES-AT + k) (FILES-AT - IPCS-AT + k) refl (omega arith)
    ∙ past fresh_ipc (fresh_files ++ fresh_kept ++ fresh_rights) (IPCS * IPC-WORDS) (FILES-AT - IPCS-AT + k) k refl (omega arith)

-- all but the root's place are zeros, in both tables
past-root : (o k : ℕ) → suc o < FILES → k < FILE-WORDS → file_word fresh (suc o) k ≡ 0
unfolding file_word
past-root o k l m =
    in-files (file_addr (suc o) + k) (FILE-WORDS + (o * FILE-WORDS + k)) (omega arith)
    ∙ past (file_words root_dir) (replicate ((FILES - 1) * FILE-WORDS) 0 ++ fresh_kept ++ fresh_rights) FILE-WORDS _ (o * FILE-WORDS + k) refl refl
    ∙ zeros-first ((FILES - 1) * FILE-WORDS) (fresh_kept ++ fresh_rights) (o * FILE-WORDS + k) (omega arith)

past-root-kept : (k o : ℕ) → k < KEPT-WORDS → suc o < FILES → kept_at fresh k (suc o) ≡ 0
unfolding kept_at
past-root-kept k o m l =
    in-files (kept_addr (suc o) + k) (FILES * FILE-WORDS + (KEPT-WORDS + (o * KEPT-WORDS + k))) (omega arith)
    ∙ past fresh_files (fresh_kept ++ fresh_rights) (FILES * FILE-WORDS) _ (KEPT-WORDS + (o * KEPT-WORDS + k)) refl refl
    ∙ past (ROOT-TYPE ∷ ROOT-INITIAL ∷ ROOT-FORCED ∷ []) (replicate ((FILES - 1) * KEPT-WORDS) 0 ++ fresh_rights) KEPT-WORDS _ (o * KEPT-WORDS + k) refl refl
    ∙ zeros-first ((FILES - 1) * KEPT-WORDS) fresh_rights (o * KEPT-WORDS + k) (omega arith)

-- a place that holds zeros passes
zeros-ok : (t : List ℕ) (o : ℕ) → ((k : ℕ) → k < FILE-WORDS → file_word t o k ≡ 0) → file_ok t o ≡ true
unfolding file_ok block file_word
zeros-ok t o z =
    rw (z KIND (omega arith), z PARENT (omega arith), z DEPTH (omega arith), z FILE-TYPE (omega arith), z INITIAL (omega arith), z FORCED (omega arith))

root_ok : file_ok fresh ROOT ≡ true
unfolding fresh file_ok block
root_ok = refl

file-ok : (o : ℕ) → o < FILES → file_ok fresh o ≡ true
file-ok zero l = root_ok
file-ok (suc o) l = zeros-ok fresh (suc o) (λ k m. past-root o k l m)

-- what is kept for the root is computed too; elsewhere the file's own zeros are kept
root_kept : (k : ℕ) → k < KEPT-WORDS → kept_at fresh k ROOT ≡ value_at fresh (FILE-TYPE + k) ROOT
unfolding fresh kept_at value_at effective climb root_value file_word
root_kept zero m = refl
root_kept (suc zero) m = refl
root_kept (suc (suc zero)) m = refl
root_kept (suc (suc (suc k))) m = absurd (omega arith)

kept-ok : (k o : ℕ) → k < KEPT-WORDS → o < FILES → kept_at fresh k o ≡ value_at fresh (FILE-TYPE + k) o
unfolding value_at
kept-ok k zero m l = root_kept k m
kept-ok k (suc o) m l =
    let own = past-root o (FILE-TYPE + k) l (omega arith) in
    past-root-kept k o m l ∙ sym own
    ∙ ap (λ (e : Climbed). e.value) (sym (effective-own fresh (FILE-TYPE + k) (suc o) (λ z. absurd (omega arith))))

fresh-facts : WellFormed fresh
unfolding fresh process_ok user_ok role_ok ipc_ok occupied block all_below
fresh-facts =
    record {
      formed =
          record {
            sized = refl;
            processes = all-at (process_ok fresh) PROCESSES refl;
            users = all-at (user_ok fresh) USERS refl;
            roles = all-at (role_ok fresh) ROLES refl;
            ipcs = all-at (ipc_ok fresh) IPCS refl;
            files = file-ok;
            first = refl;
            root = refl;
          };
      kept = kept-ok;
    }

pub fresh-formed : well_formed fresh ≡ true
fresh-formed = test fresh fresh-facts
