-- Fresh tables ("Fresh tables"): role 0 is Role Admin, process 0 runs with it (rule 1), the root inherits.
-- Assumes nothing.
use Rattle.std.specs.Prelude.{ℕ, zero, suc, ◌-◌, ◌*◌, Bool, true, false, List, [], ◌∷◌, ◌++◌, length, replicate, eqb}
use Rattle.model.specs.declared.Kind.{Kind}
use Rattle.model.specs.declared.Initial.{Initial}
use Rattle.model.specs.declared.Forced.{Forced}
use Rattle.model.specs.declared.Process.{Process}
use Rattle.model.specs.declared.File.{File}
use Rattle.model.specs.declared.Role.{Role}
use Rattle.model.specs.Numbers.{GROUPS, ROLES, USERS, TYPES, PROCESSES, FILES, IPCS, INHERIT-PARENT, ROOT, ROOT-TYPE, ROOT-INITIAL, ROOT-FORCED, ◌unless◌}
use Rattle.model.specs.Layout.{PROCESS-WORDS, IPC-WORDS, FILE-WORDS, KEPT-WORDS, row_length}
use Rattle.model.specs.Records.{process_words, file_words, role_words, set_of}
use Rattle.model.specs.Outcome.{Outcome, decide}

-- owner 0, role 0, type 0, forced up mixed
abbrev pub first_process : Process
first_process = record { live = true; owner = 0; role = 0; rctype = 0; forced = Forced.UpMixed }

-- inherit parent in type, initial and forced
abbrev pub root_dir : File
root_dir =
    record {
      kind = Kind.Dir;
      parent = ROOT;
      depth = 0;
      rctype = INHERIT-PARENT;
      initial = Initial.InheritParent;
      forced = Forced.InheritParent;
    }

-- all sets empty; all default types inherit parent, IPC create 0
abbrev pub fresh_role : Bool → Role
fresh_role admin =
    record {
      compatible = set_of 0;
      admin = set_of 0;
      assign = set_of 0;
      mark = admin;
      filecreate = INHERIT-PARENT;
      processcreate = INHERIT-PARENT;
      execute = INHERIT-PARENT;
      chown = INHERIT-PARENT;
      ipccreate = 0;
    }

-- the words w, n times over
abbrev pub times : ℕ → List ℕ → List ℕ
times zero w = []
times (suc n) w = w ++ times n w

abbrev pub fresh_processes : List ℕ
fresh_processes = process_words first_process ++ replicate ((PROCESSES - 1) * PROCESS-WORDS) 0

abbrev pub fresh_users : List ℕ
fresh_users = replicate USERS 0

abbrev pub fresh_roles : List ℕ
fresh_roles = role_words (fresh_role true) ++ times (ROLES - 1) (role_words (fresh_role false))

abbrev pub fresh_ipc : List ℕ
fresh_ipc = replicate (IPCS * IPC-WORDS) 0

abbrev pub fresh_files : List ℕ
fresh_files = file_words root_dir ++ replicate ((FILES - 1) * FILE-WORDS) 0

-- what the root's three values read as
abbrev pub fresh_kept : List ℕ
fresh_kept = (ROOT-TYPE ∷ ROOT-INITIAL ∷ ROOT-FORCED ∷ []) ++ replicate ((FILES - 1) * KEPT-WORDS) 0

abbrev pub fresh_rights : List ℕ
fresh_rights = replicate (GROUPS * (ROLES * TYPES)) 0

unfoldable pub fresh : List ℕ
fresh = fresh_processes ++ fresh_users ++ fresh_roles ++ fresh_ipc ++ fresh_files ++ fresh_kept ++ fresh_rights

-- building fresh tables asks only for the full length of what is overwritten
unfoldable pub build_fresh : List ℕ → Outcome
build_fresh t = decide t (1 unless eqb (length t) row_length) 0 fresh
