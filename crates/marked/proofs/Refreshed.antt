-- What is kept beside the files (W-206), computed from the definition: a file may lie at a lower place than its directory, and is then right
-- after the second sweep; and a file with a type of its own does not follow.
-- Assumes nothing.
use Prim.Native.Nat.{ℕ, ◌+◌}
use mathlib.Core.Path.{◌≡◌, refl}
use mathlib.Core.List.{List, [], ◌∷◌}
use lib.ListN.{set}
use Rattle.model.specs.declared.Call.{Call}
use Rattle.model.specs.declared.Change.{Change}
use Rattle.model.specs.Numbers.{FILESYSTEM, FILE, DIR, CREATE, DELETE, is_root}
use Rattle.model.specs.Layout.{FILE-TYPE, KEPT-TYPE, KEPT-INITIAL, KEPT-FORCED, file_addr}
use Rattle.model.specs.Records.{file_word, kept_at}
use Rattle.model.specs.Effective.{root_value}
use Rattle.model.specs.KeptValues.{own_or_parents, kept_anew, swept, sweeps}
use Rattle.model.specs.Fresh.{fresh}
use Rattle.model.specs.Runs.{Event, asks, after}
use Rattle.marked.proofs.Computing.{administers, acted, computing}

-- directory 2 in the root; file 1 in directory 2, where the first file 1 was deleted; file 3 in directory 2 too, with type 7
pub growing : List Event
growing =
    administers 0 (Change.AddRight FILESYSTEM 0 0 CREATE)
    ∷ administers 0 (Change.AddRight FILESYSTEM 0 0 DELETE)
    ∷ asks 0 (Call.Create FILE 0)
    ∷ asks 0 (Call.Create DIR 0)
    ∷ asks 0 (Call.Delete 1)
    ∷ asks 0 (Call.Create FILE 2)
    ∷ asks 0 (Call.Create FILE 2)
    ∷ administers 0 (Change.SetType FILESYSTEM 3 7)
    ∷ []

-- what is kept for file o
abbrev entry : List ℕ → ℕ → List ℕ
entry t o = kept_at t KEPT-TYPE o ∷ kept_at t KEPT-INITIAL o ∷ kept_at t KEPT-FORCED o ∷ []

-- the root's, those of both files, and that of a place that is free
pub each-file-has-its-entry :
    entry (after fresh growing) 0 ∷ entry (after fresh growing) 1 ∷ entry (after fresh growing) 3 ∷ entry (after fresh growing) 4 ∷ []
    ≡ (0 ∷ 33 ∷ 36 ∷ []) ∷ (0 ∷ 33 ∷ 36 ∷ []) ∷ (7 ∷ 33 ∷ 36 ∷ []) ∷ (0 ∷ 0 ∷ 0 ∷ []) ∷ []
each-file-has-its-entry = simp computing (unfold acted fresh growing kept_at in refl)

-- the types kept for the first four places, after so many sweeps over them, where directory 2 has been given type 5
abbrev types_after : ℕ → List ℕ
types_after d =
    let t = sweeps d 0 4 (set (after fresh growing) (file_addr 2 + FILE-TYPE) 5) KEPT-TYPE in
    kept_at t KEPT-TYPE 0 ∷ kept_at t KEPT-TYPE 1 ∷ kept_at t KEPT-TYPE 2 ∷ kept_at t KEPT-TYPE 3 ∷ []

pub a-file-may-lie-below-its-directorys-place :
    types_after 0 ∷ types_after 1 ∷ types_after 2 ∷ types_after 3 ∷ []
    ≡ (0 ∷ 0 ∷ 0 ∷ 7 ∷ []) ∷ (0 ∷ 0 ∷ 5 ∷ 7 ∷ []) ∷ (0 ∷ 5 ∷ 5 ∷ 7 ∷ []) ∷ (0 ∷ 5 ∷ 5 ∷ 7 ∷ []) ∷ []
a-file-may-lie-below-its-directorys-place =
    simp computing (unfold acted fresh growing sweeps swept kept_anew own_or_parents root_value file_word kept_at in refl)
