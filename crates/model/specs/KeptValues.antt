-- Effective values kept beside the files (W-206): what calls and claims read, and how a write of a file goes on to what is kept.
-- Value k is KEPT-TYPE, KEPT-INITIAL or KEPT-FORCED; a file's own value k is its word FILE-TYPE + k.
-- Assumes nothing.
use Rattle.std.specs.Prelude.{ℕ, zero, suc, ◌+◌, cond, List, [], ◌∷◌, eqb, set}
use Rattle.model.specs.Numbers.{DEPTHS, DIR, FILES, INHERIT-PARENT, is_root, by_group}
use Rattle.model.specs.Layout.{KIND, PARENT, FILE-TYPE, KEPT-TYPE, KEPT-INITIAL, KEPT-FORCED, kept_addr}
use Rattle.model.specs.Words.{put}
use Rattle.model.specs.Records.{file_word, kept_at, process_at, ipc_at}
use Rattle.model.specs.Effective.{root_value}

-- the effective type of an object, as calls read it: only files inherit
unfoldable pub type_of : List ℕ → ℕ → ℕ → ℕ
type_of t g o = by_group g (kept_at t KEPT-TYPE o) (process_at t o).rctype (ipc_at t o).rctype

-- one step of the climb: a file's own value, and where that is inherit parent, the one kept for its parent; a root has no parent
unfoldable pub own_or_parents : List ℕ → ℕ → ℕ → ℕ
own_or_parents t k o =
    cond (eqb (file_word t o (FILE-TYPE + k)) INHERIT-PARENT)
    (cond (is_root o) (root_value (FILE-TYPE + k)) (kept_at t k (file_word t o PARENT)))
    (file_word t o (FILE-TYPE + k))

-- ---- a file was put: its three values are kept anew; one was removed: zeros are

abbrev pub put_kept : List ℕ → ℕ → ℕ → ℕ → ℕ → List ℕ
put_kept t o rctype initial forced = put t (kept_addr o) (rctype ∷ initial ∷ forced ∷ [])

unfoldable pub settled : List ℕ → ℕ → List ℕ
settled t o = put_kept t o (own_or_parents t KEPT-TYPE o) (own_or_parents t KEPT-INITIAL o) (own_or_parents t KEPT-FORCED o)

unfoldable pub unkept : List ℕ → ℕ → List ℕ
unkept t o = put_kept t o 0 0 0

-- ---- a value of a file was set: that value is kept anew, for a DIR also below it

unfoldable pub kept_anew : List ℕ → ℕ → ℕ → List ℕ
kept_anew t k o = set t (kept_addr o + k) (own_or_parents t k o)

-- value k of the n places from `low` on, one place after the other
unfoldable pub swept : ℕ → ℕ → List ℕ → ℕ → List ℕ
swept low zero t k = t
swept low (suc n) t k = kept_anew (swept low n t k) k (low + n)

-- d sweeps over these places; whatever the order of places, each is right one level further down
unfoldable pub sweeps : ℕ → ℕ → ℕ → List ℕ → ℕ → List ℕ
sweeps zero low n t k = t
sweeps (suc d) low n t k = swept low n (sweeps d low n t k) k

-- as many as there are depths, so that all are right
abbrev pub refreshed : ℕ → ℕ → List ℕ → ℕ → List ℕ
refreshed low n t k = sweeps DEPTHS low n t k

-- value k of file o was set; all places are one range, any of which may lie below a DIR
unfoldable pub revalued : List ℕ → ℕ → ℕ → List ℕ
revalued t k o = cond (eqb (file_word t o KIND) DIR) (refreshed 0 FILES t k) (kept_anew t k o)
