-- What a creation does to effective values: a new file has the role's default type or inherits its parent's value.
-- Assumes nothing.
use Prim.Native.Nat.{ℕ, ◌+◌, ◌<◌}
use mathlib.Core.Path.{◌≡◌, ◌∙◌}
use mathlib.Core.List.{List}
use mathlib.Core.Logic.{◌≢◌, ◌⊎◌}
use native.Mathlib.Omega.{arith}
use Rattle.model.specs.declared.File.{File}
use Rattle.model.specs.Numbers.{FILESYSTEM, FILES, DIR, FILE, ROOT}
use Rattle.model.specs.Layout.{DEPTH, FILE-TYPE, FILE-WORDS}
use Rattle.model.specs.Words.{◌!◌}
use Rattle.model.specs.Records.{kind_of, file_words, file_word, put_file, free_place}
use Rattle.model.specs.Effective.{value_at}
use Rattle.model.specs.Transitions.{default_or, created}
use Rattle.model.specs.Calls.{own_role, create_no, create_row}
use Rattle.model.proofs.Granted.{create-granted, Caller}
use Rattle.model.proofs.Records.{files-stay, free-place}
use Rattle.model.proofs.Formed.{WellFormed, free-barren, Barren}
use Rattle.model.proofs.Effective.{value_same, effective-put-same}
use Rattle.model.proofs.KeptValues.{settled-written}
use Rattle.model.proofs.Kept.{created-formed, kind-made}

module _ (t : List ℕ) (w : WellFormed t) (c : ℕ) where
  module _ (me : Caller t c) (kind y : ℕ) (k : (kind ≡ FILE) ⊎ (kind ≡ DIR)) (l : y < FILES) (e : create_no t c y ≡ 0) where
    abbrev o : ℕ
    o = free_place t FILESYSTEM

    abbrev new : File
    new = created (own_role t c) (kind_of kind) y (file_word t y DEPTH + 1)

    room : o < FILES
    room = ((create-granted t c y).0 e).room

    barren : (o ≢ ROOT) × Barren t o
    barren = free-barren t w.formed o (free-place t FILESYSTEM room)

    pub created-value : (s : ℕ) → s < FILE-WORDS
        → value_at (create_row t c kind y) s o ≡ default_or (file_words new ! s) (value_at t s y)
    unfolding create_row created
    created-value s sl =
        let put = created-formed t w c me kind y k l e in
        value_same (put_file t o new) _ put (files-stay (settled-written (put_file t o new) o) (omega arith)) s sl o room
        ∙ effective-put-same t o new w.formed put barren.1 room barren.0 (kind-made kind k) s sl

    -- rule 6
    pub created-type : value_at (create_row t c kind y) FILE-TYPE o ≡ default_or (own_role t c).filecreate (value_at t FILE-TYPE y)
    unfolding created
    created-type = created-value FILE-TYPE (omega arith)
