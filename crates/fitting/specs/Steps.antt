-- Not to be believed: how the walk over the files tests each of them together with what is kept for it, by one step of the climb. That this is
-- the test of the climb is a law of the model (`one-step-each`); proofs/Files.antt shows that the parts come to the two tests.
-- Assumes nothing.
use Rattle.std.specs.Prelude.{ℕ, Bool, cond, ◌&&◌, List, eqb}
use Rattle.sets.specs.Below.{all_below}
use Rattle.model.specs.Numbers.{INHERIT-PARENT}
use Rattle.model.specs.Layout.{PARENT, DEPTH, FILE-TYPE, INITIAL, FORCED, KEPT-TYPE, KEPT-INITIAL, KEPT-FORCED, KEPT-WORDS}
use Rattle.model.specs.Ranges.{ok_type, ok_initial, ok_forced}
use Rattle.model.specs.Records.{file_word, kept_at}
use Rattle.model.specs.KeptValues.{own_or_parents}

-- what is kept for file place o is what one step of the climb gives
unfoldable pub step_ok : List ℕ → ℕ → Bool
step_ok t o = all_below KEPT-WORDS (λ k. eqb (kept_at t k o) (own_or_parents t k o))

-- one value: it is inherit parent, and the one above is kept, or it is in its range, and is kept itself
unfoldable pub value_ok : Bool → ℕ → ℕ → ℕ → Bool
value_ok ranged own kept above = cond (eqb own INHERIT-PARENT) (eqb kept above) (ranged && eqb kept own)

-- the three values of file o, where those above it are known
unfoldable pub values_ok : List ℕ → ℕ → ℕ → ℕ → ℕ → Bool
values_ok t o rctype initial forced =
    value_ok (ok_type (file_word t o FILE-TYPE)) (file_word t o FILE-TYPE) (kept_at t KEPT-TYPE o) rctype
    && value_ok (ok_initial (file_word t o INITIAL)) (file_word t o INITIAL) (kept_at t KEPT-INITIAL o) initial
    && value_ok (ok_forced (file_word t o FORCED)) (file_word t o FORCED) (kept_at t KEPT-FORCED o) forced

-- a free place: zeros, and zeros are kept for it
unfoldable pub free_ok : List ℕ → ℕ → Bool
free_ok t o =
    eqb (file_word t o PARENT) 0
    && eqb (file_word t o DEPTH) 0
    && eqb (file_word t o FILE-TYPE) 0
    && eqb (file_word t o INITIAL) 0
    && eqb (file_word t o FORCED) 0
    && eqb (kept_at t KEPT-TYPE o) 0
    && eqb (kept_at t KEPT-INITIAL o) 0
    && eqb (kept_at t KEPT-FORCED o) 0
