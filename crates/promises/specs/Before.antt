-- The two calls that set one value of a file each, the initial one (rule 27) or the forced one (rule 28), as they were until W-207 made one call of
-- both. They are kept for the promises that compare this call with those two, and for nothing else: the monitor knows them no more.
-- Assumes nothing.
use Rattle.std.specs.Prelude.{ℕ, ◌+◌, Bool, ◌&&◌, List, ltb, set}
use Rattle.model.specs.Numbers.{FILES, FILESYSTEM, MODIFY-ATTRIBUTE, PROCESS, PROCESSES, ◌unless◌, ◌▹◌}
use Rattle.model.specs.Layout.{FORCED, INITIAL, KEPT-FORCED, KEPT-INITIAL, file_addr}
use Rattle.model.specs.Ranges.{ok_forced, ok_initial}
use Rattle.model.specs.Records.{occupied}
use Rattle.model.specs.WellFormed.{well_formed}
use Rattle.model.specs.KeptValues.{revalued, type_of}
use Rattle.model.specs.Outcome.{Outcome, decide}
use Rattle.model.specs.Calls.{may}
use Rattle.model.specs.Administration.{may_assign, passes}

-- the number of either; `ok` is whether the value is in its range
abbrev pub value_no : List ℕ → ℕ → ℕ → Bool → ℕ → ℕ
value_no t c f ok v =
    1 unless well_formed t
    ▹ 2 unless (ltb c PROCESSES && (ltb f FILES && ok))
    ▹ 3 unless occupied t PROCESS c
    ▹ 4 unless occupied t FILESYSTEM f
    ▹ 5 unless passes t c (may_assign t c v && may t c FILESYSTEM (type_of t FILESYSTEM f) MODIFY-ATTRIBUTE)

abbrev pub set_initial : List ℕ → ℕ → ℕ → ℕ → Outcome
set_initial t c f v = decide t (value_no t c f (ok_initial v) v) 0 (revalued (set t (file_addr f + INITIAL) v) KEPT-INITIAL f)

abbrev pub set_forced : List ℕ → ℕ → ℕ → ℕ → Outcome
set_forced t c f v = decide t (value_no t c f (ok_forced v) v) 0 (revalued (set t (file_addr f + FORCED) v) KEPT-FORCED f)
