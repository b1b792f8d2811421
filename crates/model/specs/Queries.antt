-- The queries ("Effective values", W-201): the effective value of a file's type, initial or forced word, the parents climbed to it and the place
-- where the climb ended; and its kind (W-202). They need no caller and no right, and refuse only with 1, 2 or 4.
-- Assumes nothing.
use Rattle.std.specs.Prelude.{ℕ, zero, suc, cond, List, eqb, ltb}
use Rattle.model.specs.declared.Climbed.{Climbed}
use Rattle.model.specs.declared.Found.{Found}
use Rattle.model.specs.Numbers.{◌unless◌, ◌▹◌, FILESYSTEM, FILES}
use Rattle.model.specs.Layout.{KIND, FILE-TYPE, INITIAL, FORCED, KEPT-TYPE}
use Rattle.model.specs.Records.{file_word, kept_at, occupied}
use Rattle.model.specs.WellFormed.{well_formed}
use Rattle.model.specs.Effective.{effective}

-- the number of a query on tables that are known to be well formed
abbrev pub look_no : List ℕ → ℕ → ℕ
look_no t o = 2 unless ltb o FILES ▹ 4 unless occupied t FILESYSTEM o

unfoldable pub query_no : List ℕ → ℕ → ℕ
query_no t o = 1 unless well_formed t ▹ look_no t o

-- a refusal answers its number and zeros
abbrev pub found_by : ℕ → Climbed → Found
found_by zero e = record { number = 0; value = e.value; climbed = e.climbed; place = e.place }
found_by (suc n) e = record { number = suc n; value = 0; climbed = 0; place = 0 }

-- what a query answers on tables that are known to be well formed, where v is the value there: 0 with a refusal
unfoldable pub look : List ℕ → ℕ → ℕ → ℕ
look t o v = cond (eqb (look_no t o) 0) v 0

-- a query of any row: tables that are not well formed are number 1
unfoldable pub query : List ℕ → ℕ → ℕ → Found
query t slot o = found_by (query_no t o) (effective t slot o)

-- the three: rules 5, 17 and 19
abbrev pub query_type : List ℕ → ℕ → Found
query_type t o = query t FILE-TYPE o

abbrev pub query_initial : List ℕ → ℕ → Found
query_initial t o = query t INITIAL o

abbrev pub query_forced : List ℕ → ℕ → Found
query_forced t o = query t FORCED o

-- FILE or DIR: a word of the file as the others are, and never inherit parent, so that nothing is climbed
abbrev pub query_kind : List ℕ → ℕ → Found
query_kind t o = query t KIND o

-- of two of them the value, on tables that are known to be well formed: nothing is climbed
abbrev pub look_type : List ℕ → ℕ → ℕ
look_type t o = look t o (kept_at t KEPT-TYPE o)

abbrev pub look_kind : List ℕ → ℕ → ℕ
look_kind t o = look t o (file_word t o KIND)
