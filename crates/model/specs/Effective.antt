-- Effective values ("Effective values"; rules 5, 17, 19): climb while the value is inherit parent and there is a parent.
-- Assumes nothing.
use Rattle.std.specs.Prelude.{ℕ, zero, suc, ◌+◌, ◌%◌, cond, List, eqb}
use Rattle.model.specs.declared.Climbed.{Climbed}
use Rattle.model.specs.Numbers.{DEPTHS, INHERIT-PARENT, ROOT-TYPE, ROOT-INITIAL, ROOT-FORCED}
use Rattle.model.specs.Layout.{PARENT, DEPTH, FILE-TYPE, INITIAL}
use Rattle.model.specs.Records.{file_word}

-- the climb ends at file o, where it began, with the value v
abbrev pub ends_at : ℕ → ℕ → Climbed
ends_at o v = record { value = v; climbed = 0; place = o }

-- begun one file lower, it climbs one parent more, to the same value and the same place
abbrev pub one_up : Climbed → Climbed
one_up e = record { value = e.value; climbed = e.climbed + 1; place = e.place }

-- what file o has in the word `slot`: its own value, and where that is inherit parent, what it inherits
abbrev pub own_or : List ℕ → ℕ → ℕ → Climbed → Climbed
own_or t slot o inherited = cond (eqb (file_word t o slot) INHERIT-PARENT) inherited (ends_at o (file_word t o slot))

-- what inherit parent reads as at the root, by the word of the file that is asked for: its type, its initial or its forced value
unfoldable pub root_value : ℕ → ℕ
root_value slot = cond (eqb slot FILE-TYPE) ROOT-TYPE (cond (eqb slot INITIAL) ROOT-INITIAL ROOT-FORCED)

-- the climb from file o, which has d parents: the value, the number of parents climbed to it, and the place where the climb ended
unfoldable pub climb : ℕ → List ℕ → ℕ → ℕ → Climbed
climb zero t slot o = own_or t slot o (ends_at o (root_value slot))
climb (suc d) t slot o = own_or t slot o (one_up (climb d t slot (file_word t o PARENT)))

-- a file has as many parents as its depth says; no depth exceeds 15, and the remainder keeps the climb short on any row
unfoldable pub effective : List ℕ → ℕ → ℕ → Climbed
effective t slot o = climb (file_word t o DEPTH % DEPTHS) t slot o

-- the value alone: a file's effective type (rule 5), initial value (rule 17) or forced value (rule 19)
unfoldable pub value_at : List ℕ → ℕ → ℕ → ℕ
value_at t slot o = (effective t slot o).value
