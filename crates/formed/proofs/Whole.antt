-- Of a row that has its full length the part of that length is all of it, and a well-formed row has that length.
-- Assumes nothing.
use Prim.Native.Nat.{ℕ, ◌≤◌}
use mathlib.Core.Bool.{true}
use mathlib.Core.List.{List, ◌++◌, append-nil}
use mathlib.Core.Path.{◌≡◌, sym}
use native.Mathlib.Omega.{arith}
use lib.ListN.{length, take, drop, drop_of_length-le}
use lib.Seq.{take_all, length-take-le}
use Rattle.model.specs.Layout.{row_length}
use Rattle.model.specs.WellFormed.{well_formed}
use Rattle.model.proofs.Formed.{facts}

module _ (t : List ℕ) (sized : length t ≡ row_length) where
  pub full-fits : row_length ≤ length t
  full-fits = omega (arith, sized)

  pub full-length : row_length ≡ length (take row_length t)
  full-length = sym (length-take-le row_length t full-fits)

  pub full-take : take row_length t ≡ t
  full-take = take_all row_length t (omega (arith, sized))

  -- what is written back stands for the whole
  pub full-drop : (l : List ℕ) → l ++ drop row_length t ≡ l
  full-drop l = rw (drop_of_length-le t {i = row_length} (omega (arith, sized))) (append-nil l)

module _ (t : List ℕ) (e : well_formed t ≡ true) where
  pub whole-fits : row_length ≤ length t
  whole-fits = full-fits t (facts t e).formed.sized

  pub whole_length : row_length ≡ length (take row_length t)
  whole_length = full-length t (facts t e).formed.sized

  pub whole_take : take row_length t ≡ t
  whole_take = full-take t (facts t e).formed.sized

  pub whole_drop : (l : List ℕ) → l ++ drop row_length t ≡ l
  whole_drop = full-drop t (facts t e).formed.sized
