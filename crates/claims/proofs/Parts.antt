-- The parts that the checker tests make up the rules again: what all roles create, and what S reaches, is one set for all files; a set that was
-- found closed is closed at the next place too, and values that were found last add nothing.
-- Assumes nothing.
use Rattle.std.proofs.Common.{◌≡◌, ℕ, ◌+◌, ◌<◌, Bool, true, false, refl, not, ◌&&◌, ◌||◌, List, eqb, length, take, sym, arith}
use lib.Seq.{take_all}
use Rattle.sets.specs.Below.{all_below, some_below}
use Rattle.sets.specs.Sets.{has, inside}
use Rattle.sets.proofs.Below.{right, all_of, all-miss, all-next, some_next}
use Rattle.sets.proofs.Sets.{empty-has}
use Rattle.sets.proofs.Walks.{all_start, all_step}
use Rattle.model.specs.Numbers.{FILES, DIR}
use Rattle.model.specs.Words.{◌!◌}
use Rattle.model.specs.Records.{file_word, kept_at}
use Rattle.model.specs.Claims.{T, startable, holds, starts, broken, claim_no}
use Rattle.model.specs.Layout.{KIND, KEPT-FORCED, row_length, claim_length}
use Rattle.model.proofs.Records.{file-occupied}
use Rattle.model.proofs.Decided.{tested}
use Rattle.model.proofs.Formed.{facts}
use Rattle.claimsets.specs.Family.{EVERY-ROLE, born, row_of, closed}
use Rattle.claims.specs.Parts.{last_closed, known_below, plain_below, carried_below}
use Rattle.claimsets.proofs.Family.{reach-meets, births-closed}

-- no number below 0 passes
pub some_start : (p : ℕ → Bool) → some_below 0 p ≡ false
unfolding some_below
some_start p = refl

-- an empty set is closed
pub none_closed : (row : List ℕ) → closed row 0 ≡ true
unfolding closed
none_closed row = all_of (λ k. not (has 0 k) || inside (row ! k) 0) 32 (λ k l. rw empty-has)

-- what is not refused has both its lengths, and is handed on whole
pub claim_lengths : (t w : List ℕ) → 0 ≡ claim_no t w → (length t ≡ row_length) × (length w ≡ claim_length)
unfolding claim_no
claim_lengths t w e = let h = simp tested at (sym e) in ((facts t h.0.0).formed.sized, h.0.1)

pub broken_whole : (t w : List ℕ) → 0 ≡ claim_no t w → broken (take row_length t) (take claim_length w) ≡ broken t w
broken_whole t w e = let l = claim_lengths t w e in rw (take_all row_length t (omega arith), take_all claim_length w (omega arith))

module _ (t w : List ℕ) (o : ℕ) where
  pub one_missed : o < FILES → holds t w o ≡ false → all_below FILES (holds t w) ≡ false
  one_missed l e = all-miss (holds t w) FILES o l e

  -- a DIR that holds what C6 asks has a closed set
  pub dir_closed : (row : List ℕ) → row ≡ row_of (born t EVERY-ROLE) → holds t w o ≡ true → file_word t o KIND ≡ DIR → closed row (T w o) ≡ true
  unfolding holds
  dir_closed row r h d = rw (r, ← births-closed t w o) (right _ _ (rw (file-occupied, d) at h))

  pub known_next : (row : List ℕ) → known_below row t w (o + 1) ≡ last_closed row (known_below row t w o) (file_word t o KIND) (T w o)
  unfolding known_below
  known_next row = grind arith

  pub plain_next : plain_below t w (o + 1) ≡ (plain_below t w o && starts t w o)
  unfolding plain_below
  plain_next = grind (arith, all-next)

  pub carried_next : (v : ℕ) → carried_below t w v (o + 1) ≡ (carried_below t w v o || (startable t w o && eqb (kept_at t KEPT-FORCED o) v))
  unfolding carried_below
  carried_next v = grind (arith, some_next)

pub ruleset walks = (none_closed, all_start, all_step, some_start, dir_closed, one_missed, known_next)

pub ruleset places = (file-occupied, births-closed)

pub ruleset objects = (reach-meets, plain_next, carried_next)

pub ruleset whole = (claim_lengths, broken_whole)
