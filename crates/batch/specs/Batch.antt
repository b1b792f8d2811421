-- A night's calls at once (W-205): for every row, requests and slice for answers the one answer, the one row and the one slice afterwards. The
-- items are made one by one, each on what those before it leave.
-- Assumes nothing.
use Rattle.std.specs.Prelude.{ℕ, zero, suc, ◌*◌, ◌/◌, ◌%◌, Bool, cond, ◌&&◌, List, [], ◌∷◌, eqb, leb, drop, length, take, Option}
use Rattle.model.specs.declared.Answer.{Answer}
use Rattle.model.specs.Numbers.{◌unless◌, ◌▹◌}
use Rattle.model.specs.WellFormed.{well_formed}
use Rattle.model.specs.Words.{put}
use Rattle.batch.specs.declared.items.Item.{Item}
use Rattle.batch.specs.Items.{ITEM-BYTES, item_of, made}

-- a byte for the number and a byte for the place
abbrev pub ANSWER-BYTES : ℕ
ANSWER-BYTES = 2

-- ---- the items, one by one

-- how many items the requests q are
abbrev pub items : List ℕ → ℕ
items q = length q / ITEM-BYTES

-- item k of them
abbrev pub item_at : List ℕ → ℕ → Option Item
item_at q k = item_of (take ITEM-BYTES (drop (k * ITEM-BYTES) q))

-- the row after the first k items
unfoldable pub tables_after : List ℕ → List ℕ → ℕ → List ℕ
tables_after t q zero = t
tables_after t q (suc k) = (made (tables_after t q k) (item_at q k)).after

-- what item k is answered
abbrev pub answer_to : List ℕ → List ℕ → ℕ → Answer
answer_to t q k = (made (tables_after t q k) (item_at q k)).answer

-- the slice s with the answers to the first k items
unfoldable pub answers_after : List ℕ → List ℕ → List ℕ → ℕ → List ℕ
answers_after t q s zero = s
answers_after t q s (suc k) =
    put (answers_after t q s k) (k * ANSWER-BYTES) ((answer_to t q k).number ∷ (answer_to t q k).place ∷ [])

-- ---- the batch

pub record Batch : Type 0 where
  pub answer : Answer
  pub tables : List ℕ
  pub answers : List ℕ

abbrev pub batched : Answer → List ℕ → List ℕ → Batch
batched a t s = record { answer = a; tables = t; answers = s }

-- the requests are whole items, and the slice has room for an answer to each
abbrev pub whole : List ℕ → Bool
whole q = eqb (length q % ITEM-BYTES) 0

abbrev pub roomy : List ℕ → List ℕ → Bool
roomy q s = leb (items q * ANSWER-BYTES) (length s)

-- the number of the whole batch, before any item
unfoldable pub batch_no : List ℕ → List ℕ → List ℕ → ℕ
batch_no t q s = 1 unless well_formed t ▹ 2 unless (whole q && roomy q s)

-- a refusal leaves the row and the slice as they were
unfoldable pub batch : List ℕ → List ℕ → List ℕ → Batch
batch t q s =
    cond (eqb (batch_no t q s) 0)
    (batched (record { number = 0; place = 0 }) (tables_after t q (items q)) (answers_after t q s (items q)))
    (batched (record { number = batch_no t q s; place = 0 }) t s)
