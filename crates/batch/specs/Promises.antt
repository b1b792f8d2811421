-- What is promised of a batch, each as a sentence: a type whose name says it, proved under the same name in small letters (proofs).
-- Assumes nothing.
use Rattle.std.specs.Prelude.{ℕ, zero, suc, ◌+◌, ◌*◌, ◌<◌, ◌≤◌, true, List, [], ◌∷◌, ◌++◌, ◌↔◌, ◌≢◌, ◌≡◌, length, Option, Some, None}
use Rattle.model.specs.declared.Call.{Call}
use Rattle.model.specs.Outcome.{refusing}
use Rattle.model.specs.WellFormed.{well_formed}
use Rattle.model.specs.Words.{◌!◌, block}
use Rattle.model.specs.Runs.{Event, after, asks}
use Rattle.promises.specs.Tests.{FirstFails, Hold, Test, ◌if_not◌}
use Rattle.kinds.specs.ByKind.{step_by_kind}
use Rattle.decoding.specs.Kinds.{NUMBERS}
use Rattle.batch.specs.declared.items.Item.{Item}
use Rattle.batch.specs.Items.{CALLER-BYTE, KIND-BYTE, NUMBERS-AT, call_in, item_of, made, padded}
use Rattle.batch.specs.Batch.{ANSWER-BYTES, answer_to, batch, batched, item_at, items, roomy, tables_after, whole}

-- ---- granted and refused exactly when

-- the tests of the whole batch, in the order of their numbers
abbrev pub batch_tests : List ℕ → List ℕ → List ℕ → List Test
batch_tests t q s = 1 if_not well_formed t ∷ 2 if_not whole q ∷ 2 if_not roomy q s ∷ []

-- A batch is granted exactly when all its tests hold.
abbrev pub A-batch-is-granted-exactly-when-its-tests-hold : Type 0
A-batch-is-granted-exactly-when-its-tests-hold =
    (t q s : List ℕ) → ((batch t q s).answer.number ≡ 0) ↔ Hold (batch_tests t q s)

-- It is refused with a number exactly when that is the number of the first test that fails, and then no item is made and nothing is written.
abbrev pub A-batch-is-refused-by-the-first-test-that-fails : Type 0
A-batch-is-refused-by-the-first-test-that-fails =
    (t q s : List ℕ) (n : ℕ)
    → n ≢ 0
    → (batch t q s ≡ batched (record { number = n; place = 0 }) t s) ↔ FirstFails (batch_tests t q s) n

-- No items is a grant with nothing written.
abbrev pub No-items-is-a-grant-with-nothing-written : Type 0
No-items-is-a-grant-with-nothing-written =
    (t s : List ℕ) → well_formed t ≡ true → batch t [] s ≡ batched (record { number = 0; place = 0 }) t s

-- ---- one by one

-- An item comes to what its kind, caller and numbers come to through the entry by kind, and bytes that are 0 past the numbers are an item.
abbrev pub An-item-is-its-call-by-kind : Type 0
An-item-is-its-call-by-kind =
    (t : List ℕ)
    → ((i : Item) → made t (Some i) ≡ step_by_kind t i.kind i.caller i.numbers)
    × ((b : List ℕ)
    → padded b ≡ true
    → made t (item_of b) ≡ step_by_kind t (b ! KIND-BYTE) (b ! CALLER-BYTE) (block b NUMBERS-AT NUMBERS))

-- One that says no call, by its kind, its numbers or what stands past them, is 2 for itself and changes nothing.
abbrev pub An-item-that-is-no-call-is-2 : Type 0
An-item-that-is-no-call-is-2 = (t : List ℕ) (i : Option Item) → well_formed t ≡ true → call_in i ≡ None → made t i ≡ refusing 2 t

-- In a granted batch each item's answer stands in its two bytes, the number and then the place, as the item is answered on the tables that those
-- before it leave; and the tables afterwards are those after all items.
abbrev pub A-granted-batch-is-its-items-one-by-one : Type 0
A-granted-batch-is-its-items-one-by-one =
    (t q s : List ℕ)
    → (batch t q s).answer.number ≡ 0
    → ((batch t q s).tables ≡ tables_after t q (items q))
    × ((k : ℕ)
    → k < items q
    → ((batch t q s).answers ! (k * ANSWER-BYTES) ≡ (answer_to t q k).number)
    × ((batch t q s).answers ! (k * ANSWER-BYTES + 1) ≡ (answer_to t q k).place))

-- The rest of the slice stays, and so does its length.
abbrev pub The-rest-of-the-answers-stays : Type 0
The-rest-of-the-answers-stays =
    (t q s : List ℕ)
    → (length (batch t q s).answers ≡ length s)
    × ((i : ℕ) → items q * ANSWER-BYTES ≤ i → (batch t q s).answers ! i ≡ s ! i)

-- A refused item leaves the tables to the next as they were.
abbrev pub A-refused-item-changes-nothing : Type 0
A-refused-item-changes-nothing =
    (t q : List ℕ) (k : ℕ)
    → (answer_to t q k).number ≢ 0
    → (tables_after t q (suc k) ≡ tables_after t q k) × ((answer_to t q k).place ≡ 0)

-- Every item's answer fits its two bytes.
abbrev pub Every-items-answer-fits-its-bytes : Type 0
Every-items-answer-fits-its-bytes = (t q : List ℕ) (k : ℕ) → ((answer_to t q k).number < 256) × ((answer_to t q k).place < 256)

-- ---- a batch is a run

-- what is no call asks nothing
abbrev pub said_by : ℕ → Option Call → List Event
said_by caller None = []
said_by caller (Some call) = asks caller call ∷ []

abbrev pub asked_by : Option Item → List Event
asked_by None = []
asked_by (Some i) = said_by i.caller (call_in (Some i))

-- what the first k items ask, in their order
unfoldable pub asked : List ℕ → ℕ → List Event
asked q zero = []
asked q (suc k) = asked q k ++ asked_by (item_at q k)

-- The tables after a granted batch are those after the run of its calls, so that what is promised of runs holds of batches, demand 3 too.
abbrev pub A-granted-batch-is-a-run : Type 0
A-granted-batch-is-a-run =
    (t q s : List ℕ) → (batch t q s).answer.number ≡ 0 → (batch t q s).tables ≡ after t (asked q (items q))

-- A batch leaves well-formed tables well formed.
abbrev pub A-batch-keeps-the-tables-well-formed : Type 0
A-batch-keeps-the-tables-well-formed = (t q s : List ℕ) → well_formed t ≡ true → well_formed (batch t q s).tables ≡ true
