-- An item of a batch (W-205): sixteen bytes, a kind, the caller, the call's numbers one byte each, then zeros.
-- Assumes nothing.
use Rattle.std.specs.Prelude.{ℕ, ◌+◌, Bool, cond, ◌||◌, List, eqb, ltb, Option, Some, None}
use Rattle.sets.specs.Below.{all_below}
use Rattle.model.specs.declared.Call.{Call}
use Rattle.model.specs.Outcome.{Outcome, refusing}
use Rattle.model.specs.Words.{◌!◌, block}
use Rattle.decoding.specs.Kinds.{NUMBERS, decode_of}
use Rattle.kinds.specs.ByKind.{act_by_kind, written}
use Rattle.batch.specs.declared.items.Item.{Item}

abbrev pub ITEM-BYTES : ℕ
ITEM-BYTES = 16

-- ---- the bytes of an item

abbrev pub KIND-BYTE : ℕ
KIND-BYTE = 0

abbrev pub CALLER-BYTE : ℕ
CALLER-BYTE = 1

abbrev pub NUMBERS-AT : ℕ
NUMBERS-AT = 2

-- past the numbers: no call has any that stand here
abbrev pub FILLER-AT : ℕ
FILLER-AT = NUMBERS-AT + NUMBERS

-- every byte from FILLER-AT on is 0
unfoldable pub padded : List ℕ → Bool
padded b = all_below ITEM-BYTES (λ i. ltb i FILLER-AT || eqb (b ! i) 0)

-- the item that these bytes are, if they are one
unfoldable pub item_of : List ℕ → Option Item
item_of b = cond (padded b) (Some (record { kind = b ! KIND-BYTE; caller = b ! CALLER-BYTE; numbers = block b NUMBERS-AT NUMBERS })) None

-- ---- what an item comes to

-- the call that it says, where all that it does not take is 0
unfoldable pub call_in : Option Item → Option Call
call_in None = None
call_in (Some i) = decode_of i.kind i.numbers

-- the item made on the row t, through the one entry, as any call that is written by kind and numbers: what is no call is 2
unfoldable pub made : List ℕ → Option Item → Outcome
made t None = written t 0 (call_in None)
made t (Some i) = written t i.caller (call_in (Some i))

-- the same on tables that are known to be well formed
abbrev pub acted : List ℕ → Option Item → Outcome
acted t None = refusing 2 t
acted t (Some i) = act_by_kind t i.kind i.caller i.numbers
