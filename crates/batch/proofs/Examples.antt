-- A night on fresh tables, computed from the definition. As runs are (marked/proofs/Computing), it is first rewritten to calls without the test of
-- the tables, which stay well formed.
-- Assumes nothing.
use Prim.Native.Nat.{ℕ, zero, suc, ◌*◌}
use mathlib.Core.Bool.{true}
use mathlib.Core.List.{List, [], ◌∷◌, ◌++◌}
use mathlib.Core.Path.{◌∙◌, ◌≡◌, ap, refl, sym}
use lib.ListN.{replicate, take}
use Rattle.sets.specs.Below.{all_below}
use Rattle.model.specs.Numbers.{FILESYSTEM, PROCESS, READ, WRITE, CLONE}
use Rattle.model.specs.Outcome.{Outcome, refusing}
use Rattle.model.specs.Fresh.{fresh}
use Rattle.model.specs.WellFormed.{well_formed}
use Rattle.model.specs.Words.{block, put}
use Rattle.model.proofs.FreshFormed.{fresh-formed}
use Rattle.marked.proofs.Computing.{acting, step-acting}
use Rattle.std.specs.Prelude.{Option, Some, None}
use Rattle.model.specs.declared.Call.{Call}
use Rattle.decoding.specs.Kinds.{CALL-ACCESS, CALL-ADD-RIGHT, CALL-CLONE, CALL-EXIT, takes, decode_of}
use Rattle.kinds.specs.ByKind.{written}
use Rattle.kinds.proofs.ByKind.{done-written}
use Rattle.batch.specs.declared.items.Item.{Item}
use Rattle.batch.specs.Items.{ITEM-BYTES, call_in, item_of, made, padded}
use Rattle.batch.specs.Batch.{ANSWER-BYTES, answers_after, batch, batch_no, item_at, items, tables_after}
use Rattle.batch.proofs.Laws.{batch-granted, tables-kept}

-- ---- what is computed

abbrev acts : List ℕ → ℕ → Option Call → Outcome
acts t caller None = refusing 2 t
acts t caller (Some call) = acting t caller call

-- an item on tables that are well formed; its line names all that an item is made of
unfoldable makes : List ℕ → Option Item → Outcome
unfolding acting call_in decode_of takes all_below
makes t None = refusing 2 t
makes t (Some i) = acts t i.caller (call_in (Some i))

-- the tables and the slice after k items
abbrev Both : Type 0
Both = List ℕ × List ℕ

abbrev one_more : ℕ → List ℕ → Outcome → Both
one_more k s one = (one.after, put s (k * ANSWER-BYTES) (one.answer.number ∷ one.answer.place ∷ []))

unfoldable ran : List ℕ → List ℕ → List ℕ → ℕ → Both
unfolding makes item_of padded block put
ran t q s zero = (t, s)
ran t q s (suc k) = one_more k (ran t q s k).1 (makes (ran t q s k).0 (item_at q k))

-- ---- that it is what the definition says

acts-written : (t : List ℕ) (caller : ℕ) (what : Option Call) → well_formed t ≡ true → acts t caller what ≡ written t caller what
acts-written t caller None w = done-written t caller None w
acts-written t caller (Some call) w = sym (step-acting t caller call w)

made-makes : (t : List ℕ) (i : Option Item) → well_formed t ≡ true → made t i ≡ makes t i
unfolding made call_in makes
made-makes t None w = sym (done-written t 0 None w)
made-makes t (Some i) w = sym (acts-written t i.caller (call_in (Some i)) w)

after-ran : (t q s : List ℕ) (k : ℕ) → well_formed t ≡ true → (tables_after t q k, answers_after t q s k) ≡ ran t q s k
unfolding tables_after answers_after ran
after-ran t q s zero w = refl
after-ran t q s (suc k) w =
    ap (λ (one : Outcome). one_more k (answers_after t q s k) one) (made-makes (tables_after t q k) (item_at q k) (tables-kept t q k w))
    ∙ ap (λ (b : Both). one_more k b.1 (makes b.0 (item_at q k))) (after-ran t q s k w)

-- ---- a night

-- an item with its numbers, and zeros behind them
abbrev sent : List ℕ → List ℕ
sent b = take ITEM-BYTES (b ++ replicate ITEM-BYTES 0)

-- process 0 reads the root, and gives two rights; clones, the clone exits, and its place is taken again; a kind that is unknown since W-207, a clone with
-- a byte too many, a dead caller, a caller that is no process, and an exit of process 0
pub night : List ℕ
night =
    sent (CALL-ACCESS ∷ 0 ∷ FILESYSTEM ∷ 0 ∷ READ ∷ [])
    ++ sent (CALL-ADD-RIGHT ∷ 0 ∷ FILESYSTEM ∷ 1 ∷ 2 ∷ WRITE ∷ [])
    ++ sent (CALL-ADD-RIGHT ∷ 0 ∷ PROCESS ∷ 0 ∷ 0 ∷ CLONE ∷ [])
    ++ sent (CALL-CLONE ∷ 0 ∷ [])
    ++ sent (CALL-EXIT ∷ 1 ∷ [])
    ++ sent (CALL-CLONE ∷ 0 ∷ [])
    ++ sent (14 ∷ 0 ∷ 0 ∷ 7 ∷ [])
    ++ sent (CALL-CLONE ∷ 0 ∷ replicate 13 0 ++ 1 ∷ [])
    ++ sent (CALL-CLONE ∷ 2 ∷ [])
    ++ sent (CALL-CLONE ∷ 64 ∷ [])
    ++ sent (CALL-EXIT ∷ 0 ∷ [])

-- room for the eleven answers, and a byte more, which stays
pub slots : List ℕ
slots = replicate 23 255

pub a-night : ((batch fresh night slots).answer.number ≡ 0)
    × ((batch fresh night slots).answers
    ≡ 5 ∷ 0 ∷ 0 ∷ 0 ∷ 0 ∷ 0 ∷ 0 ∷ 1 ∷ 0 ∷ 0 ∷ 0 ∷ 1 ∷ 2 ∷ 0 ∷ 2 ∷ 0 ∷ 3 ∷ 0 ∷ 2 ∷ 0 ∷ 6 ∷ 0 ∷ 255 ∷ [])
unfolding batch_no
a-night =
    let granted : batch_no fresh night slots ≡ 0 = rw fresh-formed (unfold night slots in refl) in
    rw (batch-granted fresh night slots granted)
    (refl, ap (λ (b : Both). b.1) (after-ran fresh night slots (items night) fresh-formed) ∙ (unfold ran fresh night slots in refl))
