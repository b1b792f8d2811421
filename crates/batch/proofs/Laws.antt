-- One item: on well-formed tables it comes to the same without their test, it keeps them well formed, and its answer fits two bytes. So what the
-- loop has in hand after k items it has after k + 1.
-- Assumes nothing.
use Prim.Native.Nat.{ℕ, zero, suc, ◌+◌, ◌*◌, ◌<◌, ◌≤◌, ◌%◌}
use mathlib.Core.Bool.{cond, true}
use mathlib.Core.List.{List, [], ◌∷◌}
use mathlib.Core.Logic.{◌≢◌}
use mathlib.Core.Path.{◌∙◌, ◌≡◌, ap, refl, sym}
use native.Mathlib.Numerals.{add-one}
use native.Mathlib.Omega.{arith}
use borrow.Author.Tests.{ne_eqb}
use lib.Dec.{eqb}
use lib.ListN.{length}
use Rattle.sets.proofs.Below.{by_bool}
use Rattle.model.specs.declared.Answer.{Answer}
use Rattle.model.specs.Outcome.{Outcome, outcome}
use Rattle.model.specs.WellFormed.{well_formed}
use Rattle.model.specs.Words.{put}
use Rattle.model.proofs.Decided.{decided, eqb-iff, neb-iff, tested}
use Rattle.model.proofs.Kept.{step_kept}
use Rattle.promises.proofs.Changes.{every-answer-fits-two-bytes}
use Rattle.std.specs.Prelude.{Option, Some, None}
use Rattle.model.specs.declared.Call.{Call}
use Rattle.formed.proofs.Whole.{whole_drop, whole-fits, whole_length, whole_take}
use Rattle.kinds.specs.ByKind.{step_by_kind, written}
use Rattle.kinds.proofs.ByKind.{done-written, on-well-formed-tables-act-by-kind-is-step-by-kind, written-ill}
use Rattle.batch.specs.declared.items.Item.{Item}
use Rattle.batch.specs.Items.{acted, call_in, made}
use Rattle.batch.specs.Batch.{ANSWER-BYTES, Batch, answer_to, answers_after, batch, batch_no, batched, item_at, items, tables_after}

-- ---- what was written

module _ (t : List ℕ) (caller : ℕ) where
  written-kept : (what : Option Call) → well_formed t ≡ true → well_formed (written t caller what).after ≡ true
  written-kept None w = decided t _ 0 t (λ u. well_formed u ≡ true) w (λ z. w)
  written-kept (Some call) w = step_kept t caller call w

  abbrev Fits : Answer → Type 0
  Fits a = (a.number < 256) × (a.place < 256)

  written-fits : (what : Option Call) → Fits (written t caller what).answer
  written-fits None =
      by_bool (λ b. Fits (written t caller None).answer) (well_formed t)
      (λ w. rw (sym (done-written t caller None w)) (omega arith, omega arith))
      (λ w. rw (written-ill t caller None w) (omega arith, omega arith))
  written-fits (Some call) = every-answer-fits-two-bytes t caller call

-- ---- an item

module _ (t : List ℕ) where
  pub acted-made : (i : Option Item) → well_formed t ≡ true → acted t i ≡ made t i
  unfolding made call_in step_by_kind
  acted-made None w = done-written t 0 None w
  acted-made (Some i) w = on-well-formed-tables-act-by-kind-is-step-by-kind t i.kind i.caller i.numbers w

  pub made_kept : (i : Option Item) → well_formed t ≡ true → well_formed (made t i).after ≡ true
  unfolding made
  made_kept None w = written-kept t 0 (call_in None) w
  made_kept (Some i) w = written-kept t i.caller (call_in (Some i)) w

  pub made-fits : (i : Option Item) → ((made t i).answer.number < 256) × ((made t i).answer.place < 256)
  unfolding made
  made-fits None = written-fits t 0 (call_in None)
  made-fits (Some i) = written-fits t i.caller (call_in (Some i))

-- ---- one item more

module _ (t q : List ℕ) where
  pub tables-next : (k : ℕ) → tables_after t q (k + 1) ≡ (made (tables_after t q k) (item_at q k)).after
  unfolding tables_after
  tables-next k = rw add-one

  pub answers_next : (s : List ℕ) (k : ℕ) → answers_after t q s (k + 1)
      ≡ put (answers_after t q s k) (k * ANSWER-BYTES) ((answer_to t q k).number ∷ (answer_to t q k).place ∷ [])
  unfolding answers_after
  answers_next s k = rw add-one

  pub tables-kept : (k : ℕ) → well_formed t ≡ true → well_formed (tables_after t q k) ≡ true
  unfolding tables_after
  tables-kept zero w = w
  tables-kept (suc k) w = made_kept (tables_after t q k) (item_at q k) (tables-kept k w)

-- as the loop has it in hand: the item was answered v and left the row u, and v was put into the slice
module _ (t q : List ℕ) (k : ℕ) (now : List ℕ) (i : Option Item) (v : Answer) (u : List ℕ) where
  answered : well_formed t ≡ true → now ≡ tables_after t q k → i ≡ item_at q k → outcome v u ≡ acted now i
      → outcome v u ≡ made (tables_after t q k) (item_at q k)
  answered w en ei ev = (rw (ei, en) at ev) ∙ acted-made (tables_after t q k) (item_at q k) (tables-kept t q k w)

  pub row_more : well_formed t ≡ true → now ≡ tables_after t q k → i ≡ item_at q k → outcome v u ≡ acted now i
      → u ≡ tables_after t q (k + 1)
  row_more w en ei ev = ap (λ (o : Outcome). o.after) (answered w en ei ev) ∙ sym (tables-next t q k)

  pub slice_more : (s r x : List ℕ) → well_formed t ≡ true → now ≡ tables_after t q k → i ≡ item_at q k → outcome v u ≡ acted now i
      → x ≡ answers_after t q s k
      → r ≡ put x (k * ANSWER-BYTES) (v.number % 256 ∷ v.place % 256 ∷ [])
      → r ≡ answers_after t q s (k + 1)
  slice_more s r x w en ei ev ex er =
      let a : v ≡ answer_to t q k = ap (λ (o : Outcome). o.answer) (answered w en ei ev) in
      let fits = made-fits (tables_after t q k) (item_at q k) in
      let n : (answer_to t q k).number % 256 ≡ (answer_to t q k).number = omega (arith, fits.0) in
      let p : (answer_to t q k).place % 256 ≡ (answer_to t q k).place = omega (arith, fits.1) in
      er ∙ rw (ex, a, n, p, answers_next t q s k)

-- ---- the whole batch

module _ (t q s : List ℕ) where
  -- what holds where it is refused, and where it is granted, holds of it
  pub either_way : (P : Batch → Type 0)
      → (batch_no t q s ≢ 0 → P (batched (record { number = batch_no t q s; place = 0 }) t s))
      → (batch_no t q s ≡ 0 → P (batched (record { number = 0; place = 0 }) (tables_after t q (items q)) (answers_after t q s (items q))))
      → P (batch t q s)
  unfolding batch
  either_way P refused granted =
      by_bool
      (λ b. P (cond b
      (batched (record { number = 0; place = 0 }) (tables_after t q (items q)) (answers_after t q s (items q)))
      (batched (record { number = batch_no t q s; place = 0 }) t s)))
      (eqb (batch_no t q s) 0)
      (λ e. granted ((eqb-iff _ 0).0 e))
      (λ e. refused ((neb-iff _ 0).0 e))

  pub batch-refused : (n : ℕ) → n ≡ batch_no t q s → n ≢ 0 → batch t q s ≡ batched (record { number = n; place = 0 }) t s
  unfolding batch
  batch-refused n e h = rw (← e, ne_eqb n 0 h)

  pub batch-granted : batch_no t q s ≡ 0
      → batch t q s ≡ batched (record { number = 0; place = 0 }) (tables_after t q (items q)) (answers_after t q s (items q))
  unfolding batch
  batch-granted e = rw e

  pub batch-number : (batch t q s).answer.number ≡ batch_no t q s
  batch-number = either_way (λ b. b.answer.number ≡ batch_no t q s) (λ h. refl) (λ e. sym e)

  pub batch-formed : batch_no t q s ≡ 0 → well_formed t ≡ true
  unfolding batch_no
  batch-formed e = (simp tested at e).0

  pub batch-roomy : batch_no t q s ≡ 0 → items q * ANSWER-BYTES ≤ length s
  unfolding batch_no
  batch-roomy e = (simp tested at e).1.1

-- a granted batch is lent well-formed tables, and their part of full length is all of them
pub ruleset lent =
    (batch-refused, batch-granted, batch-formed, batch-roomy, whole_drop, whole-fits, whole_length, whole_take)
