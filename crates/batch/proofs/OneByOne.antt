-- The answers stand one after the other, so that putting one leaves those before it and all that lies past it.
-- Assumes nothing.
use Prim.Native.Nat.{ℕ, zero, suc, ◌+◌, ◌*◌, ◌<◌, ◌≤◌}
use mathlib.Core.List.{List, [], ◌∷◌}
use mathlib.Core.Logic.{◌≢◌, inl, inr, ⊎_elim}
use mathlib.Core.Path.{◌∙◌, ◌≡◌, refl, sym}
use native.Mathlib.Nat.{add-zero}
use native.Mathlib.Omega.{arith}
use lib.ListN.{length, length-set, set}
use Rattle.sets.proofs.Below.{by_bool, lt-or-le}
use Rattle.model.specs.WellFormed.{well_formed}
use Rattle.model.specs.Words.{◌!◌, put}
use Rattle.model.proofs.Words.{put-length, word-put-other, word-set-other, word-set-same}
use Rattle.promises.proofs.Changes.{a-refused-call-changes-nothing}
use Rattle.std.specs.Prelude.{Option, Some, None}
use Rattle.model.specs.declared.Call.{Call}
use Rattle.kinds.specs.ByKind.{step_by_kind, written}
use Rattle.kinds.proofs.ByKind.{done-written, written-ill}
use Rattle.batch.specs.declared.items.Item.{Item}
use Rattle.batch.specs.Items.{call_in, item_of, made}
use Rattle.batch.specs.Batch.{ANSWER-BYTES, answer_to, answers_after, item_at, items, tables_after}
use Rattle.batch.specs.Promises.{A-granted-batch-is-its-items-one-by-one, A-refused-item-changes-nothing, An-item-is-its-call-by-kind, An-item-that-is-no-call-is-2, Every-items-answer-fits-its-bytes, The-rest-of-the-answers-stays}
use Rattle.batch.proofs.Laws.{batch-granted, batch-number, batch-roomy, either_way, made-fits}

-- ---- one item

pub an-item-is-its-call-by-kind : An-item-is-its-call-by-kind
unfolding made call_in step_by_kind item_of
an-item-is-its-call-by-kind t = (λ i. refl, λ b e. rw e)

pub an-item-that-is-no-call-is-2 : An-item-that-is-no-call-is-2
unfolding made
an-item-that-is-no-call-is-2 t None w e = rw e (sym (done-written t 0 None w))
an-item-that-is-no-call-is-2 t (Some i) w e = rw e (sym (done-written t i.caller None w))

pub every-items-answer-fits-its-bytes : Every-items-answer-fits-its-bytes
every-items-answer-fits-its-bytes t q k = made-fits (tables_after t q k) (item_at q k)

module _ (t : List ℕ) (caller : ℕ) where
  -- what is no call leaves the row and answers no place, with whichever number
  pub unknown-stays : ((written t caller None).after ≡ t) × ((written t caller None).answer.place ≡ 0)
  unknown-stays =
      by_bool (λ b. ((written t caller None).after ≡ t) × ((written t caller None).answer.place ≡ 0)) (well_formed t)
      (λ w. rw (sym (done-written t caller None w)) (refl, refl))
      (λ w. rw (written-ill t caller None w) (refl, refl))

  refused-stays : (what : Option Call) → (written t caller what).answer.number ≢ 0
      → ((written t caller what).after ≡ t) × ((written t caller what).answer.place ≡ 0)
  refused-stays None h = unknown-stays
  refused-stays (Some call) h = a-refused-call-changes-nothing t caller call h

refused-item-stays : (t : List ℕ) (i : Option Item) → (made t i).answer.number ≢ 0 → ((made t i).after ≡ t) × ((made t i).answer.place ≡ 0)
unfolding made
refused-item-stays t None h = refused-stays t 0 (call_in None) h
refused-item-stays t (Some i) h = refused-stays t i.caller (call_in (Some i)) h

pub a-refused-item-changes-nothing : A-refused-item-changes-nothing
unfolding tables_after
a-refused-item-changes-nothing t q k h = refused-item-stays (tables_after t q k) (item_at q k) h

-- ---- the slice of answers

put_two : (s : List ℕ) (a v w : ℕ) → a + 2 ≤ length s → (put s a (v ∷ w ∷ []) ! a ≡ v) × (put s a (v ∷ w ∷ []) ! (a + 1) ≡ w)
unfolding put
put_two s a v w l = (
  rw add-zero (word-set-other (set s a v) (a + 1) w a (λ e. omega (arith, e)) ∙ word-set-same s a v (omega arith)),
  word-set-same (set s (a + 0) v) (a + 1) w (rw length-set (omega arith)),
)

module _ (t q s : List ℕ) where
  answers-length : (n : ℕ) → length (answers_after t q s n) ≡ length s
  unfolding answers_after
  answers-length zero = refl
  answers-length (suc n) = put-length (answers_after t q s n) (n * ANSWER-BYTES) _ ∙ answers-length n

  answers-rest : (n i : ℕ) → n * ANSWER-BYTES ≤ i → answers_after t q s n ! i ≡ s ! i
  unfolding answers_after
  answers-rest zero i l = refl
  answers-rest (suc n) i l =
      word-put-other (answers_after t q s n) (n * ANSWER-BYTES) _ i (inr (omega arith)) ∙ answers-rest n i (omega arith)

  abbrev Stands : ℕ → ℕ → Type 0
  Stands n k =
      (answers_after t q s n ! (k * ANSWER-BYTES) ≡ (answer_to t q k).number)
      × (answers_after t q s n ! (k * ANSWER-BYTES + 1) ≡ (answer_to t q k).place)

  answers-stand : (n k : ℕ) → k < n → n * ANSWER-BYTES ≤ length s → Stands n k
  unfolding answers_after
  answers-stand zero k l room = omega (arith, l)
  answers-stand (suc n) k l room =
      let x = answers_after t q s n in
      let sized = answers-length n in
      ⊎_elim
      (λ (m : k < n). let before = answers-stand n k m (omega arith) in (
        word-put-other x (n * ANSWER-BYTES) _ (k * ANSWER-BYTES) (inl (omega arith)) ∙ before.0,
        word-put-other x (n * ANSWER-BYTES) _ (k * ANSWER-BYTES + 1) (inl (omega arith)) ∙ before.1,
      ))
      (λ (m : n ≤ k). let e : k ≡ n = omega arith in
      rw e (put_two x (n * ANSWER-BYTES) _ _ (omega arith)))
      (lt-or-le k n)

pub a-granted-batch-is-its-items-one-by-one : A-granted-batch-is-its-items-one-by-one
a-granted-batch-is-its-items-one-by-one t q s g =
    let none = sym (batch-number t q s) ∙ g in
    rw (batch-granted t q s none) (refl, λ k l. answers-stand t q s (items q) k l (batch-roomy t q s none))

pub the-rest-of-the-answers-stays : The-rest-of-the-answers-stays
the-rest-of-the-answers-stays t q s =
    either_way t q s (λ b. (length b.answers ≡ length s) × ((i : ℕ) → items q * ANSWER-BYTES ≤ i → b.answers ! i ≡ s ! i))
    (λ h. (refl, λ i l. refl))
    (λ e. (answers-length t q s (items q), answers-rest t q s (items q)))
