-- There is one right answer: every contract is an equation with the definition, and two answers equal to one thing are equal.
-- Assumes nothing.
use mathlib.Core.Path.{◌∙◌, ap, sym}
use Rattle.model.specs.Records.{set_of}
use Rattle.model.specs.Outcome.{Outcome}
use Rattle.model.proofs.Ends.{answers_apart, found_apart, verdicts_apart, codes_apart, rules_apart}
use Rattle.promises.specs.Promises.{Answers-to-one-contract-coincide, Results-to-one-contract-coincide, Results-of-the-same-numbers-are-the-same, Sets-to-one-contract-coincide, Values-to-one-contract-coincide}

pub answers-to-one-contract-coincide : Answers-to-one-contract-coincide
answers-to-one-contract-coincide r s u v d p q = (ap (λ (e : Outcome). e.answer) (p ∙ sym q), ap (λ (e : Outcome). e.after) (p ∙ sym q))

pub results-to-one-contract-coincide : Results-to-one-contract-coincide
results-to-one-contract-coincide r s u v d p q =
    (answers_apart r s (ap (λ (e : Outcome). e.answer) (p ∙ sym q)), ap (λ (e : Outcome). e.after) (p ∙ sym q))

pub results-of-the-same-numbers-are-the-same : Results-of-the-same-numbers-are-the-same
results-of-the-same-numbers-are-the-same = (answers_apart, found_apart, verdicts_apart, codes_apart, rules_apart)

pub sets-to-one-contract-coincide : Sets-to-one-contract-coincide
sets-to-one-contract-coincide r s d p q = ap set_of (p ∙ sym q)

pub values-to-one-contract-coincide : Values-to-one-contract-coincide
values-to-one-contract-coincide A r s d p q = p ∙ sym q
