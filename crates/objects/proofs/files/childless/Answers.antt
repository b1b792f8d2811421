use Rattle.std.proofs.Common.{ℕ, ◌≤◌, ◌≡◌, sym, true, List, arith, eqb}
use mathlib.Core.Bool.{or-true}
use Rattle.sets.specs.Below.{all_below, first_below}
use Rattle.sets.proofs.Below.{all_of, first-least, first-bound}
use Rattle.sets.proofs.Walks.{all_left}
use Rattle.model.specs.Numbers.{FILES}
use Rattle.model.specs.Layout.{PARENT}
use Rattle.model.specs.Records.{file_word}
use Rattle.model.specs.Calls.{not_child, childless}
use Rattle.objects.proofs.files.childless.Goals as goal

-- below the first place that names o, no place holds a child of o
none_before : (t : List ℕ) (o : ℕ) → all_below (first_below FILES (λ q. eqb (file_word t q PARENT) o)) (not_child t o) ≡ true
unfolding not_child
none_before t o = all_of _ _ (λ k l. rw (first-least _ FILES k l, or-true))

pub loop-q-init : goal.loop-q-init
loop-q-init c = rw c.first_named-q.ensures (none_before _ _)

pub returns-then-not-not_child : goal.returns-then-not-not_child
unfolding childless
returns-then-not-not_child c =
    all_left _ FILES c.loop-q.q _ c.loop-q-test.true c.not_child.ensures c.if-not-not_child.true

pub returns : goal.returns
unfolding childless
returns c =
    let l : c.first_named-q.result ≤ FILES = rw c.first_named-q.ensures (first-bound _ FILES) in
    let e : c.loop-q.q ≡ FILES = omega arith in
    sym (rw e at c.loop-q.invariant)
