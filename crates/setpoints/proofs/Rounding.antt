-- Rounding by its meaning: half a pascal added and the rest cut off is the nearest whole number, and of two as near the upper.
-- Assumes nothing.
use Rattle.std.proofs.Common.{ℕ, ◌+◌, ◌*◌, ◌≤◌, ◌<◌, ◌≡◌, arith}
use Rattle.std.proofs.lemmas.Bool.Decides.{nat_tests}
use Rattle.setpoints.specs.Pascals.{HALF, MILLIMETRE, PASCAL, pascals}
use Rattle.setpoints.specs.Setpoints.{entry}
use Rattle.setpoints.specs.Promises.{Head-enters-as-the-nearest-pascals, Nearest, No-entry-is-above-19613300}

-- at most half a pascal above and less than half a pascal below, it is at most half a pascal away, a lower number at least, and a higher one more
rounded-nearest : (mm : ℕ) → Nearest mm (pascals mm)
unfolding pascals
rounded-nearest mm q =
    let above : pascals mm * PASCAL ≤ mm * MILLIMETRE + HALF = omega arith in
    let below : mm * MILLIMETRE < pascals mm * PASCAL + HALF = omega arith in
    (omega arith, λ e. omega arith)

-- two that are nearest are as near, so that neither is the upper
one-nearest : (mm p q : ℕ) → Nearest mm p → Nearest mm q → p ≡ q
one-nearest mm p q near_p near-q = grind (arith, near_p q, near-q p)

pub head-enters-as-the-nearest-pascals : Head-enters-as-the-nearest-pascals
head-enters-as-the-nearest-pascals mm p =
    (λ near. one-nearest mm p (pascals mm) near (rounded-nearest mm), λ e. rw e (rounded-nearest mm))

pub no-entry-is-above-19613300 : No-entry-is-above-19613300
unfolding entry pascals
no-entry-is-above-19613300 s l = grind (arith, nat_tests)
