-- Head as pressure (W-202): one metre of head is exactly 9,806.65 pascals, so that a millimetre is 980,665 hundred-thousandths of a pascal.
-- Assumes nothing.
use Rattle.std.specs.Prelude.{ℕ, ◌+◌, ◌*◌, ◌/◌}

-- in hundred-thousandths of a pascal
abbrev pub MILLIMETRE : ℕ
MILLIMETRE = 980665

abbrev pub PASCAL : ℕ
PASCAL = 100000

abbrev pub HALF : ℕ
HALF = 50000

-- millimetres of head in whole pascals, to nearest, halves up; that it is so is promised (Promises)
unfoldable pub pascals : ℕ → ℕ
pascals mm = (mm * MILLIMETRE + HALF) / PASCAL
