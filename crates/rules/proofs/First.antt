-- A refusal number that is not 0 stays, whatever comes after it.
-- Assumes nothing.
use Prim.Native.Nat.{ℕ, zero, suc}
use mathlib.Core.Path.{◌≡◌, refl}
use Rattle.model.specs.Numbers.{◌▹◌}

pub first-stays : (n m : ℕ) → (n ≡ 0 → ⊥) → n ▹ m ≡ n
first-stays zero m h = absurd (h refl)
first-stays (suc n) m h = refl
