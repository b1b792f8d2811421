-- The request's examples, computed.
-- Assumes nothing.
use mathlib.Core.Path.{◌≡◌, refl}
use Rattle.setpoints.specs.Pascals.{pascals}

-- a metre, nothing, a half that goes up, the planner's 45 metres, and the limit
pub heads : (pascals 1000 ≡ 9807) × (pascals 0 ≡ 0) × (pascals 10000 ≡ 98067) × (pascals 45000 ≡ 441299) × (pascals 2000000 ≡ 19613300)
unfolding pascals
heads = (refl, refl, refl, refl, refl)
