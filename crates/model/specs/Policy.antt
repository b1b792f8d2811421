-- What roles may do: the roles, the users' default roles, the rights. Only administration calls change it.
-- Assumes nothing.
use Rattle.std.specs.Prelude.{ℕ, ◌<◌, ◌≡◌, List}
use Rattle.model.specs.Numbers.{GROUPS, ROLES, USERS, TYPES}
use Rattle.model.specs.Records.{role_at, user_role, has_right}

pub record SamePolicy (t u : List ℕ) : Type 0 where
  pub roles : (r : ℕ) → r < ROLES → role_at u r ≡ role_at t r
  pub users : (i : ℕ) → i < USERS → user_role u i ≡ user_role t i
  pub rights : (g r k right : ℕ) → g < GROUPS → r < ROLES → k < TYPES → has_right u g r k right ≡ has_right t g r k right
