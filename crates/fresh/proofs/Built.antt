-- The stores of `fresh` over a row of zeros come to the fresh tables: both sides are closed lists, and are compared word by word.
-- Assumes nothing.
use Rattle.std.proofs.Common.{ℕ, zero, suc, ◌+◌, ◌≡◌, refl, add-one, List, length}
use Rattle.std.specs.Prelude.{replicate}
use Rattle.model.specs.Numbers.{ROLES}
use Rattle.model.specs.Layout.{row_length}
use Rattle.model.specs.Words.{put}
use Rattle.model.specs.Records.{put_process, put_file}
use Rattle.model.specs.Fresh.{fresh}
use Rattle.fresh.specs.Stores.{put_fresh_role, put_first}

-- the first n roles over a row
unfoldable pub put_fresh_roles : ℕ → List ℕ → List ℕ
put_fresh_roles zero t = t
put_fresh_roles (suc n) t = put_fresh_role (put_fresh_roles n t) n

pub roles_start : (t : List ℕ) → put_fresh_roles 0 t ≡ t
unfolding put_fresh_roles
roles_start t = refl

pub roles_next : (n : ℕ) (t : List ℕ) → put_fresh_roles (n + 1) t ≡ put_fresh_role (put_fresh_roles n t) n
unfolding put_fresh_roles
roles_next n t = rw (add-one n)

pub built : (t : List ℕ) (r : ℕ) → length t ≡ row_length → r ≡ ROLES → put_first (put_fresh_roles r (replicate (length t) 0)) ≡ fresh
unfolding put_file put_process put_fresh_roles put put_first fresh
built t r e h = rw (e, h)

pub ruleset builds = (roles_start, roles_next, built)
