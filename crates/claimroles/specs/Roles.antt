-- Not to be believed: the first five of the rules of a claim, which depend on roles alone, and C2 cut into the parts that the checker tests one by
-- one. proofs/Roles.antt puts those together again, and the checker's contract speaks of all nine rules.
-- Assumes nothing.
use Rattle.std.specs.Prelude.{ℕ, Bool, not, ◌&&◌, ◌||◌, List, eqb}
use Rattle.sets.specs.Below.{some_below}
use Rattle.sets.specs.Sets.{has}
use Rattle.model.specs.declared.Role.{Role}
use Rattle.model.specs.Numbers.{◌unless◌, ◌▹◌, GROUPS, ASSIGN}
use Rattle.model.specs.Records.{has_right}
use Rattle.model.specs.Claims.{S, powerless, C1, C2, C3, C4, C5}

-- C2 of a role's record: it is not Role Admin and has no admin or assign role
abbrev pub unempowered : Role → Bool
unempowered r = not r.mark && eqb r.admin.bits 0 && eqb r.assign.bits 0

-- C2 of a role and a type, where the sets are its rights to it in the three groups: it has ASSIGN in one of them
abbrev pub assigns : ℕ → ℕ → ℕ → Bool
assigns files processes ipcs = has files ASSIGN || has processes ASSIGN || has ipcs ASSIGN

-- the same of role r and type k in the tables
unfoldable pub assigns_to : List ℕ → ℕ → ℕ → Bool
assigns_to t r k = some_below GROUPS (λ g. has_right t g r k ASSIGN)

-- C2 of the number r: it is not in S, or a powerless role
unfoldable pub keeps : List ℕ → List ℕ → ℕ → Bool
keeps t w r = not (has (S w) r) || powerless t r

-- the first of the rules 1 to 5 that is broken
unfoldable pub by_roles : List ℕ → List ℕ → ℕ
by_roles t w = 1 unless C1 t w ▹ 2 unless C2 t w ▹ 3 unless C3 t w ▹ 4 unless C4 t w ▹ 5 unless C5 t w
