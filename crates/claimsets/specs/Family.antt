-- Not to be believed: what the roles of a set may do as a whole, worked out of the roles alone, so that a file is tested by whole words.
-- proofs/Family.antt ties these to the rules of a claim, and the checker's contract speaks of those.
-- Assumes nothing.
use Rattle.std.specs.Prelude.{◌≡◌, ℕ, Bool, cond, not, ◌||◌, List, map}
use Rattle.std.specs.List.{range_with_len}
use Rattle.sets.specs.declared.RoleSet.{RoleSet}
use Rattle.sets.specs.Below.{all_below}
use Rattle.sets.specs.Sets.{has, added, inside, collect, union}
use Rattle.model.specs.Numbers.{FILESYSTEM, ROLES, TYPES, CREATE}
use Rattle.model.specs.Words.{◌!◌}
use Rattle.model.specs.Layout.{rights_addr}
use Rattle.model.specs.Records.{set_of, role_at}

-- the set of all 32 roles
abbrev pub EVERY-ROLE : ℕ
EVERY-ROLE = 4294967295

-- a relation of rights to what they give answers as f does, and no right gives nothing
abbrev pub GivesBy : (RoleSet → RoleSet → Type 0) → (ℕ → ℕ) → Type 0
GivesBy post f = ((x : ℕ) (s : RoleSet) → post (set_of x) s → s.bits ≡ f x) × (f 0 ≡ 0)

-- the rights that a role of the set s has to type k of group g
unfoldable pub rights_to : List ℕ → ℕ → ℕ → ℕ → ℕ
rights_to t s g k = union ROLES s (λ r. t ! rights_addr g r k)

-- the types of group g to which a role of s has the right
unfoldable pub reach : List ℕ → ℕ → ℕ → ℕ → ℕ
reach t s g right = collect TYPES (λ k. has (rights_to t s g k) right)

-- what role r creates below a DIR of a type to which it has these rights: its file create type, where it has CREATE and that is plain
unfoldable pub birth : List ℕ → ℕ → ℕ → ℕ
birth t r rights = cond (has rights CREATE) (added 0 (role_at t r).filecreate) 0

-- the types of what roles of s create below a DIR of type k
unfoldable pub born : List ℕ → ℕ → ℕ → ℕ
born t s k = union ROLES s (λ r. birth t r (t ! rights_addr FILESYSTEM r k))

-- the words f 0 to f 31
unfoldable pub row_of : (ℕ → ℕ) → List ℕ
row_of f = map f (range_with_len 0 TYPES)

-- where a row has what is created below each type: everything created below the types of u is of a type in u
unfoldable pub closed : List ℕ → ℕ → Bool
closed row u = all_below TYPES (λ k. not (has u k) || inside (row ! k) u)
