-- Runs: what happens to the tables one after another, the answers given, the family of a claim's process, and what demand 3 says of every
-- point of a run.
-- Assumes nothing.
use Rattle.std.specs.Prelude.{ℕ, Bool, true, not, ◌&&◌, ◌||◌, List, [], ◌∷◌, eqb}
use Rattle.sets.specs.Below.{all_below}
use Rattle.sets.specs.Sets.{has}
use Rattle.model.specs.declared.Call.{Call}
use Rattle.model.specs.declared.Answer.{Answer}
use Rattle.model.specs.Numbers.{FILESYSTEM, PROCESSES, WRITE, CREATE, DELETE}
use Rattle.model.specs.Layout.{FILE-TYPE}
use Rattle.model.specs.Records.{process_at}
use Rattle.model.specs.Effective.{value_at}
use Rattle.model.specs.Outcome.{Outcome}
use Rattle.model.specs.Step.{step}
use Rattle.model.specs.Claims.{process_in, type_in, S}

-- ---- runs

-- what may happen to the tables: process c makes a call
pub data Event : Type 0 where
  asks : ℕ → Call → Event

abbrev pub happens : List ℕ → Event → Outcome
happens t (asks c call) = step t c call

-- what the events of a run are answered, each on the row that those before it leave
unfoldable pub answers : List ℕ → List Event → List Answer
answers t [] = []
answers t (e ∷ rest) = (happens t e).answer ∷ answers (happens t e).after rest

-- the row after a run
unfoldable pub after : List ℕ → List Event → List ℕ
after t [] = t
after t (e ∷ rest) = after (happens t e).after rest

-- ---- what demand 3 speaks of: the kinds of call that it tells apart

pub data Deed : Type 0 where
  joins : Deed
  leaves : Deed
  reaches : ℕ → ℕ → ℕ → Deed
  creates : Deed
  deletes : ℕ → Deed
  administers : Deed
  other : Deed

abbrev pub deed : Call → Deed
deed (Call.Access g o right) = reaches g o right
deed Call.Clone = joins
deed Call.Exit = leaves
deed (Call.Execute f) = other
deed (Call.ChangeOwner u) = other
deed (Call.ChangeRole r) = other
deed (Call.Create kind y) = creates
deed (Call.Delete o) = deletes o
deed Call.CreateIpc = other
deed (Call.DeleteIpc i) = other
deed (Call.Administer change) = administers

abbrev pub granted : Answer → Bool
granted a = eqb a.number 0

-- ---- the family: the claim's process and those that its members clone, each until it exits

abbrev pub Family : Type 0
Family = ℕ → Bool

abbrev pub founder : List ℕ → Family
founder w = λ p. eqb p (process_in w)

-- the family after a call of process c that was answered a
abbrev pub family_by : Family → ℕ → Answer → Deed → Family
family_by F c a joins = λ p. F p || (F c && granted a && eqb p a.place)
family_by F c a leaves = λ p. F p && not (granted a && eqb p c)
family_by F c a (reaches g o right) = F
family_by F c a creates = F
family_by F c a (deletes o) = F
family_by F c a administers = F
family_by F c a other = F

-- ---- what an accepted claim promises

-- every member holds a role of S
unfoldable pub members_within : List ℕ → List ℕ → Family → Bool
members_within w t F = all_below PROCESSES (λ p. not (F p) || has (S w) (process_at t p).role)

-- the rights that change an object
abbrev pub changes : ℕ → Bool
changes right = eqb right WRITE || eqb right CREATE || eqb right DELETE

-- a member's call on the row t with the outcome e: no administration call is granted, and no access, removal or creation of an object
-- whose effective type is then k
abbrev pub harmless : ℕ → List ℕ → Outcome → Deed → Bool
harmless k t e joins = true
harmless k t e leaves = true
harmless k t e (reaches g o right) =
    not (granted e.answer && eqb g FILESYSTEM && changes right && eqb (value_at t FILE-TYPE o) k)
harmless k t e creates = not (granted e.answer && eqb (value_at e.after FILE-TYPE e.answer.place) k)
harmless k t e (deletes o) = not (granted e.answer && eqb (value_at t FILE-TYPE o) k)
harmless k t e administers = not (granted e.answer)
harmless k t e other = true

-- what a process outside the family may be granted: no administration call
abbrev pub unadministered : Answer → Deed → Bool
unadministered a joins = true
unadministered a leaves = true
unadministered a (reaches g o right) = true
unadministered a creates = true
unadministered a (deletes o) = true
unadministered a administers = not (granted a)
unadministered a other = true

-- ---- at each event of a run

abbrev pub family_after : List ℕ → Family → Event → Family
family_after t F (asks c call) = family_by F c (step t c call).answer (deed call)

-- the family after a run
unfoldable pub family_over : List ℕ → Family → List Event → Family
family_over t F [] = F
family_over t F (e ∷ rest) = family_over (happens t e).after (family_after t F e) rest

-- the hypothesis: a process outside the family is granted no administration call
abbrev pub allowed_at : List ℕ → Family → Event → Bool
allowed_at t F (asks c call) = F c || unadministered (step t c call).answer (deed call)

-- the promise: a call of a member is harmless
abbrev pub harmless_at : ℕ → List ℕ → Family → Event → Bool
harmless_at k t F (asks c call) = not (F c) || harmless k t (step t c call) (deed call)

-- the hypothesis, at every point
unfoldable pub allowed : List ℕ → Family → List Event → Bool
allowed t F [] = true
allowed t F (e ∷ rest) = allowed_at t F e && allowed (happens t e).after (family_after t F e) rest

-- the promise, at every point: all members are within S, and every call of a member is harmless
unfoldable pub confined : List ℕ → List ℕ → Family → List Event → Bool
confined w t F [] = members_within w t F
confined w t F (e ∷ rest) =
    members_within w t F
    && harmless_at (type_in w) t F e
    && confined w (happens t e).after (family_after t F e) rest
