-- What a call comes to: an answer, and the row after it. A refusal answers its number and zeros, and leaves the row as found.
-- Assumes nothing.
use Rattle.std.specs.Prelude.{ℕ, zero, suc, List}
use Rattle.model.specs.declared.Answer.{Answer}

pub record Outcome : Type 0 where
  pub answer : Answer
  pub after : List ℕ

abbrev pub outcome : Answer → List ℕ → Outcome
outcome a u = record { answer = a; after = u }

-- a grant answers a place and leaves the row u
abbrev pub granting : ℕ → List ℕ → Outcome
granting place u = outcome (record { number = 0; place = place }) u

-- a refusal answers its number and leaves the row t
abbrev pub refusing : ℕ → List ℕ → Outcome
refusing n t = outcome (record { number = n; place = 0 }) t

-- number 0 grants, any other refuses
unfoldable pub decide : List ℕ → ℕ → ℕ → List ℕ → Outcome
decide t zero place u = granting place u
decide t (suc n) place u = refusing (suc n) t

-- what the rules say of one call by a live caller: the first of the tests 4 to 8 that fails, the place that a grant answers, and the row it leaves
pub record Ruling : Type 0 where
  pub number : ℕ
  pub place : ℕ
  pub row : List ℕ

abbrev pub ruled : ℕ → ℕ → List ℕ → Ruling
ruled n place u = record { number = n; place = place; row = u }

-- the ruling carried out on the row t
abbrev pub carry_out : List ℕ → Ruling → Outcome
carry_out t r = decide t r.number r.place r.row
