-- The nine numbers: the number of each refusal and of each rule of a claim, and what a result says in numbers.
-- Assumes nothing.
use Rattle.std.specs.Prelude.{ℕ, Result, Ok, Err}
use Rattle.model.specs.declared.Refusal.{Refusal}
use Rattle.model.specs.declared.Rule.{Rule}
use Rattle.model.specs.declared.Objection.{Objection}
use Rattle.model.specs.declared.Climbed.{Climbed}
use Rattle.model.specs.declared.Answer.{Answer}
use Rattle.model.specs.declared.Found.{Found}
use Rattle.model.specs.declared.Verdict.{Verdict}

abbrev pub number_of : Refusal → ℕ
number_of Refusal.IllFormed = 1
number_of Refusal.OutOfRange = 2
number_of Refusal.NotLive = 3
number_of Refusal.NoSuchPlace = 4
number_of Refusal.NotAllowed = 5
number_of Refusal.NotRemovable = 6
number_of Refusal.TooDeep = 7
number_of Refusal.Full = 8

abbrev pub rule_number : Rule → ℕ
rule_number Rule.C1 = 1
rule_number Rule.C2 = 2
rule_number Rule.C3 = 3
rule_number Rule.C4 = 4
rule_number Rule.C5 = 5
rule_number Rule.C6 = 6
rule_number Rule.C7 = 7
rule_number Rule.C8 = 8
rule_number Rule.C9 = 9

-- ---- the number alone: 0 where nothing refuses, or where no rule is broken

abbrev pub code : {A : Type 0} → Result A Refusal → ℕ
code (Ok x) = 0
code (Err e) = number_of e

abbrev pub first_broken : {A : Type 0} → Result A Rule → ℕ
first_broken (Ok x) = 0
first_broken (Err rule) = rule_number rule

-- ---- the answer in numbers

-- a grant names a place, a refusal none
abbrev pub answer_of : Result ℕ Refusal → Answer
answer_of (Ok place) = record { number = 0; place = place }
answer_of (Err e) = record { number = number_of e; place = 0 }

-- what was climbed to, or a refusal's number and zeros
abbrev pub found_of : Result Climbed Refusal → Found
found_of (Ok up) = record { number = 0; value = up.value; climbed = up.climbed; place = up.place }
found_of (Err e) = record { number = number_of e; value = 0; climbed = 0; place = 0 }

-- 0 and 0; another number than 9 and 0; or 9 and the rule
abbrev pub verdict_of : Result (Unit {0}) Objection → Verdict
verdict_of (Ok x) = record { number = 0; rule = 0 }
verdict_of (Err (Objection.Refused e)) = record { number = number_of e; rule = 0 }
verdict_of (Err (Objection.Broken rule)) = record { number = 9; rule = rule_number rule }
