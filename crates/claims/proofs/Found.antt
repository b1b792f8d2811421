-- What was found is not looked for again: a set that was found closed is the one that is known, so that the types of a DIR are closed exactly where they
-- are that set; and values that were found last add nothing.
-- Assumes nothing.
use Rattle.std.proofs.Common.{ℕ, ◌≡◌, ◌∙◌, refl, sym, Bool, true, cond, not, ◌&&◌, ◌||◌, List, eqb, eq-eqb, ne_eqb, eqb-true, arith}
use mathlib.Core.Bool.{true≢false}
use Rattle.sets.proofs.Below.{by_bool, left, right}
use Rattle.model.specs.Numbers.{DIR, INHERIT-USER, UP-MIXED}
use Rattle.model.specs.Claims.{plain_in}
use Rattle.model.proofs.Records.{by_cond}
use Rattle.claimsets.specs.Family.{closed}
use Rattle.claims.specs.declared.files.Carried.{Carried}
use Rattle.claims.specs.Parts.{last_closed, carried_with, Settled, Adds}

module _ (row : List ℕ) (known kind types : ℕ) (k : closed row known ≡ true) where
  -- the types of a DIR are closed exactly where they are the last set found closed
  pub last-is : (not (eqb kind DIR) || eqb types (last_closed row known kind types)) ≡ (not (eqb kind DIR) || closed row types)
  unfolding last_closed
  last-is =
      by_bool (λ d. (not d || eqb types (cond (d && closed row types) types known)) ≡ (not d || closed row types)) (eqb kind DIR)
      (λ d.
      by_bool (λ b. closed row types ≡ b → eqb types (cond b types known) ≡ b) (closed row types)
      (λ b e. eq-eqb types types refl)
      (λ b e. ne_eqb types known (λ q. true≢false (sym k ∙ rw (← q) e))) refl)
      (λ d. refl)

-- what is said of something carried: whether its plain values are in s, and which special ones it has
abbrev pub Says : Carried → Bool → Bool → Bool → Type 0
Says c plain user mixed = (c.plain ≡ plain) × (c.user ≡ user) × (c.mixed ≡ mixed)

-- the values found last add nothing
abbrev pub Last : ℕ → Carried → Type 0
Last s c =
    Says c (c.plain && plain_in s c.initial && plain_in s c.forced) (c.user || eqb c.forced INHERIT-USER) (c.mixed || eqb c.forced UP-MIXED)

module _ (c : Carried) (s i f : ℕ) (last : Last s c) where
  pub with-says : Says (carried_with c s i f) (c.plain && plain_in s i && plain_in s f) (c.user || eqb f INHERIT-USER) (c.mixed || eqb f UP-MIXED)
  unfolding carried_with
  with-says =
      by_cond (λ d. Says d (c.plain && plain_in s i && plain_in s f) (c.user || eqb f INHERIT-USER) (c.mixed || eqb f UP-MIXED))
      (eqb i c.initial && eqb f c.forced) _ _
      (λ e.
      let same-initial : i ≡ c.initial = eqb-true _ _ (left (eqb i c.initial) (eqb f c.forced) e) in
      let same-forced : f ≡ c.forced = eqb-true _ _ (right (eqb i c.initial) (eqb f c.forced) e) in
      rw (same-initial, same-forced) last)
      (λ e. (refl, refl, refl))

module _ (c : Carried) (s i f : ℕ) where
  found_last : Settled s c → Settled s (carried_with c s i f)
  unfolding carried_with
  found_last h = grind arith

  -- so all that is carried is what it was and what the two bring, which are then those that were found last
  pub with_adds : Settled s c → Adds s c i f (carried_with c s i f)
  with_adds h =
      let says = with-says c s i f (h.plain, h.user, h.mixed) in
      record { plain = grind (arith, says.0); user = says.1; mixed = says.2; settled = found_last h }

pub ruleset known = (last-is)

pub ruleset found = (with_adds)
