-- Not to be believed: the last four of the rules of a claim, which speak of files, and what a walk over the files finds of them. The checker's
-- contract speaks of all nine.
-- Assumes nothing.
use Rattle.std.specs.Prelude.{◌≡◌, ℕ, zero, suc, Bool, cond, not, ◌&&◌, ◌||◌, List, eqb}
use Rattle.sets.specs.Below.{all_below, some_below}
use Rattle.sets.specs.Sets.{has, meets}
use Rattle.model.specs.Numbers.{◌unless◌, ◌▹◌, FREE, DIR, USERS, PROCESS, CHANGE-OWNER, INHERIT-USER, UP-MIXED}
use Rattle.model.specs.Layout.{KIND, KEPT-TYPE, KEPT-FORCED}
use Rattle.model.specs.Records.{file_word, kept_at, process_at, user_role}
use Rattle.model.specs.Claims.{S, Q, T, process_in, plain_in, startable, starts, own_forced, C6, C7, C8, C9}
use Rattle.claimsets.specs.Family.{closed, reach}
use Rattle.claims.specs.declared.files.Carried.{Carried}

-- ---- what was found is not looked for again (proofs/Found.antt)

-- the last set found closed, after a place of that kind and with these types, where a row has what is created below each type
unfoldable pub last_closed : List ℕ → ℕ → ℕ → ℕ → ℕ
last_closed row known kind types = cond (eqb kind DIR && closed row types) types known

-- the last set found closed below the place n
unfoldable pub known_below : List ℕ → List ℕ → List ℕ → ℕ → ℕ
known_below row t w zero = 0
known_below row t w (suc o) = last_closed row (known_below row t w o) (file_word t o KIND) (T w o)

-- C6 of a place of that kind and with these types, where that set is the last found closed; the place itself among others
unfoldable pub holds_by : List ℕ → ℕ → ℕ → ℕ → ℕ → Bool
holds_by t o kind types known =
    cond (eqb kind FREE) (eqb types 0) (has types (kept_at t KEPT-TYPE o) && (not (eqb kind DIR) || eqb types known))

-- what is carried, with two values more
unfoldable pub carried_with : Carried → ℕ → ℕ → ℕ → Carried
carried_with c s i f =
    cond (eqb i c.initial && eqb f c.forced) c
    (record {
      plain = c.plain && plain_in s i && plain_in s f;
      user = c.user || eqb f INHERIT-USER;
      mixed = c.mixed || eqb f UP-MIXED;
      initial = i;
      forced = f;
    })

-- ---- what is asked where it is known what is carried

-- C8 of the role set s, where it is known whether inherit user is carried
unfoldable pub C8By : List ℕ → List ℕ → ℕ → Bool → Bool
C8By t w s user = not user || has s (user_role t (process_at t (process_in w)).owner)

-- C9: every user's default role is in the set s
unfoldable pub every_user : List ℕ → ℕ → Bool
every_user t s = all_below USERS (λ u. has s (user_role t u))

-- C9 of the role set s, where it is known whether a value that follows the owner is carried
unfoldable pub C9By : List ℕ → List ℕ → ℕ → Bool → Bool
C9By t w s follows = not (meets (Q w) (reach t s PROCESS CHANGE-OWNER) && follows) || every_user t s

-- ---- what the walk finds

-- the two values found last are among what is carried, so that they add nothing
pub record Settled (s : ℕ) (c : Carried) : Type 0 where
  pub plain : c.plain ≡ (c.plain && plain_in s c.initial && plain_in s c.forced)
  pub user : c.user ≡ (c.user || eqb c.forced INHERIT-USER)
  pub mixed : c.mixed ≡ (c.mixed || eqb c.forced UP-MIXED)

-- d is what c is with an initial and a forced value more
pub record Adds (s : ℕ) (c : Carried) (initial forced : ℕ) (d : Carried) : Type 0 where
  pub plain : d.plain ≡ (c.plain && (plain_in s initial && plain_in s forced))
  pub user : d.user ≡ (c.user || eqb forced INHERIT-USER)
  pub mixed : d.mixed ≡ (c.mixed || eqb forced UP-MIXED)
  pub settled : Settled s d

-- the plain values of the process and of the places below n are in S
unfoldable pub plain_below : List ℕ → List ℕ → ℕ → Bool
plain_below t w n = plain_in (S w) (own_forced t w) && all_below n (starts t w)

-- v is carried by the process or by a place below n
unfoldable pub carried_below : List ℕ → List ℕ → ℕ → ℕ → Bool
carried_below t w v n = eqb (own_forced t w) v || some_below n (λ o. startable t w o && eqb (kept_at t KEPT-FORCED o) v)

-- c is what the process of a claim and the places below n carry
pub record Tells (t w : List ℕ) (n : ℕ) (c : Carried) : Type 0 where
  pub plain : c.plain ≡ plain_below t w n
  pub user : c.user ≡ carried_below t w INHERIT-USER n
  pub mixed : c.mixed ≡ carried_below t w UP-MIXED n
  pub settled : Settled (S w) c

-- the first of the rules 6 to 9 that is broken
unfoldable pub by_files : List ℕ → List ℕ → ℕ
by_files t w = 6 unless C6 t w ▹ 7 unless C7 t w ▹ 8 unless C8 t w ▹ 9 unless C9 t w
