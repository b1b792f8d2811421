-- The parts of C2 make up the rule again: a walk over groups within one over types is one over types.
use Prim.Native.Nat.{ℕ, ◌+◌, ◌<◌}
use mathlib.Core.Path.{◌≡◌, refl, ◌∙◌}
use mathlib.Core.Bool.{true, false, not, ◌&&◌, ◌||◌, and-false}
use mathlib.Core.List.{List}
use native.Mathlib.Omega.{arith}
use Rattle.sets.specs.Below.{all_below, some_below}
use Rattle.sets.specs.Sets.{has}
use Rattle.sets.proofs.Below.{all-miss, all_same, all-swap, all-not}
use Rattle.model.specs.Numbers.{◌unless◌, GROUPS, FILESYSTEM, PROCESS, IPC, TYPES, ASSIGN}
use Rattle.model.specs.Words.{◌!◌, block}
use Rattle.model.specs.Layout.{rights_addr}
use Rattle.model.specs.Records.{role_at, has_right}
use Rattle.model.specs.Claims.{S, assigns_nothing, powerless, C2}
use Rattle.model.proofs.Words.{block_at}
use Rattle.claimroles.specs.Roles.{unempowered, assigns, assigns_to, keeps}

pub assigns-none : (t : List ℕ) (r : ℕ) → assigns_nothing t r ≡ all_below TYPES (λ k. not (assigns_to t r k))
unfolding assigns_nothing assigns_to
assigns-none t r =
    all-swap (λ g k. not (has_right t g r k ASSIGN)) GROUPS TYPES
    ∙ all_same (λ k. all_below GROUPS (λ g. not (has_right t g r k ASSIGN))) (λ k. not (assigns_to t r k)) TYPES
    (λ k l. all-not (λ g. has_right t g r k ASSIGN) GROUPS)

-- the rows of a role's rights have the sets that the rule asks for
pub assigns-rows : (t : List ℕ) (r k : ℕ) (f p i : List ℕ) → k < 32 → f ≡ block t (rights_addr FILESYSTEM r 0) TYPES → p ≡ block t (rights_addr PROCESS r 0) TYPES → i ≡ block t (rights_addr IPC r 0) TYPES → assigns (f ! k) (p ! k) (i ! k) ≡ assigns_to t r k
unfolding assigns_to some_below has_right
assigns-rows t r k f p i l ef ep ei =
    rw (at FILESYSTEM f ef, at PROCESS p ep, at IPC i ei)
  where
    at : (g : ℕ) (row : List ℕ) → row ≡ block t (rights_addr g r 0) TYPES → row ! k ≡ t ! rights_addr g r k
    at g row e = let a : rights_addr g r 0 + k ≡ rights_addr g r k = omega arith in rw (e, block_at t (rights_addr g r 0) TYPES k l, a)

pub assigned : (t : List ℕ) (r k : ℕ) → k < 32 → assigns_to t r k ≡ true → assigns_nothing t r ≡ false
assigned t r k l e = assigns-none t r ∙ all-miss (λ k. not (assigns_to t r k)) 32 k l (rw e)

pub keeps-is : (t w : List ℕ) (r : ℕ) → keeps t w r ≡ (not (has (S w) r) || (unempowered (role_at t r) && assigns_nothing t r))
unfolding keeps powerless
keeps-is t w r = refl

pub c2-keeps : (t w : List ℕ) → C2 t w ≡ all_below 32 (keeps t w)
unfolding C2 keeps
c2-keeps t w = refl

pub c2-broken : (t w : List ℕ) (r : ℕ) → r < 32 → keeps t w r ≡ false → 2 ≡ (2 unless C2 t w)
c2-broken t w r l e = rw (c2-keeps t w, all-miss (keeps t w) 32 r l e)

module _ (t w : List ℕ) (r : ℕ) where
  -- a role in S keeps the rule, where both of its tests hold
  pub keeps_mine : has (S w) r ≡ true → unempowered (role_at t r) ≡ true → all_below TYPES (λ k. not (assigns_to t r k)) ≡ true → keeps t w r ≡ true
  keeps_mine m u a = rw (keeps-is t w r, m, u, assigns-none t r, a)

  pub keeps_other : has (S w) r ≡ false → keeps t w r ≡ true
  keeps_other m = rw (keeps-is t w r, m)

  pub loses_able : has (S w) r ≡ true → unempowered (role_at t r) ≡ false → keeps t w r ≡ false
  loses_able m u = rw (keeps-is t w r, m, u)

  pub loses_assigning : (k : ℕ) → has (S w) r ≡ true → k < 32 → assigns_to t r k ≡ true → keeps t w r ≡ false
  loses_assigning k m l a = rw (keeps-is t w r, m, assigned t r k l a, and-false)
