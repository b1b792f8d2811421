-- An accepted claim is true: crates/confinement proves it, by an invariant that every call keeps. What it says of a run with one call more it says of
-- that call.
-- Assumes nothing.
use Prim.Native.Nat.{ℕ}
use mathlib.Core.Bool.{true, and-eq-true_iff}
use mathlib.Core.List.{List, [], ◌∷◌, ◌++◌}
use mathlib.Core.Path.{◌≡◌}
use Rattle.model.specs.Claims.{type_in}
use Rattle.model.specs.Runs.{Event, Family, asks, allowed, allowed_at, confined, family_after, family_over, founder, happens, harmless_at, after}
use Rattle.confinement.proofs.Confinement
use Rattle.promises.specs.Promises.{An-accepted-claim-confines, Whatever-has-happened-a-member-does-no-harm}

pub an-accepted-claim-confines : An-accepted-claim-confines
an-accepted-claim-confines = Confinement.an-accepted-claim-confines

-- ---- the last event of a run

allowed-last : (run : List Event) (e : Event) (t : List ℕ) (F : Family)
    → allowed t F run ≡ true
    → allowed_at (after t run) (family_over t F run) e ≡ true
    → allowed t F (run ++ e ∷ []) ≡ true
unfolding allowed after family_over
allowed-last [] e t F a last = rw last
allowed-last (first ∷ run) e t F a last =
    let h = simp and-eq-true_iff at a in
    rw h.0 (allowed-last run e (happens t first).after (family_after t F first) h.1 last)

harmless-last : (w : List ℕ) (run : List Event) (e : Event) (t : List ℕ) (F : Family)
    → confined w t F (run ++ e ∷ []) ≡ true
    → harmless_at (type_in w) (after t run) (family_over t F run) e ≡ true
unfolding confined after family_over
harmless-last w [] e t F h = (simp and-eq-true_iff at h).0.1
harmless-last w (first ∷ run) e t F h =
    harmless-last w run e (happens t first).after (family_after t F first) (simp and-eq-true_iff at h).1

pub whatever-has-happened-a-member-does-no-harm : Whatever-has-happened-a-member-does-no-harm
whatever-has-happened-a-member-does-no-harm t w run c call accepted allowed member =
    let F = family_over t (founder w) run in
    let longer = allowed-last run (asks c call) t (founder w) allowed (rw member) in
    rw member at (harmless-last w run (asks c call) t (founder w) (an-accepted-claim-confines t w (run ++ asks c call ∷ []) accepted longer))
