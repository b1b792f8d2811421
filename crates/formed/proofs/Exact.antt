-- The walk over the files, each together with what is kept for it, comes to the two walks of the definition.
-- Assumes nothing.
use Prim.Native.Nat.{ℕ}
use mathlib.Core.Path.{◌≡◌}
use mathlib.Core.Bool.{and-eq-true_iff}
use mathlib.Core.List.{List}
use borrow.Author.Tests.{eq-eqb}
use lib.ListN.{length, length-take}
use Rattle.sets.specs.Below.{all_below}
use Rattle.sets.proofs.Below.{all-at, all-and, same_truth}
use Rattle.model.specs.Numbers.{PROCESSES, FILES, IPCS, ROLES, USERS}
use Rattle.model.specs.Layout.{row_length}
use Rattle.model.specs.WellFormed.{process_ok, user_ok, role_ok, ipc_ok, file_ok, kept_ok, well_formed}
use Rattle.model.proofs.Formed.{Formed, facts}
use Rattle.model.proofs.KeptValues.{one-step-each}
use Rattle.fitting.specs.Steps.{step_ok}
use Rattle.formed.specs.Tables.{tables_ok}
use Rattle.formed.proofs.Whole.{full-take}

-- one walk comes to the two of the definition, once the other tests have passed
steps-kept : (t : List ℕ) → Formed t → all_below FILES (step_ok t) ≡ all_below FILES (kept_ok t)
unfolding step_ok
steps-kept t w = one-step-each t w

pub exact : (t : List ℕ) → length t ≡ row_length → tables_ok t ≡ well_formed t
unfolding tables_ok well_formed
exact t sized =
    same_truth (tables_ok t) (well_formed t)
    (λ e.
    let h = simp and-eq-true_iff at (rw (all-and (file_ok t) (step_ok t) FILES) at e) in
    let w : Formed t = record {
      sized = sized;
      processes = all-at (process_ok t) PROCESSES h.0.0.0.0.0.0;
      users = all-at (user_ok t) USERS h.0.0.0.0.0.1;
      roles = all-at (role_ok t) ROLES h.0.0.0.0.1;
      ipcs = all-at (ipc_ok t) IPCS h.0.0.0.1;
      files = all-at (file_ok t) FILES h.0.0.1.0;
      first = h.0.1;
      root = h.1;
    } in
    rw (eq-eqb _ row_length sized, h.0.0.0.0.0.0, h.0.0.0.0.0.1, h.0.0.0.0.1, h.0.0.0.1, h.0.0.1.0, ← steps-kept t w, h.0.0.1.1, h.0.1, h.1))
    (λ e.
    let h = simp and-eq-true_iff at e in
    rw (all-and (file_ok t) (step_ok t) FILES, steps-kept t (facts t e).formed, h.0.0.0.0.0.0.0.1, h.0.0.0.0.0.0.1, h.0.0.0.0.0.1, h.0.0.0.0.1, h.0.0.0.1, h.0.0.1, h.0.1, h.1))

-- a row of full length is its part of that length, and its tests are the definition's
pub ruleset lengths = (exact, full-take, length-take)
