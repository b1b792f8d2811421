-- Every call keeps the invariant, and a member's call is harmless. A granted call passed the tests of its own, so each process call is good; an
-- administration call is granted to nobody: not to an outsider by hypothesis, and not to a member by C2.
-- Assumes nothing.
use Prim.Native.Nat.{ℕ}
use mathlib.Core.Path.{◌≡◌, sym, ◌∙◌}
use mathlib.Core.Bool.{true, ◌||◌, or-false}
use mathlib.Core.List.{List}
use borrow.Author.Tests.{ltb-true}
use Rattle.model.specs.declared.Call.{Call}
use Rattle.model.specs.Numbers.{FILES, USERS, IPCS}
use Rattle.model.specs.Outcome.{granting}
use Rattle.model.specs.Step.{ruling, number, act, step}
use Rattle.model.specs.Runs.{deed, Family, unadministered}
use Rattle.model.proofs.Decided.{tested}
use Rattle.model.proofs.Granted.{Granted, granted-by, kind-ranged}
use Rattle.model.proofs.Formed.{test}
use Rattle.model.proofs.Kept.{step-act}
use Rattle.confinement.proofs.Administration.{no_change}
use Rattle.confinement.proofs.Claim.{Accepted}
use Rattle.confinement.proofs.Invariant.{Invariant}
use Rattle.confinement.proofs.ObjectCalls.{access-good, create-good, delete-good, create-ipc-good, delete-ipc-good}
use Rattle.confinement.proofs.ProcessCalls.{clone-good, exit-good, execute-good, change-owner-good, change-role-good}
use Rattle.confinement.proofs.Steps.{Good, by-grant}

module _ (t₀ w : List ℕ) (claim : Accepted t₀ w) (t : List ℕ) (F : Family) (inv : Invariant t₀ w t F) (c : ℕ) where
  grant-good : (call : Call) → Granted t c call → F c || unadministered (granting (ruling t c call).place (ruling t c call).row).answer (deed call) ≡ true
      → Good t₀ w t F c (deed call) (granting (ruling t c call).place (ruling t c call).row)
  unfolding ruling
  grant-good (Call.Access g o right) h a = let r = simp tested at h.ranged in access-good t₀ w claim t F inv c h.caller g o right r.0.1 h.ruled
  grant-good Call.Clone h a = clone-good t₀ w claim t F inv c h.caller h.ruled
  grant-good Call.Exit h a = exit-good t₀ w claim t F inv c h.caller h.ruled
  grant-good (Call.Execute f) h a = execute-good t₀ w claim t F inv c h.caller f (ltb-true f FILES h.ranged) h.ruled
  grant-good (Call.ChangeOwner u) h a = change-owner-good t₀ w claim t F inv c h.caller u (ltb-true u USERS h.ranged) h.ruled
  grant-good (Call.ChangeRole r) h a = change-role-good t₀ w claim t F inv c h.caller r h.ruled
  grant-good (Call.Create kind y) h a =
      let r = simp tested at h.ranged in create-good t₀ w claim t F inv c h.caller kind y ((kind-ranged kind).0 r.0) r.1 h.ruled
  grant-good (Call.Delete o) h a = delete-good t₀ w claim t F inv c h.caller o (ltb-true o FILES h.ranged) h.ruled
  grant-good Call.CreateIpc h a = create-ipc-good t₀ w claim t F inv c h.caller h.ruled
  grant-good (Call.DeleteIpc i) h a = delete-ipc-good t₀ w claim t F inv c h.caller i (ltb-true i IPCS h.ranged)
  grant-good (Call.Administer change) h a = absurd (no_change t₀ w claim t F inv c (sym (or-false (F c)) ∙ a) change h.ranged h.ruled)

  pub step-good : (call : Call) → F c || unadministered (step t c call).answer (deed call) ≡ true → Good t₀ w t F c (deed call) (step t c call)
  unfolding act
  step-good call =
      rw (step-act t c call (test t inv.formed))
      (by-grant t₀ w t F inv c (deed call) (number t c call) (ruling t c call).place (ruling t c call).row
      (λ e. grant-good call ((granted-by t c call).0 e)))
