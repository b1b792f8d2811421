-- The calls that write a process, granted. An outsider's touches no member's record: a clone takes a free place, and the others write the caller's
-- own. A member's leaves a process within the bounds.
-- Assumes nothing.
use Prim.Native.Nat.{ℕ, ◌<◌}
use mathlib.Core.Path.{◌≡◌, refl, sym, ◌∙◌}
use mathlib.Core.Bool.{true, ◌&&◌, true≢false}
use mathlib.Core.List.{List}
use mathlib.Core.Logic.{inl, inr, ⊎_elim}
use native.Mathlib.Omega.{arith}
use native.Mathlib.Decide.{ℕ_discrete}
use lib.Dec.{eqb}
use Rattle.sets.proofs.Below.{which}
use Rattle.sets.proofs.Sets.{has-bound}
use Rattle.model.specs.declared.Process.{Process}
use Rattle.model.specs.Numbers.{FILESYSTEM, PROCESS, USERS, EXECUTE, CHANGE-OWNER, FILES}
use Rattle.model.specs.Layout.{KEPT-TYPE}
use Rattle.model.specs.Records.{process_at, put_process, kept_at, user_role, free_place, occupied}
use Rattle.model.specs.Outcome.{granting}
use Rattle.model.specs.Transitions.{chown_role, cloned, executed, chowned, with_role}
use Rattle.model.specs.Calls.{own_role, clone_no, clone_row, exit_no, exit_row, execute_no, execute_row, change_owner_no, role_under, change_owner_row, change_role_no, change_role_row}
use Rattle.model.specs.Claims.{S}
use Rattle.model.specs.Runs.{joins, leaves, Family, other}
use Rattle.model.proofs.Records.{file-occupied, free-place}
use Rattle.model.proofs.KeptValues.{kept-type-range}
use Rattle.model.proofs.Decided.{tested}
use Rattle.model.proofs.Granted.{Caller, clone-granted, execute-granted}
use Rattle.model.proofs.Formed.{WellFormed}
use Rattle.model.proofs.Kept.{clone-kept, exit-kept, execute-kept, change-owner-kept, change-role-kept}
use Rattle.confinement.proofs.Callers.{process, own-role, own-right}
use Rattle.confinement.proofs.Claim.{Accepted, startable-by}
use Rattle.confinement.proofs.Invariant.{Within, Invariant}
use Rattle.confinement.proofs.Processes.{cloned-within, executed-within, role-within, chowned-within}
use Rattle.confinement.proofs.Steps.{Good}
use Rattle.confinement.proofs.Writes.{put-process}

module _ (t₀ w : List ℕ) (claim : Accepted t₀ w) (t : List ℕ) (F : Family) (inv : Invariant t₀ w t F) (c : ℕ) (me : Caller t c) where
  -- ---- clone: a member's child joins the family at a free place, where no member is

  pub clone-good : clone_no t c ≡ 0 → Good t₀ w t F c joins (granting (free_place t PROCESS) (clone_row t c))
  unfolding clone_row cloned
  clone-good e =
      let h = (clone-granted t c).0 e in
      let z = free_place t PROCESS in (
        put-process t₀ w t F inv z (cloned (own_role t c) (process_at t c)) _ h.room (clone-kept t inv.formed c me e)
            (λ q g. ⊎_elim
            (λ f. inl ((λ s. true≢false (sym (inv.members q f).live ∙ rw s (free-place t PROCESS h.room))), f))
            (λ b.
            let x = simp tested at b in
            inr (x.1, refl, rw (own-role t₀ w t F inv c me).processcreate (cloned-within t₀ w claim (process_at t c) (inv.members c x.0.0).within)))
            (which (F q) (F c && true && eqb q z) g)),
        λ f. refl,
      )

  -- ---- exit: the caller is no member any more

  pub exit-good : exit_no c ≡ 0 → Good t₀ w t F c leaves (granting 0 (exit_row t c))
  unfolding exit_row
  exit-good e =
      (put-process t₀ w t F inv c _ _ me.placed (exit-kept t inv.formed c me e) (λ q g. let x = simp tested at g in inl (x.1, x.0)), λ f. refl)

  -- ---- calls that write the caller's own record

  own_put : (r : Process) → r.live ≡ true → WellFormed (put_process t c r) → (F c ≡ true → Within t₀ w r)
      → Good t₀ w t F c other (granting 0 (put_process t c r))
  own_put r live formed within = (
    put-process t₀ w t F inv c r F me.placed formed
        (λ q f. elim (ℕ_discrete q c) [ yes e ↦ inr (e, live, within (rw e at f)) | no n ↦ inl (n, f) ]),
    λ f. refl,
  )

  -- the file's anchor is startable
  pub execute-good : (f : ℕ) → f < FILES → execute_no t c f ≡ 0 → Good t₀ w t F c other (granting 0 (execute_row t c f))
  unfolding execute_row executed
  execute-good f l e =
      let h = (execute-granted t c f).0 e in
      let used : occupied t FILESYSTEM f ≡ true = rw (file-occupied t f, h.file) in
      own_put _ refl (execute-kept t inv.formed c me f l e) (λ m.
      let mine = (inv.members c m).within in
      let a = inv.anchors f l used in
      let s = startable-by t₀ w a.at _ _ mine.role a.rctype (own-right t₀ w t F inv c me FILESYSTEM (kept_at t KEPT-TYPE f) EXECUTE (omega arith) (kept-type-range t inv.formed f l used) h.right) in
      let owner = inv.policy.users (process_at t c).owner (process t₀ w t F inv c me).owner in
      rw ((own-role t₀ w t F inv c me).execute, owner, a.initial, a.forced)
      (executed-within t₀ w claim (process_at t c) mine a.at a.placed a.used s))

  role_under_lem : (u : ℕ) → u < USERS → role_under t c u ≡ chown_role (process_at t c).forced (user_role t₀ u) (process_at t c).role
  unfolding role_under
  role_under_lem u l = rw (inv.policy.users u l)

  pub change-owner-good : (u : ℕ) → u < USERS → change_owner_no t c ≡ 0 → Good t₀ w t F c other (granting 0 (change_owner_row t c u))
  unfolding change_owner_no change_owner_row chowned
  change-owner-good u l e =
      own_put _ refl (change-owner-kept t inv.formed c me u l) (λ m.
      let may = own-right t₀ w t F inv c me PROCESS (process_at t c).rctype CHANGE-OWNER (omega arith) (process t₀ w t F inv c me).rctype (simp tested at e) in
      let within = chowned-within t₀ w claim (process_at t c) (inv.members c m).within (process t₀ w t F inv c me) u l may in
      let r = chown_role (process_at t c).forced (user_role t₀ u) (process_at t c).role in
      rw ((own-role t₀ w t F inv c me).chown, role_under_lem u l, (inv.policy.roles r (has-bound (S w) r within.role)).processcreate) within)

  pub change-role-good : (r : ℕ) → change_role_no t c r ≡ 0 → Good t₀ w t F c other (granting 0 (change_role_row t c r))
  unfolding change_role_no change_role_row with_role
  change-role-good r e =
      let h = simp tested at e in
      own_put _ refl (change-role-kept t inv.formed c me r (has-bound _ r h))
      (λ m. role-within t₀ w claim (process_at t c) (inv.members c m).within r ((own-role t₀ w t F inv c me).compatible r h))
