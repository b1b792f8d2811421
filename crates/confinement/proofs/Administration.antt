-- No member is granted an administration call: by C2 its role has no mark, administers and assigns no role, and has ASSIGN to no type, so that
-- every test of rules 23 to 34 fails.
-- Assumes nothing.
use Prim.Native.Nat.{ℕ, ◌≤◌, ◌<◌}
use mathlib.Core.Path.{◌≡◌, sym, ◌∙◌}
use mathlib.Core.Bool.{Bool, true, false, true≢false, false≢true, ◌&&◌}
use mathlib.Core.List.{List}
use mathlib.Core.Logic.{◌≢◌, ⊎_elim}
use native.Mathlib.Nat.{le_of_lt}
use native.Mathlib.Omega.{arith}
use borrow.Author.Tests.{eqb-true, eqb-false, leb-true, ltb-true}
use lib.Dec.{eqb}
use Rattle.sets.specs.Sets.{has}
use Rattle.sets.proofs.Sets.{empty-has}
use Rattle.model.specs.declared.Change.{Change}
use Rattle.model.specs.Numbers.{GROUPS, FILES, TYPES, INHERIT-PARENT, ASSIGN, places, COMPATIBLE-ROLES, FILESYSTEM, PROCESS, ROOT-TYPE, is_root}
use Rattle.model.specs.Layout.{KEPT-TYPE, PARENT}
use Rattle.model.specs.Ranges.{ok_type_in, ranged_change}
use Rattle.model.specs.Records.{process_at, file_word, kept_at, role_at}
use Rattle.model.specs.Calls.{own_role, may}
use Rattle.model.specs.Administration.{passes, may_assign, may_admin, inherited, assigned_type, change_set_no, set_user_role_no, modify_no, change_right_no, right_needed, ruling_on, role_admin_no}
use Rattle.model.specs.Claims.{S}
use Rattle.model.specs.Runs.{Family}
use Rattle.model.proofs.Records.{by_cond, by-group}
use Rattle.model.proofs.KeptValues.{kept-type-range}
use Rattle.model.proofs.Decided.{tested}
use Rattle.model.proofs.Granted.{passes-by, modify-granted}
use Rattle.model.proofs.Formed.{WellFormed, parent_dir, dir-occupied}
use Rattle.confinement.proofs.Callers.{own-role, own-right, member, member-role}
use Rattle.confinement.proofs.Claim.{Accepted}
use Rattle.confinement.proofs.Invariant.{Invariant}
use Rattle.confinement.proofs.Less.{Fewer}

-- ---- the type that set type asks ASSIGN for is one of the 32

module _ (t : List ℕ) (formed : WellFormed t) where
  inherited-plain : (o : ℕ) → o < FILES → inherited t o < TYPES
  unfolding inherited
  inherited-plain o l =
      by_cond (λ k. k < TYPES) (is_root o) ROOT-TYPE (kept_at t KEPT-TYPE (file_word t o PARENT)) (λ e. omega arith)
      (λ e. let p = parent_dir t formed.formed o l in kept-type-range t formed (file_word t o PARENT) p.0 (dir-occupied t (file_word t o PARENT) p.1))

  -- only a file may be asked to inherit
  assigned-plain : (g o v : ℕ) → g < GROUPS → o < places g → ok_type_in g v ≡ true → assigned_type t o v < TYPES
  unfolding assigned_type
  assigned-plain g o v l m k =
      by_cond (λ k. k < TYPES) (eqb v INHERIT-PARENT) (inherited t o) v
      (λ e. inherits g l m (rw (eqb-true v INHERIT-PARENT e) at k))
      (λ e. let n : v ≢ INHERIT-PARENT = eqb-false v INHERIT-PARENT e in let b : v ≤ INHERIT-PARENT = ranged g l k in omega arith)
    where
      inherits : (g : ℕ) → g < GROUPS → o < places g → ok_type_in g INHERIT-PARENT ≡ true → inherited t o < TYPES
      inherits = by-group (λ g. o < places g → ok_type_in g INHERIT-PARENT ≡ true → inherited t o < TYPES)
          (λ m k. inherited-plain o m) (λ m k. absurd (false≢true k)) (λ m k. absurd (false≢true k))

      ranged : (g : ℕ) → g < GROUPS → ok_type_in g v ≡ true → v ≤ INHERIT-PARENT
      ranged = by-group (λ g. ok_type_in g v ≡ true → v ≤ INHERIT-PARENT)
          (leb-true v INHERIT-PARENT) (λ k. le_of_lt (ltb-true v TYPES k)) (λ k. le_of_lt (ltb-true v TYPES k))

module _ (t₀ w : List ℕ) (claim : Accepted t₀ w) (t : List ℕ) (F : Family) (inv : Invariant t₀ w t F) (c : ℕ) (f : F c ≡ true) where
  -- ---- C2 of the caller's role

  role : has (S w) (process_at t c).role ≡ true
  role = member-role t₀ w t F inv c f

  own : Fewer (role_at t₀ (process_at t c).role) (own_role t c)
  own = own-role t₀ w t F inv c (member t₀ w t F inv c f)

  -- not marked: a test is passed by its own rule alone
  by-rule : (rule : Bool) → passes t c rule ≡ true → rule ≡ true
  by-rule rule e =
      ⊎_elim (λ m. absurd (true≢false (sym m ∙ own.mark ∙ claim.unmarked (process_at t c).role role))) (λ r. r) (passes-by t c rule e)

  no-assign : (r : ℕ) → may_assign t c r ≡ true → ⊥
  no-assign r e = true≢false (sym (own.assign r e) ∙ rw (claim.assigns_none (process_at t c).role role) (empty-has r))

  no-admin : (r : ℕ) → may_admin t c r ≡ true → ⊥
  no-admin r e = true≢false (sym (own.admin r e) ∙ rw (claim.administers_none (process_at t c).role role) (empty-has r))

  no-assign-to : (g k : ℕ) → g < GROUPS → k < TYPES → may t c g k ASSIGN ≡ true → ⊥
  no-assign-to g k l m e =
      true≢false (sym (own-right t₀ w t F inv c (member t₀ w t F inv c f) g k ASSIGN l m e) ∙ claim.assigns_no_type (process_at t c).role g k role l m)

  -- ---- tests that several changes share

  no-change-set : (s r m : ℕ) → passes t c (eqb s COMPATIBLE-ROLES && may_assign t c m && may_admin t c r) ≡ true → ⊥
  no-change-set s r m e = let x = simp tested at (by-rule _ e) in no-admin r x.1

  no-modify : (g o : ℕ) (rule : Bool) → (rule ≡ true → ⊥) → modify_no t c g o rule ≡ 0 → ⊥
  no-modify g o rule n e = let x = simp tested at (by-rule _ ((modify-granted t c g o rule).0 e).passed) in n x.0

  no-change-right : (g r k right : ℕ) → passes t c (may t c g k (right_needed right) && may_admin t c r) ≡ true → ⊥
  no-change-right g r k right e = let x = simp tested at (by-rule _ e) in no-admin r x.1

  -- ---- change by change

  pub no_change : (change : Change) → ranged_change change ≡ true → (ruling_on t c change).number ≡ 0 → ⊥
  unfolding ruling_on change_set_no set_user_role_no role_admin_no change_right_no
  no_change (Change.AddRole s r member) l e = no-change-set s r member (simp tested at e)
  no_change (Change.RemoveRole s r member) l e = no-change-set s r member (simp tested at e)
  no_change (Change.SetUserRole u r) l e = let x = simp tested at (by-rule _ (simp tested at e)) in no-assign r x.0
  no_change (Change.SetProgramRoles f initial forced) l e = no-modify FILESYSTEM f _ (λ both. let x = simp tested at both in no-assign initial x.0) e
  no_change (Change.SetProcessForced p v) l e = no-modify PROCESS p _ (no-assign v) e
  no_change (Change.SetDefaultType which r v) l e = false≢true (by-rule false (simp tested at e))
  no_change (Change.SetRoleAdmin r mark) l e = false≢true (by-rule false (simp tested at e))
  no_change (Change.SetType g o v) l e =
      let h = simp tested at l in
      no-modify g o _ (no-assign-to g (assigned_type t o v) h.0.0 (assigned-plain t inv.formed g o v h.0.0 h.0.1 h.1)) e
  no_change (Change.AddRight g r k right) l e = no-change-right g r k right (simp tested at e)
  no_change (Change.RemoveRight g r k right) l e = no-change-right g r k right (simp tested at e)
