-- No more than at the start: what roles may do on a row u is within what they may do on a row t. Marks and default types are the same; sets of
-- roles and of rights may have lost members, since time may take rights away while a claim holds, and what is taken away adds no harm.
-- Assumes nothing.
use Prim.Native.Nat.{ℕ, ◌<◌}
use mathlib.Core.Path.{◌≡◌, sym, ◌∙◌}
use mathlib.Core.Bool.{true}
use mathlib.Core.List.{List}
use Rattle.sets.specs.Sets.{has}
use Rattle.model.specs.declared.Role.{Role}
use Rattle.model.specs.Numbers.{GROUPS, ROLES, USERS, TYPES}
use Rattle.model.specs.Records.{role_at, user_role, has_right}
use Rattle.model.specs.Policy.{SamePolicy}

-- role b has no more than role a
pub record Fewer (a b : Role) : Type 0 where
  pub compatible : (i : ℕ) → has b.compatible.bits i ≡ true → has a.compatible.bits i ≡ true
  pub admin : (i : ℕ) → has b.admin.bits i ≡ true → has a.admin.bits i ≡ true
  pub assign : (i : ℕ) → has b.assign.bits i ≡ true → has a.assign.bits i ≡ true
  pub mark : b.mark ≡ a.mark
  pub filecreate : b.filecreate ≡ a.filecreate
  pub processcreate : b.processcreate ≡ a.processcreate
  pub execute : b.execute ≡ a.execute
  pub chown : b.chown ≡ a.chown

pub record NoMore (t u : List ℕ) : Type 0 where
  pub roles : (r : ℕ) → r < ROLES → Fewer (role_at t r) (role_at u r)
  pub users : (i : ℕ) → i < USERS → user_role u i ≡ user_role t i
  pub rights : (g r k right : ℕ) → g < GROUPS → r < ROLES → k < TYPES → has_right u g r k right ≡ true → has_right t g r k right ≡ true

pub fewer-same : (a b : Role) → b ≡ a → Fewer a b
fewer-same a b e =
    record {
      compatible = λ i h. rw e at h;
      admin = λ i h. rw e at h;
      assign = λ i h. rw e at h;
      mark = rw e;
      filecreate = rw e;
      processcreate = rw e;
      execute = rw e;
      chown = rw e;
    }

fewer-on : (a b c : Role) → Fewer a b → Fewer b c → Fewer a c
fewer-on a b c x y =
    record {
      compatible = λ i h. x.compatible i (y.compatible i h);
      admin = λ i h. x.admin i (y.admin i h);
      assign = λ i h. x.assign i (y.assign i h);
      mark = y.mark ∙ x.mark;
      filecreate = y.filecreate ∙ x.filecreate;
      processcreate = y.processcreate ∙ x.processcreate;
      execute = y.execute ∙ x.execute;
      chown = y.chown ∙ x.chown;
    }

pub no-more-same : (t u : List ℕ) → SamePolicy t u → NoMore t u
no-more-same t u s =
    record { roles = λ r l. fewer-same _ _ (s.roles r l); users = s.users; rights = λ g r k right gl rl kl h. sym (s.rights g r k right gl rl kl) ∙ h }

pub no-more-on : (t u x : List ℕ) → NoMore t u → NoMore u x → NoMore t x
no-more-on t u x a b =
    record {
      roles = λ r l. fewer-on _ _ _ (a.roles r l) (b.roles r l);
      users = λ i l. b.users i l ∙ a.users i l;
      rights = λ g r k right gl rl kl h. a.rights g r k right gl rl kl (b.rights g r k right gl rl kl h);
    }
