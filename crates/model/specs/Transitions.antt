-- What becomes of a record (rules 2 to 22), on records by value: H1, H2, H3 and H8 decide where the paper leaves a choice.
-- Assumes nothing.
use Rattle.std.specs.Prelude.{ℕ, true, cond, eqb}
use Rattle.model.specs.declared.Initial.{Initial}
use Rattle.model.specs.declared.Forced.{Forced}
use Rattle.model.specs.declared.Process.{Process}
use Rattle.model.specs.declared.File.{File}
use Rattle.model.specs.declared.Role.{Role}
use Rattle.model.specs.declared.Kind.{Kind}
use Rattle.model.specs.Numbers.{INHERIT-PARENT, USE-NEW-ROLE-DEF-CREATE}

-- ---- types

-- rules 8 and 10: the default type, and the type that the process has where that is inherit parent
unfoldable pub default_or : ℕ → ℕ → ℕ
default_or default present = cond (eqb default INHERIT-PARENT) present default

-- rule 13: use new role def create takes the create type of the new role, by H2 in the same way
unfoldable pub chown_type : ℕ → ℕ → ℕ → ℕ
chown_type chown create present = default_or (cond (eqb chown USE-NEW-ROLE-DEF-CREATE) create chown) present

-- ---- roles; inherit parent is never an effective value, and a process never has it

-- rule 20: the role that a forced value gives at execute
abbrev pub forced_role : Forced → ℕ → ℕ → ℕ
forced_role (Forced.Plain r) owner_role present = r
forced_role Forced.InheritParent owner_role present = present
forced_role Forced.InheritUser owner_role present = owner_role
forced_role Forced.InheritProcess owner_role present = present
forced_role Forced.UpMixed owner_role present = present

-- rule 18: a plain initial role, or else what rule 20 gives
abbrev pub initial_role : Initial → ℕ → ℕ
initial_role (Initial.Plain r) by_forced = r
initial_role Initial.InheritParent by_forced = by_forced
initial_role Initial.UseForcedRole by_forced = by_forced

-- rule 22: the role that a process's forced value gives when its owner changes
abbrev pub chown_role : Forced → ℕ → ℕ → ℕ
chown_role (Forced.Plain r) owner_role present = r
chown_role Forced.InheritParent owner_role present = owner_role
chown_role Forced.InheritUser owner_role present = owner_role
chown_role Forced.InheritProcess owner_role present = present
chown_role Forced.UpMixed owner_role present = owner_role

-- ---- processes

-- rules 2 and 8, H1: the child of a clone
unfoldable pub cloned : Role → Process → Process
cloned own me =
    record {
      live = true;
      owner = me.owner;
      role = me.role;
      rctype = default_or own.processcreate me.rctype;
      forced = me.forced;
    }

-- rules 10, 18, 20 and 21: the type goes by the role before, and the forced value is always copied
unfoldable pub executed : Role → ℕ → Initial → Forced → Process → Process
executed own owner_role initial forced me =
    record {
      live = true;
      owner = me.owner;
      role = initial_role initial (forced_role forced owner_role me.role);
      rctype = default_or own.execute me.rctype;
      forced = forced;
    }

-- rules 13 and 22: a new owner, the role that rule 22 gives, and that role's process create type
unfoldable pub chowned : Role → ℕ → ℕ → ℕ → Process → Process
chowned own user role create me =
    record { live = true; owner = user; role = role; rctype = chown_type own.chown create me.rctype; forced = me.forced }

-- rule 15, H3: the role alone changes
unfoldable pub with_role : ℕ → Process → Process
with_role role me =
    record { live = true; owner = me.owner; role = role; rctype = me.rctype; forced = me.forced }

-- ---- files

-- rule 6: a new file or directory; initial and forced inherit parent
unfoldable pub created : Role → Kind → ℕ → ℕ → File
created own kind parent depth =
    record {
      kind = kind;
      parent = parent;
      depth = depth;
      rctype = own.filecreate;
      initial = Initial.InheritParent;
      forced = Forced.InheritParent;
    }
