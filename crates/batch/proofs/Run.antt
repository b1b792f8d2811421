-- What an item leaves is what its call leaves, and what is no call leaves all as it was: so the items one after the other are a run of their calls.
-- Assumes nothing.
use Prim.Native.Nat.{ℕ, zero, suc}
use mathlib.Core.Bool.{true}
use mathlib.Core.List.{List, [], ◌∷◌, ◌++◌}
use mathlib.Core.Path.{◌∙◌, ◌≡◌, ap, refl, sym}
use Rattle.model.specs.WellFormed.{well_formed}
use Rattle.model.specs.Runs.{Event, after, happens}
use Rattle.std.specs.Prelude.{Option, Some, None}
use Rattle.model.specs.declared.Call.{Call}
use Rattle.kinds.specs.ByKind.{written}
use Rattle.batch.specs.declared.items.Item.{Item}
use Rattle.batch.specs.Items.{call_in, made}
use Rattle.batch.specs.Batch.{item_at, items, tables_after}
use Rattle.batch.specs.Promises.{A-batch-keeps-the-tables-well-formed, A-granted-batch-is-a-run, asked, asked_by, said_by}
use Rattle.batch.proofs.Laws.{batch-granted, batch-number, either_way, tables-kept}
use Rattle.batch.proofs.OneByOne.{unknown-stays}

after_both : (run more : List Event) (t : List ℕ) → after t (run ++ more) ≡ after (after t run) more
unfolding after
after_both [] more t = refl
after_both (e ∷ run) more t = after_both run more (happens t e).after

after-written : (t : List ℕ) (caller : ℕ) (what : Option Call) → (written t caller what).after ≡ after t (said_by caller what)
unfolding after
after-written t caller None = (unknown-stays t caller).0
after-written t caller (Some call) = refl

after-item : (t : List ℕ) (i : Option Item) → (made t i).after ≡ after t (asked_by i)
unfolding made call_in after
after-item t None = (unknown-stays t 0).0
after-item t (Some i) = after-written t i.caller (call_in (Some i))

tables-run : (t q : List ℕ) (k : ℕ) → tables_after t q k ≡ after t (asked q k)
unfolding tables_after asked after
tables-run t q zero = refl
tables-run t q (suc k) =
    ap (λ (u : List ℕ). (made u (item_at q k)).after) (tables-run t q k)
    ∙ after-item (after t (asked q k)) (item_at q k)
    ∙ sym (after_both (asked q k) (asked_by (item_at q k)) t)

pub a-granted-batch-is-a-run : A-granted-batch-is-a-run
a-granted-batch-is-a-run t q s g = rw (batch-granted t q s (sym (batch-number t q s) ∙ g)) (tables-run t q (items q))

pub a-batch-keeps-the-tables-well-formed : A-batch-keeps-the-tables-well-formed
a-batch-keeps-the-tables-well-formed t q s w =
    either_way t q s (λ b. well_formed b.tables ≡ true) (λ h. w) (λ e. tables-kept t q (items q) w)
