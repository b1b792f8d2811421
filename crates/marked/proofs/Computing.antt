-- How a run is computed. A call asks first whether the whole row is well formed, which is dear to compute; but fresh tables are well formed, and
-- each call keeps them so: on such tables a call is `act` alone. So the runs of the definition are rewritten by `computing` to `acting`, `acted`
-- and `answered`, and those are computed. All that they are made of stands on the line of `acting`: to unfold `acting` is to unfold it all.
-- A run that sets a value of a DIR is rewritten by `setting-values` too, call by call, since the sweeps of such a call are dear.
-- Assumes nothing.
use Prim.Native.Nat.{ℕ, ◌+◌}
use mathlib.Core.Path.{◌≡◌, refl, ap, ◌∙◌}
use mathlib.Core.Bool.{true}
use mathlib.Core.List.{List, [], ◌∷◌, ◌++◌, map}
use native.Mathlib.Omega.{arith}
use Rattle.sets.specs.Below.{all_below, some_below, first_below}
use Rattle.sets.specs.Sets.{has, added, removed, inside}
use Rattle.model.specs.declared.Call.{Call}
use Rattle.model.specs.declared.Change.{Change}
use Rattle.model.specs.declared.Answer.{Answer}
use Rattle.model.specs.Layout.{INITIAL, KEPT-INITIAL, KEPT-FORCED, file_addr}
use Rattle.model.specs.Words.{block, put}
use Rattle.model.specs.Records.{kind_of, initial_of, forced_of, process_at, put_process, put_file, file_word, kept_at, ipc_at, put_ipc, role_at, user_role, has_right, occupied, free_place}
use Rattle.model.specs.WellFormed.{well_formed}
use Rattle.model.specs.Outcome.{Outcome, decide}
use Rattle.model.specs.Effective.{root_value}
use Rattle.model.specs.KeptValues.{type_of, own_or_parents, settled, unkept, kept_anew, swept, sweeps, revalued}
use Rattle.model.specs.Transitions.{default_or, chown_type, cloned, executed, chowned, with_role, created}
use Rattle.model.specs.Calls.{own_role, may, access_no, clone_no, clone_row, exit_no, exit_row, execute_no, execute_row, change_owner_no, role_under, change_owner_row, change_role_no, change_role_row, create_no, create_row, not_child, childless, removable, delete_no, delete_row, create_ipc_no, create_ipc_row, delete_ipc_no, delete_ipc_row}
use Rattle.model.specs.Administration.{passes, change_set_no, change_set_row, set_user_role_no, set_user_role_row, modify_no, set_program_roles_row, set_process_forced_row, role_admin_no, set_default_type_row, set_role_admin_row, inherited, assigned_type, set_type_row, change_right_no, change_right_row, ruling_on}
use Rattle.model.specs.Step.{caller_no, ruling, number, act, step}
use Rattle.model.specs.Claims.{to_some, some_role_to, startable, carried, C1, assigns_nothing, powerless, C2, spares, C3, C4, C5, creates_inside, holds, C6, starts, C7, C8, C9, broken}
use Rattle.model.specs.Runs.{Event, asks, answers, after}
use Rattle.model.proofs.Kept.{kept, step-act}
use Rattle.model.proofs.FreshFormed.{fresh-formed}
use Rattle.marked.proofs.Brief.{briefly, revalued-briefly}

-- ---- what is computed

-- a call on tables that are well formed; its line names all that a call is made of
unfoldable pub acting : List ℕ → ℕ → Call → Outcome
unfolding
    act decide number caller_no ruling ruling_on
    access_no clone_no clone_row exit_no exit_row execute_no execute_row change_owner_no role_under change_owner_row change_role_no change_role_row
    create_no create_row not_child childless removable delete_no delete_row create_ipc_no create_ipc_row delete_ipc_no delete_ipc_row
    passes change_set_no change_set_row set_user_role_no set_user_role_row modify_no set_program_roles_row set_process_forced_row
    role_admin_no set_default_type_row set_role_admin_row inherited assigned_type set_type_row change_right_no change_right_row
    own_role may default_or chown_type cloned executed chowned with_role created
    root_value type_of own_or_parents settled unkept kept_anew swept sweeps revalued
    kind_of initial_of forced_of process_at put_process put_file file_word kept_at ipc_at put_ipc role_at user_role has_right occupied free_place
    block put all_below first_below has added removed
acting t c call = act t c call

-- a program's roles are set, where that is computed in brief
unfoldable pub setting : List ℕ → ℕ → ℕ → ℕ → ℕ → Outcome
unfolding acting briefly
setting t c f initial forced =
    decide t (number t c (Call.Administer (Change.SetProgramRoles f initial forced))) 0
    (briefly (briefly (put t (file_addr f + INITIAL) (initial ∷ forced ∷ [])) KEPT-INITIAL f) KEPT-FORCED f)

-- the row after a run from tables that are well formed
unfoldable pub acted : List ℕ → List Event → List ℕ
unfolding acting
acted t [] = t
acted t (asks c call ∷ rest) = acted (acting t c call).after rest

-- and the answers
unfoldable pub answered : List ℕ → List Event → List Answer
unfolding acting
answered t [] = []
answered t (asks c call ∷ rest) = (acting t c call).answer ∷ answered (acting t c call).after rest

-- the first rule that a claim breaks; its line names all that the rules are made of
unfoldable pub judged : List ℕ → List ℕ → ℕ
unfolding
    broken C1 C2 C3 C4 C5 C6 C7 C8 C9 assigns_nothing powerless spares creates_inside holds starts startable carried to_some some_role_to
    inside all_below some_below
judged t w = broken t w

-- ---- that it is what the definition says

module _ (t : List ℕ) (c : ℕ) (call : Call) where
  pub step-acting : well_formed t ≡ true → step t c call ≡ acting t c call
  unfolding acting
  step-acting w = step-act t c call w

  pub acting-ok : well_formed t ≡ true → well_formed (acting t c call).after ≡ true
  unfolding acting
  acting-ok w = kept t c call w

pub acted-ok : (t : List ℕ) (run : List Event) → well_formed t ≡ true → well_formed (acted t run) ≡ true
unfolding acted
acted-ok t [] w = w
acted-ok t (asks c call ∷ rest) w = acted-ok (acting t c call).after rest (acting-ok t c call w)

pub after-acted : (t : List ℕ) (run : List Event) → well_formed t ≡ true → after t run ≡ acted t run
unfolding after acted
after-acted t [] w = refl
after-acted t (asks c call ∷ rest) w = rw (step-acting t c call w) (after-acted (acting t c call).after rest (acting-ok t c call w))

pub answers-answered : (t : List ℕ) (run : List Event) → well_formed t ≡ true → answers t run ≡ answered t run
unfolding answers answered
answers-answered t [] w = refl
answers-answered t (asks c call ∷ rest) w =
    rw (step-acting t c call w) (ap (λ l. (acting t c call).answer ∷ l) (answers-answered (acting t c call).after rest (acting-ok t c call w)))

-- runs from fresh tables, and from tables that such a run leaves
pub ruleset computing = (step-acting, after-acted, answers-answered, acting-ok, acted-ok, fresh-formed)

-- ---- a run that sets values of DIRs, part by part and call by call

pub acted-on : (t : List ℕ) (run more : List Event) → acted t (run ++ more) ≡ acted (acted t run) more
unfolding acted
acted-on t [] more = refl
acted-on t (asks c call ∷ rest) more = acted-on (acting t c call).after rest more

pub acted-next : (t : List ℕ) (c : ℕ) (call : Call) (rest : List Event) → acted t (asks c call ∷ rest) ≡ acted (acting t c call).after rest
unfolding acted
acted-next t c call rest = refl

both-briefly : (s : List ℕ) (f : ℕ) → revalued (revalued s KEPT-INITIAL f) KEPT-FORCED f ≡ briefly (briefly s KEPT-INITIAL f) KEPT-FORCED f
both-briefly s f =
    revalued-briefly (revalued s KEPT-INITIAL f) KEPT-FORCED (omega arith) f
    ∙ ap (λ (u : List ℕ). briefly u KEPT-FORCED f) (revalued-briefly s KEPT-INITIAL (omega arith) f)

pub roles-set : (t : List ℕ) (c f initial forced : ℕ) → acting t c (Call.Administer (Change.SetProgramRoles f initial forced)) ≡ setting t c f initial forced
unfolding setting
roles-set t c f initial forced =
    ap (λ (u : List ℕ). decide t (number t c (Call.Administer (Change.SetProgramRoles f initial forced))) 0 u)
    (both-briefly (put t (file_addr f + INITIAL) (initial ∷ forced ∷ [])) f)

-- what `computing` leaves of such a run is rewritten by these before it is computed
pub ruleset setting-values = (acted-on, acted-next, roles-set)

-- ---- words that the examples use

-- process c makes an administration call
abbrev pub administers : ℕ → Change → Event
administers c change = asks c (Call.Administer change)

-- the numbers that a run is answered
abbrev pub numbers : List ℕ → List Event → List ℕ
numbers t run = map (λ a. a.number) (answers t run)
