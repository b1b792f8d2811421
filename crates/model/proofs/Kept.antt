-- A granted call keeps a well-formed row well formed, and a refused one leaves it: so does every call.
-- Each call puts a valid record or sets words in their range; which, its grant says.
-- Assumes nothing.
use Prim.Native.Nat.{ℕ, ◌+◌, ◌-◌, ◌<◌}
use mathlib.Core.Path.{◌≡◌, refl}
use mathlib.Core.Bool.{Bool, true, false, cond}
use mathlib.Core.List.{List}
use mathlib.Core.Logic.{◌≢◌, ◌⊎◌, ⊎_elim}
use native.Mathlib.Omega.{arith}
use borrow.Author.Tests.{lt-ltb, le-ltb, le-leb, ne_eqb, ltb-true}
use lib.Dec.{eqb}
use lib.ListN.{set}
use Rattle.model.specs.declared.Call.{Call}
use Rattle.model.specs.declared.Change.{Change}
use Rattle.model.specs.Numbers.{FILESYSTEM, DEFAULT-TYPES, DIR, FILE, FILES, FREE, GROUPS, IPC, IPCS, PROCESS, ROLE-SETS, ROLES, TYPES, USE-FORCED-ROLE, USERS, places}
use Rattle.model.specs.Layout.{DEFAULTS, KEPT-TYPE, KEPT-INITIAL, KEPT-FORCED, DEPTH, MARK, PROCESS-FORCED, PROCESS-TYPE}
use Rattle.model.specs.Ranges.{ok_default, ok_type_in, ranged, ranged_change}
use Rattle.model.specs.Records.{kind_word, kind_of, process_at, role_at, user_role, free_ipc, put_file, file_word, kept_at, occupied, free_place}
use Rattle.model.specs.WellFormed.{well_formed}
use Rattle.model.specs.KeptValues.{revalued}
use Rattle.model.specs.Transitions.{created}
use Rattle.model.specs.Calls.{own_role, clone_no, clone_row, exit_no, exit_row, execute_no, execute_row, role_under, change_owner_row, change_role_row, create_no, create_row, delete_no, delete_row, create_ipc_no, create_ipc_row, delete_ipc_row}
use Rattle.model.specs.Administration.{type_addr, change_set_row, set_user_role_row, set_program_roles_row, set_process_forced_row, set_default_type_row, set_role_admin_row, set_type_row, change_right_row, ruling_on}
use Rattle.model.specs.Step.{act, step, ruling}
use Rattle.model.proofs.Decided.{decided, tested}
use Rattle.model.proofs.Granted.{Caller, granted-by, clone-granted, execute-granted, create-granted, delete-granted, create-ipc-granted, modify-granted, kind-ranged}
use Rattle.model.proofs.Records.{by-group, file-occupied, free-place}
use Rattle.model.proofs.Formed.{Formed, WellFormed, facts, test, Live, Defaults, live-process, defaults, user-role, free-barren, removable-barren}
use Rattle.model.proofs.Transitions.{chown-role, cloned-live, executed-live, chowned-live, with-role-live}
use Rattle.model.proofs.Places.{put-live, put-free-process, put-ipc, put-created, put-free-file, set-process, set-ipc, set-role, set-user, set-right}
use Rattle.model.proofs.KeptValues.{kept-forced-range, put-settled, removed-unkept, revalued-formed, program-roles-formed}

-- a kind that may be asked for is no free place
pub kind-made : (kind : ℕ) → (kind ≡ FILE) ⊎ (kind ≡ DIR) → kind_word (kind_of kind) ≢ FREE
unfolding kind_of
kind-made kind k = ⊎_elim (λ e. rw e (omega arith)) (λ e. rw e (omega arith)) k

module _ (t : List ℕ) (w : WellFormed t) (c : ℕ) where
  -- ---- process calls, by a live caller

  module _ (me : Caller t c) where
    pub caller-live : Live (process_at t c)
    caller-live = live-process t w.formed c me.placed me.live

    pub own-defaults : Defaults (own_role t c)
    unfolding own_role
    own-defaults = defaults t w.formed (process_at t c).role caller-live.role

    pub clone-kept : clone_no t c ≡ 0 → WellFormed (clone_row t c)
    unfolding clone_row
    clone-kept e =
        put-live t w (free_place t PROCESS) _ ((clone-granted t c).0 e).room (cloned-live (own_role t c) (process_at t c) own-defaults caller-live)

    pub exit-kept : exit_no c ≡ 0 → WellFormed (exit_row t c)
    unfolding exit_row exit_no
    exit-kept e = put-free-process t w c me.placed (simp tested at e)

    pub execute-kept : (f : ℕ) → f < FILES → execute_no t c f ≡ 0 → WellFormed (execute_row t c f)
    unfolding execute_row
    execute-kept f l e =
        put-live t w c _ me.placed
        (executed-live (own_role t c) (process_at t c) own-defaults caller-live (user_role t (process_at t c).owner) (kept_at t KEPT-INITIAL f) (kept_at t KEPT-FORCED f)
        (user-role t w.formed (process_at t c).owner caller-live.owner) (kept-forced-range t w f l (rw (file-occupied t f, ((execute-granted t c f).0 e).file))))

    -- rule 22 gives a role
    pub role_under_lem : (u : ℕ) → u < USERS → role_under t c u < ROLES
    unfolding role_under
    role_under_lem u l =
        chown-role (λ v. v < ROLES) (process_at t c).forced (user_role t u) (process_at t c).role caller-live.named (λ b. b)
        (λ a b. user-role t w.formed u l) caller-live.role

    pub change-owner-kept : (u : ℕ) → u < USERS → WellFormed (change_owner_row t c u)
    unfolding change_owner_row
    change-owner-kept u l =
        let r = role_under_lem u l in
        put-live t w c _ me.placed
        (chowned-live (own_role t c) (process_at t c) own-defaults caller-live u (role_under t c u) (role_at t (role_under t c u)).processcreate
        l r (defaults t w.formed (role_under t c u) r).processcreate)

    pub change-role-kept : (r : ℕ) → r < ROLES → WellFormed (change_role_row t c r)
    unfolding change_role_row
    change-role-kept r l = put-live t w c _ me.placed (with-role-live r (process_at t c) l caller-live)

    -- the new file, before what is kept for it
    pub created-formed : (kind y : ℕ) → (kind ≡ FILE) ⊎ (kind ≡ DIR) → y < FILES → create_no t c y ≡ 0
        → Formed (put_file t (free_place t FILESYSTEM) (created (own_role t c) (kind_of kind) y (file_word t y DEPTH + 1)))
    created-formed kind y k l e =
        let g = (create-granted t c y).0 e in
        put-created t w.formed (free_place t FILESYSTEM) y (own_role t c) (kind_of kind) g.room (free-place t FILESYSTEM g.room) own-defaults
        (kind-made kind k) l g.dir g.depth

    pub create-kept : (kind y : ℕ) → (kind ≡ FILE) ⊎ (kind ≡ DIR) → y < FILES → create_no t c y ≡ 0 → WellFormed (create_row t c kind y)
    unfolding create_row
    create-kept kind y k l e =
        let room = ((create-granted t c y).0 e).room in
        put-settled t w (free_place t FILESYSTEM) _ room (free-barren t w.formed (free_place t FILESYSTEM) (free-place t FILESYSTEM room)).1
        (created-formed kind y k l e)

    pub create-ipc-kept : create_ipc_no t c ≡ 0 → WellFormed (create_ipc_row t c)
    unfolding create_ipc_row
    create-ipc-kept e =
        put-ipc t w (free_place t IPC) _ ((create-ipc-granted t c).0 e).room (lt-ltb (own_role t c).ipccreate TYPES own-defaults.ipccreate)

  pub delete-kept : (o : ℕ) → o < FILES → delete_no t c o ≡ 0 → WellFormed (delete_row t o)
  unfolding delete_row
  delete-kept o l e =
      let b = removable-barren t w.formed o ((delete-granted t c o).0 e).removable in
      removed-unkept t w o l b.1 (put-free-file t w.formed o l b.0 b.1)

  pub delete-ipc-kept : (i : ℕ) → i < IPCS → WellFormed (delete_ipc_row t i)
  unfolding delete_ipc_row
  delete-ipc-kept i l = put-ipc t w i free_ipc l refl

  -- ---- administration: a word in its range

  change-set-kept : (adding : Bool) (s r member : ℕ) → s < ROLE-SETS → r < ROLES → WellFormed (change_set_row adding t s r member)
  unfolding change_set_row
  change-set-kept adding s r member l m = set-role t w r s _ m (omega arith) (rw (lt-ltb s ROLE-SETS l))

  set-default-type-kept : (d r v : ℕ) → d < DEFAULT-TYPES → r < ROLES → ok_default d v ≡ true → WellFormed (set_default_type_row t d r v)
  unfolding set_default_type_row
  set-default-type-kept d r v l m h =
      let back : DEFAULTS + d - DEFAULTS ≡ d = omega arith in
      set-role t w r (DEFAULTS + d) v m (omega arith) (rw (le-ltb (DEFAULTS + d) ROLE-SETS (omega arith), ne_eqb (DEFAULTS + d) MARK (omega arith), back) h)

  set-type-kept : (g o v : ℕ) → g < GROUPS → o < places g → ok_type_in g v ≡ true → occupied t g o ≡ true → WellFormed (set_type_row t g o v)
  unfolding set_type_row
  set-type-kept g o v =
      by-group (λ g. o < places g → ok_type_in g v ≡ true → occupied t g o ≡ true → WellFormed (cond (eqb g FILESYSTEM) (revalued (set t (type_addr g o) v) KEPT-TYPE o) (set t (type_addr g o) v)))
      (λ l k q. revalued-formed t w KEPT-TYPE o v (omega arith) l q k)
      (λ l k q. set-process t w o PROCESS-TYPE v l q (omega arith) (omega arith) k)
      (λ l k q. set-ipc t w o v l q (ltb-true v TYPES k))
      g

  pub change-kept : (change : Change) → ranged_change change ≡ true → (ruling_on t c change).number ≡ 0 → WellFormed (ruling_on t c change).row
  unfolding ruling_on set_user_role_row set_program_roles_row set_process_forced_row set_role_admin_row change_right_row
  change-kept (Change.AddRole s r member) l e = let h = simp tested at l in change-set-kept true s r member h.0.0 h.0.1
  change-kept (Change.RemoveRole s r member) l e = let h = simp tested at l in change-set-kept false s r member h.0.0 h.0.1
  change-kept (Change.SetUserRole u r) l e = let h = simp tested at l in set-user t w u r h.0 h.1
  change-kept (Change.SetProgramRoles f initial forced) l e =
      let h = simp tested at l in
      program-roles-formed t f initial h.0.0 w ((modify-granted t c FILESYSTEM f _).0 e).used (le-leb initial USE-FORCED-ROLE h.0.1) forced h.1
  change-kept (Change.SetProcessForced p v) l e =
      let h = simp tested at l in
      set-process t w p PROCESS-FORCED v h.0 ((modify-granted t c PROCESS p _).0 e).used (omega arith) (omega arith) h.1
  change-kept (Change.SetDefaultType d r v) l e = let h = simp tested at l in set-default-type-kept d r v h.0.0 h.0.1 h.1
  change-kept (Change.SetRoleAdmin r mark) l e = let h = simp tested at l in set-role t w r MARK mark h.0 (omega arith) (le-leb mark 1 h.1)
  change-kept (Change.SetType g o v) l e =
      let h = simp tested at l in
      set-type-kept g o v h.0.0 h.0.1 h.1 ((modify-granted t c g o _).0 e).used
  change-kept (Change.AddRight g r k right) l e = let h = simp tested at l in set-right t w g r k _ h.0.0.0 h.0.0.1 h.0.1
  change-kept (Change.RemoveRight g r k right) l e = let h = simp tested at l in set-right t w g r k _ h.0.0.0 h.0.0.1 h.0.1

  -- ---- every call

  ruling-kept : (call : Call) → Caller t c → ranged call ≡ true → (ruling t c call).number ≡ 0 → WellFormed (ruling t c call).row
  unfolding ruling
  ruling-kept (Call.Access g o right) me l e = w
  ruling-kept Call.Clone me l e = clone-kept me e
  ruling-kept Call.Exit me l e = exit-kept me e
  ruling-kept (Call.Execute f) me l e = execute-kept me f (ltb-true f FILES l) e
  ruling-kept (Call.ChangeOwner u) me l e = change-owner-kept me u (ltb-true u USERS l)
  ruling-kept (Call.ChangeRole r) me l e = change-role-kept me r (ltb-true r ROLES l)
  ruling-kept (Call.Create kind y) me l e = let h = simp tested at l in create-kept me kind y ((kind-ranged kind).0 h.0) h.1 e
  ruling-kept (Call.Delete o) me l e = delete-kept o (ltb-true o FILES l) e
  ruling-kept Call.CreateIpc me l e = create-ipc-kept me e
  ruling-kept (Call.DeleteIpc i) me l e = delete-ipc-kept i (ltb-true i IPCS l)
  ruling-kept (Call.Administer change) me l e = change-kept change l e

pub act-kept : (t : List ℕ) → WellFormed t → (c : ℕ) (call : Call) → WellFormed (act t c call).after
unfolding act
act-kept t w c call =
    decided t _ _ _ WellFormed w (λ e. let g = (granted-by t c call).0 e in ruling-kept t w c call g.caller g.ranged g.ruled)

pub kept : (t : List ℕ) (c : ℕ) (call : Call) → well_formed t ≡ true → well_formed (act t c call).after ≡ true
kept t c call e = test _ (act-kept t (facts t e) c call)

-- on tables that are well formed the outer test says nothing
pub step-act : (t : List ℕ) (c : ℕ) (call : Call) → well_formed t ≡ true → step t c call ≡ act t c call
unfolding step act
step-act t c call e = rw e

pub step_kept : (t : List ℕ) (c : ℕ) (call : Call) → well_formed t ≡ true → well_formed (step t c call).after ≡ true
step_kept t c call e = rw (step-act t c call e) (kept t c call e)
