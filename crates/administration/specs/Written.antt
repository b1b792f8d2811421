-- Not to be believed: an administration call in the two steps that the code makes, first its words, then what is kept goes with them.
-- proofs/Along.antt puts them together again, and the contract speaks of the whole.
-- Assumes nothing.
use Rattle.std.specs.Prelude.{ℕ, zero, suc, ◌+◌, Bool, cond, not, List, [], ◌∷◌, eqb, set, Option, Some, None}
use Rattle.model.specs.declared.Change.{Change}
use Rattle.model.specs.Numbers.{FILESYSTEM}
use Rattle.model.specs.Layout.{INITIAL, KEPT-TYPE, KEPT-WORDS, file_addr}
use Rattle.model.specs.Words.{put}
use Rattle.model.specs.KeptValues.{revalued}
use Rattle.model.specs.Outcome.{Ruling, ruled}
use Rattle.model.specs.Administration.{program_roles_no, set_type_no, type_addr, ruling_on}
use Rattle.administration.specs.declared.FileValues.{FileValues}

-- the ruling on a change, with the words alone that it writes
unfoldable pub writing_on : List ℕ → ℕ → Change → Ruling
writing_on t c (Change.AddRole s r member) = ruling_on t c (Change.AddRole s r member)
writing_on t c (Change.RemoveRole s r member) = ruling_on t c (Change.RemoveRole s r member)
writing_on t c (Change.SetUserRole u r) = ruling_on t c (Change.SetUserRole u r)
writing_on t c (Change.SetProgramRoles f initial forced) = ruled (program_roles_no t c f initial forced) 0 (put t (file_addr f + INITIAL) (initial ∷ forced ∷ []))
writing_on t c (Change.SetProcessForced p v) = ruling_on t c (Change.SetProcessForced p v)
writing_on t c (Change.SetDefaultType which r v) = ruling_on t c (Change.SetDefaultType which r v)
writing_on t c (Change.SetRoleAdmin r mark) = ruling_on t c (Change.SetRoleAdmin r mark)
writing_on t c (Change.SetType g o v) = ruled (set_type_no t c g o v) 0 (set t (type_addr g o) v)
writing_on t c (Change.AddRight g r k right) = ruling_on t c (Change.AddRight g r k right)
writing_on t c (Change.RemoveRight g r k right) = ruling_on t c (Change.RemoveRight g r k right)

-- the values of a file that a change sets, if it sets any
unfoldable pub values_of : Change → Option FileValues
values_of (Change.AddRole s r member) = None
values_of (Change.RemoveRole s r member) = None
values_of (Change.SetUserRole u r) = None
values_of (Change.SetProgramRoles f initial forced) = Some (FileValues.Roles f)
values_of (Change.SetProcessForced p v) = None
values_of (Change.SetDefaultType which r v) = None
values_of (Change.SetRoleAdmin r mark) = None
values_of (Change.SetType g o v) = cond (eqb g FILESYSTEM) (Some (FileValues.Type o)) None
values_of (Change.AddRight g r k right) = None
values_of (Change.RemoveRight g r k right) = None

-- the file
abbrev pub file_of : FileValues → ℕ
file_of (FileValues.Type f) = f
file_of (FileValues.Roles f) = f

-- whether value k is among them
abbrev pub sets : FileValues → ℕ → Bool
sets (FileValues.Type f) k = eqb k KEPT-TYPE
sets (FileValues.Roles f) k = not (eqb k KEPT-TYPE)

-- of the values below n each that was set is kept anew, one after the other
unfoldable pub along_below : ℕ → List ℕ → FileValues → List ℕ
along_below zero u v = u
along_below (suc k) u v = cond (sets v k) (revalued (along_below k u v) k (file_of v)) (along_below k u v)

-- what is kept goes with them
abbrev pub along_with : List ℕ → Option FileValues → List ℕ
along_with u None = u
along_with u (Some v) = along_below KEPT-WORDS u v
