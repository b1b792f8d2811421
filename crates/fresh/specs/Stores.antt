-- Not to be believed: the stores by which fresh tables are built over a row of zeros. proofs/Built.antt shows what they come to.
-- Assumes nothing.
use Rattle.std.specs.Prelude.{ℕ, ◌+◌, List, [], ◌∷◌, eqb, replicate, set}
use Rattle.model.specs.Numbers.{INHERIT-PARENT, FIRST-PROCESS, ROOT, ROOT-TYPE, ROOT-INITIAL, ROOT-FORCED}
use Rattle.model.specs.Layout.{MARK, DEFAULTS, role_addr, kept_addr}
use Rattle.model.specs.Words.{put}
use Rattle.model.specs.Records.{flag, put_process, put_file}
use Rattle.model.specs.Fresh.{first_process, root_dir}

-- a role over zeros: the mark, which role 0 has, and the four default types that inherit; the IPC type stays 0
abbrev pub put_fresh_role : List ℕ → ℕ → List ℕ
put_fresh_role t n = put (set t (role_addr n + MARK) (flag (eqb n 0))) (role_addr n + DEFAULTS) (replicate 4 INHERIT-PARENT)

-- process 0, the root, and what is kept for the root
unfoldable pub put_first : List ℕ → List ℕ
put_first t =
    put (put_file (put_process t FIRST-PROCESS first_process) ROOT root_dir) (kept_addr ROOT) (ROOT-TYPE ∷ ROOT-INITIAL ∷ ROOT-FORCED ∷ [])
