-- What stands from the address on is copied over zeros; past the end of the row zeros are left.
use Rattle.std.proofs.Common.{arith}
use Rattle.tables.proofs.Laws.{copied, none-at}
use Rattle.tables.proofs.records.rights_row.Goals as goal

pub returns-in-Some : goal.returns-in-Some
returns-in-Some c =
    let part = c.in-Some.ensures.lookup.0 in
    rw (← c.rights_addr.ensures) (copied _ _ _ _ _ 32 part.2 c.min-n.ensures c.copy_from_slice.ensures.after)

pub returns-in_default : goal.returns-in_default
returns-in_default c =
    let a = c.rights_addr in
    rw (← a.ensures) (none-at _ a.result 32 (omega (arith, c.in_default.ensures.lookup.0)))
