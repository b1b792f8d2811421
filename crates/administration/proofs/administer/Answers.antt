-- The words that are written, and then what is kept of them.
-- Assumes nothing.
use Rattle.std.proofs.Common.{◌≡◌, sym, Err, arith}
use Rattle.administration.proofs.Along.{refused_whole, kept_along}
use Rattle.administration.proofs.administer.Goals as goal

pub returns-in_err-place : goal.returns-in_err-place
returns-in_err-place c =
    let e : c.from_residual.result ≡ Err c.in_err-place.field-0.0 = grind arith in
    rw e (refused_whole _ _ _ _ _ _ c.write.ensures c.in_err-place.was)

pub returns : goal.returns
returns c = kept_along _ _ _ _ _ _ _ c.write.ensures c.in_ok-place.was c.keep_values.ensures
