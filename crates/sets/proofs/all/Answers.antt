-- The library says of each number what the closure answered, or names one that it refused.
use Rattle.std.proofs.Common.{true, false, refl, rules, arith}
use Rattle.std.proofs.lemmas.Iterator.{cases_from_all, YieldsList-from_range}
use Rattle.sets.proofs.Walks.{all_from_cases}
use Rattle.sets.proofs.all.Goals as goal

pub returns : goal.returns
returns g c =
    let post = goal.F-post g c.args.passes in
    let d = cases_from_all _ c.args.passes c.all.result (λ x. post x true) (λ x. post x false)
    c.all.ensures.ran (YieldsList-from_range 0 c.args.n c.args.n refl (omega arith)) (λ x q k. (search rules, search rules)) (λ x q k. search rules) in
    λ p h. all_from_cases post c.args.n p c.all.result d h
