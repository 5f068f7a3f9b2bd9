-- `targets::passes::some_below_zero` meets its contract. Assumes nothing.
use Rattle.std.proofs.Common.{◌∙◌, rules, tests}
use Rattle.std.proofs.lemmas.Iterator.{YieldsList-from_slice}
use Rattle.std.proofs.lemmas.Iterator.Search.{any_from_yields_List}
use Rattle.targets.specs.Passes.{below_zero}
use Rattle.targets.proofs.Each.{any-some}
use Rattle.targets.proofs.passes.some_below_zero.Goals as goal

pub returns : goal.returns
returns c =
    any_from_yields_List (below_zero c.args.n c.args.sum) _ _ _ c.any.ensures.ran (YieldsList-from_slice c.args.standings cc)
    (λ l b q k. search (rules, tests))
    ∙ any-some (below_zero c.args.n c.args.sum) c.args.standings
