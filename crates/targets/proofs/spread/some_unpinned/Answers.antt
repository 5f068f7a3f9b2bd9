-- `targets::spread::some_unpinned` meets its contract. Assumes nothing.
use Rattle.std.proofs.Common.{◌∙◌, rules, tests}
use Rattle.std.proofs.lemmas.Iterator.{YieldsList-from_slice}
use Rattle.std.proofs.lemmas.Iterator.Search.{any_from_yields_List}
use Rattle.targets.specs.SecondEdition.{unpinned}
use Rattle.targets.proofs.Each.{any-some}
use Rattle.targets.proofs.spread.some_unpinned.Goals as goal

pub returns : goal.returns
returns c =
    any_from_yields_List unpinned _ _ _ c.any.ensures.ran (YieldsList-from_slice c.args.standings cc) (λ l b q k. search (rules, tests))
    ∙ any-some unpinned c.args.standings
