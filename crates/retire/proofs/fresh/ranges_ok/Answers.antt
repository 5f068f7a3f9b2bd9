-- `retire::fresh::ranges_ok` meets its contract. Assumes nothing.
use mathlib.Core.Path.{◌∙◌}
use borrow.Author.Rules.{rules}
use Rattle.retire.proofs.News.{ranges-by, says-people}
use Rattle.retire.proofs.fresh.ranges_ok.Goals as goal

pub returns : goal.returns
returns c =
    let pre = c.requires in
    c.is_ok.ensures.value
    ∙ ranges-by _ _ _ _ _ (says-people _ pre.1 pre.0) pre.2 pre.3 (search rules) (search rules) (search rules) _ c.merged_ranges.ensures.said
