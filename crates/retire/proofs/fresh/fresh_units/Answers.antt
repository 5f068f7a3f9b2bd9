-- `retire::fresh::fresh_units` meets its contract. Assumes nothing.
use borrow.Author.Rules.{rules}
use Rattle.retire.proofs.News.{units-are}
use Rattle.retire.proofs.fresh.fresh_units.Goals as goal

pub returns : goal.returns
returns c =
    let pre = c.requires in
    units-are _ _ _ _ _ pre.0 pre.1 pre.2 (search rules) _ _ _ c.unit_starts.ensures c.unwrap_or-count.ensures
