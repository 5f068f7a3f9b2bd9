-- `units::masks::next_had` meets its contract. Assumes nothing.
use Rattle.units.proofs.Sets.{had-law}
use Rattle.units.proofs.masks.next_had.Goals as goal

pub returns : goal.returns
returns c =
    let pre = c.requires in
    had-law _ _ _ _ pre.0 _ _ _ pre.1 c.next_set.ensures c.found_or.ensures
