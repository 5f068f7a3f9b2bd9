-- `usable::rules::unit_at` meets its contract. Assumes nothing.
use Rattle.usable.proofs.Walks.{unit-behind}
use Rattle.usable.proofs.rules.unit_at.Goals as goal

pub returns : goal.returns
returns c =
    let p = c.requires in
    unit-behind _ _ _ _ _ _ p.by_unit p.k_lt_slots c.unit_end.ensures c.if-k-unit_end.false
