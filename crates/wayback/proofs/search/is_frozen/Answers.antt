-- `wayback::search::is_frozen` meets its contract. Assumes nothing.
use mathlib.Core.Path.{ap, ◌∙◌}
use native.Mathlib.Omega.{arith}
use Rattle.wayback.specs.Inside.{found_one}
use Rattle.wayback.proofs.Searched.{frozen-by}
use Rattle.wayback.proofs.search.is_frozen.Goals as goal

pub returns : goal.returns
returns c =
    let start = c.start_of-a.ensures in
    let end = c.unit_end-e.ensures in
    let pre = c.requires in
    let args = c.args in
    c.found_one.ensures ∙ ap found_one c.next_set.ensures
    ∙ frozen-by _ _ _ _ args.unit _ _ start end pre.slots_bound.2
    (omega (arith, end, pre.unit_room.within args.unit pre.slots_bound.2, pre.slots_bound.0)) pre.slots_bound.1
