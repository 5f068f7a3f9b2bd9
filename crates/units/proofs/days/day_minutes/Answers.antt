-- `units::days::day_minutes` meets its contract. Assumes nothing.
use Rattle.units.proofs.Covered.{day-divides, day-least, day-more}
use Rattle.units.proofs.days.day_minutes.Goals as goal

pub nonzero_div-minutes : goal.nonzero_div-minutes
nonzero_div-minutes c =
    let pre = c.requires in
    day-divides _ _ _ pre.0 pre.1 _ _ c.demand_of.ensures c.count_dates-days.ensures

pub returns-then-minutes-eq0 : goal.returns-then-minutes-eq0
returns-then-minutes-eq0 c =
    let pre = c.requires in
    day-least _ _ _ pre.0 pre.1 _ _ c.demand_of.ensures c.count_dates-days.ensures c.if-minutes-eq0.true

pub returns : goal.returns
returns c =
    let pre = c.requires in
    day-more _ _ _ pre.0 pre.1 _ _ c.demand_of.ensures c.count_dates-days.ensures c.if-minutes-eq0.false
