-- `owners::recounting::recounted` meets its contract. Assumes nothing.
use Rattle.owners.specs.Derived.{plan, derived}
use Rattle.owners.proofs.Entered.{front-right, row_on, row-stops}
use Rattle.owners.proofs.recounting.recounted.Goals as goal

pub recount_refusal-requires : goal.recount_refusal-requires
recount_refusal-requires c =
    let x = c.args in
    let g = front-right (plan x.people x.slots x.starts.now x.ends.now) x.avail.now x.units x.begins.now
    x.owners.now (derived x.sets.now x.minutes.now x.totals.now) _ _ _ _ c.lent_refusal-f.ensures c.check_units-g.ensures
    c.if-g-eq0.true in
    record { plan_sound = g.sound; rota_room = g.room }

pub returns-then-g-eq0 : goal.returns-then-g-eq0
returns-then-g-eq0 c =
    row_on _ _ _ _ _ _ _ _ _ _ c.lent_refusal-f.ensures c.check_units-g.ensures _ c.if-g-eq0.true
    c.recount_refusal.ensures

pub returns : goal.returns
returns c =
    row-stops _ _ _ _ _ _ _ _ _ _ c.lent_refusal-f.ensures c.check_units-g.ensures
    c.if-g-eq0.false
