-- `owners::recounting::recount_slots` meets its contract. Assumes nothing.
use Rattle.std.proofs.Common.{sym, ◌∙◌}
use Rattle.paper.proofs.Rows.{said}
use Rattle.owners.specs.Derived.{plan, derived}
use Rattle.owners.proofs.Entered.{lent-row-right, slots-on, slots-stop}
use Rattle.owners.proofs.recounting.recount_slots.Goals as goal

pub recount_refusal-requires : goal.recount_refusal-requires
recount_refusal-requires c =
    let x = c.args in
    let g = lent-row-right _ _ (plan x.people x.slots x.starts.now x.ends.now) x.avail.now x.owners.now
    (derived x.sets.now x.minutes.now x.totals.now) (sym (said _ c.lent_refusal-f.ensures) ∙ c.if-f-eq0.true) in
    record { plan_sound = g.sound; rota_room = g.room }

pub returns-then-f-eq0 : goal.returns-then-f-eq0
returns-then-f-eq0 c =
    slots-on _ _ _ _ _ c.lent_refusal-f.ensures _ _ c.if-f-eq0.true c.recount_refusal.ensures

pub returns : goal.returns
returns c = slots-stop _ _ _ _ _ c.lent_refusal-f.ensures c.if-f-eq0.false
