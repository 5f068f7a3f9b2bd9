-- `owners::entries::from_slots` meets its contract. Assumes nothing.
use Rattle.std.proofs.Common.{sym, ◌∙◌}
use Rattle.paper.proofs.Rows.{said}
use Rattle.owners.specs.Derived.{plan, derived}
use Rattle.owners.proofs.Steps.{lengths-kept}
use Rattle.owners.proofs.Entered.{from-asks, from-refused, from-yes}
use Rattle.owners.proofs.entries.from_slots.Goals as goal

pub rebuild-requires : goal.rebuild-requires
rebuild-requires c =
    let a = c.args in
    let A = from-asks (plan a.people a.slots a.starts.now a.ends.now) a.avail.now a.owners.now
    (derived a.sets.now a.minutes.now a.totals.now) (sym (said _ c.from_slots_refusal-n.ensures) ∙ c.if-n-eq0.true) in
    record { plan_sound = A.0; makes = A.1 }

pub shape_of-sets-then-n-eq0 : goal.shape_of-sets-then-n-eq0
shape_of-sets-then-n-eq0 c = (lengths-kept _ _ _ _ c.rebuild.ensures).0

pub shape_of-minutes-then-n-eq0 : goal.shape_of-minutes-then-n-eq0
shape_of-minutes-then-n-eq0 c = (lengths-kept _ _ _ _ c.rebuild.ensures).1

pub shape_of-totals-then-n-eq0 : goal.shape_of-totals-then-n-eq0
shape_of-totals-then-n-eq0 c = (lengths-kept _ _ _ _ c.rebuild.ensures).2

pub returns-then-n-eq0 : goal.returns-then-n-eq0
returns-then-n-eq0 c =
    let a = c.args in
    from-yes (plan a.people a.slots a.starts.now a.ends.now) a.avail.now a.owners.now (derived a.sets.now a.minutes.now a.totals.now)
    _ (said _ c.from_slots_refusal-n.ensures) _ c.if-n-eq0.true c.rebuild.ensures

pub returns : goal.returns
returns c =
    let a = c.args in
    from-refused (plan a.people a.slots a.starts.now a.ends.now) a.avail.now a.owners.now (derived a.sets.now a.minutes.now a.totals.now)
    _ (said _ c.from_slots_refusal-n.ensures) c.if-n-eq0.false
