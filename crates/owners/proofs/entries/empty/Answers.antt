-- `owners::entries::empty` meets its contract. Assumes nothing.
use Rattle.std.proofs.Common.{length, sym, ap, ◌∙◌}
use Rattle.paper.proofs.Rows.{said}
use Rattle.paper.proofs.Count.{length-fill}
use Rattle.owners.specs.Derived.{plan, derived}
use Rattle.owners.proofs.Steps.{lengths-kept}
use Rattle.owners.proofs.Entered.{empty-asks, emptied-refused, emptied-yes}
use Rattle.owners.proofs.entries.empty.Goals as goal

pub rebuild-requires : goal.rebuild-requires
rebuild-requires c =
    let at-args = c.args in
    let A = empty-asks (plan at-args.people at-args.slots at-args.starts.now at-args.ends.now) at-args.owners.now
    (derived at-args.sets.now at-args.minutes.now at-args.totals.now) (sym (said _ c.empty_refusal-n.ensures)
    ∙ c.if-n-eq0.true) _
    c.fill_owners.ensures in
    record { plan_sound = A.0; makes = A.1 }

pub shape_of-owners-then-n-eq0 : goal.shape_of-owners-then-n-eq0
shape_of-owners-then-n-eq0 c =
    ap length c.fill_owners.ensures ∙ length-fill _ _ _ _

pub shape_of-sets-then-n-eq0 : goal.shape_of-sets-then-n-eq0
shape_of-sets-then-n-eq0 c = (lengths-kept _ _ _ _ c.rebuild.ensures).0

pub shape_of-minutes-then-n-eq0 : goal.shape_of-minutes-then-n-eq0
shape_of-minutes-then-n-eq0 c = (lengths-kept _ _ _ _ c.rebuild.ensures).1

pub shape_of-totals-then-n-eq0 : goal.shape_of-totals-then-n-eq0
shape_of-totals-then-n-eq0 c = (lengths-kept _ _ _ _ c.rebuild.ensures).2

pub returns-then-n-eq0 : goal.returns-then-n-eq0
returns-then-n-eq0 c =
    let at-args = c.args in
    emptied-yes (plan at-args.people at-args.slots at-args.starts.now at-args.ends.now) at-args.owners.now
    (derived at-args.sets.now at-args.minutes.now at-args.totals.now) _ (said _ c.empty_refusal-n.ensures) _ _ c.if-n-eq0.true
    c.fill_owners.ensures c.rebuild.ensures

pub returns : goal.returns
returns c =
    let at-args = c.args in
    emptied-refused (plan at-args.people at-args.slots at-args.starts.now at-args.ends.now) at-args.owners.now
    (derived at-args.sets.now at-args.minutes.now at-args.totals.now) _ (said _ c.empty_refusal-n.ensures) c.if-n-eq0.false
