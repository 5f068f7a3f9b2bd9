-- `rota::assignment::assign` meets its contract. Assumes nothing.
use mathlib.Core.Path.{sym, ◌∙◌}
use native.Mathlib.Omega.{arith}
use Rattle.paper.proofs.Rows.{said}
use Rattle.owners.specs.Derived.{plan, derived}
use Rattle.rota.proofs.Asked.{assign-asks, asks-one, asks-in-step, assigned-refused, assigned-yes}
use Rattle.rota.proofs.assignment.assign.Goals as goal

pub overflow_add-slot : goal.overflow_add-slot
overflow_add-slot c =
    let at-args = c.args in
    let at-assign-refused = c.assign_refusal-refusal in
    let at-if1 = c.if-refusal-eq0 in
    let A = assign-asks (plan at-args.people at-args.slots at-args.starts.now at-args.ends.now) at-args.avail.now at-args.owners.now (derived at-args.sets.now at-args.minutes.now at-args.totals.now) at-args.slot
    at-args.owner
    (sym (said _ at-assign-refused.ensures) ∙ at-if1.true) in
    omega (arith, A.slot, A.on.sound.slots-few)

pub hand_over-requires : goal.hand_over-requires
hand_over-requires c =
    let at-args = c.args in
    let at-assign-refused = c.assign_refusal-refusal in
    let at-if1 = c.if-refusal-eq0 in
    let A = assign-asks (plan at-args.people at-args.slots at-args.starts.now at-args.ends.now) at-args.avail.now at-args.owners.now (derived at-args.sets.now at-args.minutes.now at-args.totals.now) at-args.slot
    at-args.owner
    (sym (said _ at-assign-refused.ensures) ∙ at-if1.true) in record {
      plan_sound = A.on.sound;
      in_step = asks-in-step (plan at-args.people at-args.slots at-args.starts.now at-args.ends.now) at-args.avail.now at-args.owners.now (derived at-args.sets.now at-args.minutes.now at-args.totals.now)
          at-args.slot at-args.owner A;
      one_owner = asks-one (plan at-args.people at-args.slots at-args.starts.now at-args.ends.now) at-args.avail.now at-args.owners.now (derived at-args.sets.now at-args.minutes.now at-args.totals.now)
          at-args.slot at-args.owner A;
      to_value = A.known;
    }

pub returns-then-refusal-eq0 : goal.returns-then-refusal-eq0
returns-then-refusal-eq0 c =
    let at-args = c.args in
    let at-assign-refused = c.assign_refusal-refusal in
    let at-if1 = c.if-refusal-eq0 in
    let at-hand-over = c.hand_over in
    assigned-yes (plan at-args.people at-args.slots at-args.starts.now at-args.ends.now) at-args.avail.now
    at-args.owners.now (derived at-args.sets.now at-args.minutes.now at-args.totals.now) at-args.slot at-args.owner _
    at-assign-refused.ensures _ _ at-if1.true at-hand-over.ensures

pub returns : goal.returns
returns c =
    let at-args = c.args in
    let at-assign-refused = c.assign_refusal-refusal in
    assigned-refused (plan at-args.people at-args.slots at-args.starts.now at-args.ends.now) at-args.avail.now
    at-args.owners.now (derived at-args.sets.now at-args.minutes.now at-args.totals.now) at-args.slot at-args.owner _
    at-assign-refused.ensures c.if-refusal-eq0.false
