-- `owners::recounting::recount_refusal` meets its contract. Assumes nothing.
use Rattle.std.proofs.Common.{arith}
use Rattle.paper.proofs.Count.{all-each}
use Rattle.owners.specs.Recount.{known_at}
use Rattle.owners.proofs.Scans.{first_passes}
use Rattle.owners.proofs.RecountRefusals.{refusal-unknown, refusal-unavailable, refusal-uneven, refusal-derived}
use Rattle.owners.proofs.recounting.recount_refusal.Goals as goal

pub returns-then-unknown-slots : goal.returns-then-unknown-slots
returns-then-unknown-slots c = refusal-unknown _ _ _ _ _ _ _ _ c.first_unknown-unknown.ensures c.if-unknown-slots.true c.refusal_in.ensures

pub returns-then-unavailable-slots : goal.returns-then-unavailable-slots
returns-then-unavailable-slots c =
    let at-first-unknown = c.first_unknown-unknown in
    let at-if1 = c.if-unknown-slots in
    let at-first-unavailable = c.first_unavailable-unavailable in
    refusal-unavailable _ _ _ _ _ _ _ _ at-first-unknown.ensures at-if1.false _ at-first-unavailable.ensures
    c.if-unavailable-slots.true c.refusal_in-then-unavailable-slots.ensures

pub returns-then-uneven-units : goal.returns-then-uneven-units
returns-then-uneven-units c =
    let at-first-unknown = c.first_unknown-unknown in
    let at-if1 = c.if-unknown-slots in
    let at-first-unavailable = c.first_unavailable-unavailable in
    let at-if2 = c.if-unavailable-slots in
    let at-first-uneven = c.first_uneven-uneven in
    refusal-uneven _ _ _ _ _ _ _ _ at-first-unknown.ensures at-if1.false _ at-first-unavailable.ensures at-if2.false _
    at-first-uneven.ensures c.if-uneven-units.true c.refusal_in-then-uneven-units.ensures

pub derived_refusal-requires : goal.derived_refusal-requires
unfolding known_at
derived_refusal-requires c =
    let at_pre = c.requires in
    let at-args = c.args in
    let at-first-unknown = c.first_unknown-unknown in
    let R = at_pre.rota_room in record {
      plan_sound = at_pre.plan_sound;
      makes = record {
        owners-room = R.owners-room;
        sets-room = R.sets-room;
        minutes-room = R.minutes-room;
        totals-room = R.totals-room;
        known = λ k h.
            all-each _ _ (first_passes at-args.slots (known_at at-args.people at-args.owners.now)
            (omega (arith, at-first-unknown.ensures))) k h;
      };
    }

pub returns : goal.returns
returns c =
    let at-first-unknown = c.first_unknown-unknown in
    let at-if1 = c.if-unknown-slots in
    let at-first-unavailable = c.first_unavailable-unavailable in
    let at-if2 = c.if-unavailable-slots in
    let at-first-uneven = c.first_uneven-uneven in
    refusal-derived _ _ _ _ _ _ _ _ at-first-unknown.ensures at-if1.false _ at-first-unavailable.ensures at-if2.false _
    at-first-uneven.ensures c.if-uneven-units.false c.derived_refusal.ensures
