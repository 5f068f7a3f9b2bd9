-- `owners::recounting::derived_refusal` meets its contract. Assumes nothing.
use Rattle.std.proofs.Common.{sym, ◌∙◌, arith}
use Rattle.owners.specs.Derived.{plan}
use Rattle.owners.proofs.RecountRefusals.{none-makes, made-lengths, right-sets, right-first, right-minutes, right-totals, first_below}
use Rattle.owners.proofs.RecountRefusals.{refusal-set, refusal-minutes, refusal-total, refusal-clean}
use Rattle.owners.proofs.recounting.derived_refusal.Goals as goal

pub rebuild-requires : goal.rebuild-requires
rebuild-requires c =
    let a = c.args in
    let p = c.requires in record {
      plan_sound = p.plan_sound;
      makes = none-makes (plan a.people a.slots a.starts.now a.ends.now) p.plan_sound a.owners.now a.sets.now a.minutes.now
          a.totals.now p.makes;
    }

pub returns-then-person-people : goal.returns-then-person-people
returns-then-person-people c =
    let a = c.args in
    let p = c.requires in
    let P = plan a.people a.slots a.starts.now a.ends.now in
    let e = c.rebuild.ensures in
    refusal-minutes _ _ _ _ (sym (right-sets P p.plan_sound _ _ _ _ p.makes _ _ _ e) ∙ sym c.sets_right.ensures ∙ c.if-sets_right.true) _
    (c.first_wrong_entry-person.ensures ∙ right-minutes P p.plan_sound _ _ _ _ p.makes _ _ _ e) c.if-person-people.true c.refusal_in.ensures

pub returns-then-total-lt2 : goal.returns-then-total-lt2
returns-then-total-lt2 c =
    let a = c.args in
    let p = c.requires in
    let P = plan a.people a.slots a.starts.now a.ends.now in
    let e = c.rebuild.ensures in
    refusal-total _ _ _ _ (sym (right-sets P p.plan_sound _ _ _ _ p.makes _ _ _ e) ∙ sym c.sets_right.ensures ∙ c.if-sets_right.true) _
    (c.first_wrong_entry-person.ensures ∙ right-minutes P p.plan_sound _ _ _ _ p.makes _ _ _ e) c.if-person-people.false _
    (c.first_wrong_entry-total.ensures ∙ right-totals P p.plan_sound _ _ _ _ p.makes _ _ _ e) c.if-total-lt2.true
    c.refusal_in-then-total-lt2.ensures

pub returns-then-sets_right : goal.returns-then-sets_right
returns-then-sets_right c =
    let a = c.args in
    let p = c.requires in
    let P = plan a.people a.slots a.starts.now a.ends.now in
    let e = c.rebuild.ensures in
    refusal-clean _ _ _ _ (sym (right-sets P p.plan_sound _ _ _ _ p.makes _ _ _ e) ∙ sym c.sets_right.ensures ∙ c.if-sets_right.true) _
    (c.first_wrong_entry-person.ensures ∙ right-minutes P p.plan_sound _ _ _ _ p.makes _ _ _ e) c.if-person-people.false _
    (c.first_wrong_entry-total.ensures ∙ right-totals P p.plan_sound _ _ _ _ p.makes _ _ _ e) c.if-total-lt2.false c.accepted.ensures

pub first_wrong_set-person-requires : goal.first_wrong_set-person-requires
first_wrong_set-person-requires c =
    let a = c.args in
    let p = c.requires in
    let P = plan a.people a.slots a.starts.now a.ends.now in
    let s = p.plan_sound in
    let l = made-lengths P s _ _ _ _ p.makes _ _ _ c.rebuild.ensures in record {
      le_people = (s.people-some, s.people-few, s.slots-few, p.makes.sets-room, omega (arith, l.0, s.people-few));
      slots_value = sym c.sets_right.ensures ∙ c.if-sets_right.false;
    }

pub first_wrong_slot-slot-requires : goal.first_wrong_slot-slot-requires
first_wrong_slot-slot-requires c =
    let a = c.args in
    let p = c.requires in
    first_below a.sets.now _ _ _ _ p.plan_sound.people-few c.first_wrong_set-person.ensures
    (sym c.sets_right.ensures ∙ c.if-sets_right.false)

pub returns : goal.returns
returns c =
    let a = c.args in
    let p = c.requires in
    let P = plan a.people a.slots a.starts.now a.ends.now in
    let e = c.rebuild.ensures in
    refusal-set _ _ _ _ _ _ (c.first_wrong_set-person.ensures ∙ right-first P p.plan_sound _ _ _ _ p.makes _ _ _ e)
    c.first_wrong_slot-slot.ensures
    (sym (right-sets P p.plan_sound _ _ _ _ p.makes _ _ _ e) ∙ sym c.sets_right.ensures ∙ c.if-sets_right.false) c.refusal_in-2.ensures
