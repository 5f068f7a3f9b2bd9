-- `retire::asking::retire_refusal` meets its contract. Assumes nothing.
use native.Mathlib.Omega.{arith}
use Rattle.retire.proofs.Asks.{asked, new-right, gone-within, retire-all, retire-stops}
use Rattle.paper.proofs.Logic.{people-says, slot-count-says}
use Rattle.retire.proofs.asking.retire_refusal.Goals as goal

pub check_ranges-g-requires : goal.check_ranges-g-requires
check_ranges-g-requires c =
    let A = asked _ _ _ c.asked_refusal-f.ensures c.if-f-ne0.false in
    let p = people-says _ A.people-ok in
    (p.1, p.0, A.ranges-few, A.ranges-room)

pub check_fits-g-requires : goal.check_fits-g-requires
check_fits-g-requires c =
    let f = c.asked_refusal-f.ensures in
    let z = c.if-f-ne0.false in
    let A = asked _ _ _ f z in (
      omega (arith, c.saturating_sub-kept.ensures, (slot-count-says _ A.count-ok).1),
      new-right _ _ _ f z _ _ _ _ c.check_order-g.ensures c.check-g.ensures c.check_ranges-g.ensures,
    )

pub lifted_ok-requires : goal.lifted_ok-requires
lifted_ok-requires c =
    let f = c.asked_refusal-f.ensures in
    let z = c.if-f-ne0.false in (
      (people-says _ (asked _ _ _ f z).people-ok).1,
      gone-within _ _ _ f z _ c.recounted-later.ensures _ _ _ c.gone_units-went.ensures c.start_from-gone.ensures c.saturating_sub-kept.ensures,
    )

pub returns : goal.returns
returns c =
    retire-all _ _ _ c.asked_refusal-f.ensures c.if-f-ne0.false _ c.recounted-later.ensures _ _ _ c.gone_units-went.ensures
    c.start_from-gone.ensures c.saturating_sub-kept.ensures _ _ _ _ _ _ _ _ _ _ _ _ c.check_order-g.ensures c.comes_after.ensures
    c.check-g.ensures c.check_ranges-g.ensures c.check_fits-g.ensures c.figures_ok.ensures c.check-g-2.ensures
    c.lifted_ok.ensures c.check-g-3.ensures c.settings_ok.ensures c.check-g-4.ensures c.or_later.ensures.0
    c.or_later.ensures.1

pub returns-then-f-ne0 : goal.returns-then-f-ne0
returns-then-f-ne0 c = retire-stops _ _ _ c.asked_refusal-f.ensures c.if-f-ne0.true
