-- `wayback::ways::remembered_refusal` meets its contract. Assumes nothing.
use Rattle.wayback.proofs.Searched.{remembered-uneven, remembered-unknown, remembered-away, remembered-right}
use Rattle.wayback.proofs.ways.remembered_refusal.Goals as goal

pub returns-then-uneven-units : goal.returns-then-uneven-units
returns-then-uneven-units c = remembered-uneven _ _ _ _ _ c.first_uneven-uneven.ensures c.if-uneven-units.true _ c.refusal_in.ensures

pub returns-then-first_unknown-slots : goal.returns-then-first_unknown-slots
returns-then-first_unknown-slots c =
    remembered-unknown _ _ _ _ _ c.first_uneven-uneven.ensures c.if-uneven-units.false
    c.first_unknown.ensures c.if-first_unknown-slots.true _ c.refusal_in-then-first_unknown-slots.ensures

pub returns-then-first_unavailable-slots : goal.returns-then-first_unavailable-slots
returns-then-first_unavailable-slots c =
    remembered-away _ _ _ _ _ c.first_uneven-uneven.ensures
    c.if-uneven-units.false c.first_unknown.ensures
    c.if-first_unknown-slots.false c.first_unavailable.ensures c.if-first_unavailable-slots.true _ c.refusal_in-then-first_unavailable-slots.ensures

pub returns : goal.returns
returns c =
    remembered-right _ _ _ _ _ c.first_uneven-uneven.ensures
    c.if-uneven-units.false c.first_unknown.ensures
    c.if-first_unknown-slots.false c.first_unavailable.ensures c.if-first_unavailable-slots.false _ c.accepted.ensures
