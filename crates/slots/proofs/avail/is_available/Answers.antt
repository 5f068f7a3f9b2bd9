-- `slots::avail::is_available` meets its contract. Assumes nothing.
use Rattle.paper.proofs.Rows.{said}
use Rattle.slots.proofs.AvailLaws.{available-refused, available-answered}
use Rattle.slots.proofs.avail.is_available.Goals as goal

pub returns-then-number-eq0 : goal.returns-then-number-eq0
returns-then-number-eq0 c =
    let available-refusal = c.available_refusal-number in
    available-answered _ _ _ _ _ _ (said _ available-refusal.ensures) c.if-number-eq0.true _ c.contains.ensures

pub returns : goal.returns
returns c = available-refused _ _ _ _ _ _ (said _ c.available_refusal-number.ensures) c.if-number-eq0.false
