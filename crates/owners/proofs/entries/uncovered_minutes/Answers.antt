-- `owners::entries::uncovered_minutes` meets its contract. Assumes nothing.
use Rattle.std.proofs.Common.{sym, ◌∙◌}
use Rattle.paper.proofs.Rows.{said}
use Rattle.slotset.proofs.Refusals.{answer-is, answer-refused}
use Rattle.owners.specs.Derived.{plan, uncovered}
use Rattle.owners.specs.Entries.{uncovered_is}
use Rattle.owners.proofs.Entered.{uncovered-says}
use Rattle.owners.proofs.entries.uncovered_minutes.Goals as goal

pub worked_by-requires : goal.worked_by-requires
worked_by-requires c =
    let x = c.args in
    let whole = uncovered-says (plan x.people x.slots x.starts.now x.ends.now) x.owners.now
    (sym (said _ c.uncovered_refusal-n.ensures) ∙ c.if-n-eq0.true) in
    record { plan_sound = whole.0; slots_in_bounds = whole.1 }

pub returns-then-n-eq0 : goal.returns-then-n-eq0
unfolding uncovered_is uncovered
returns-then-n-eq0 c = answer-is _ _ (said _ c.uncovered_refusal-n.ensures) c.if-n-eq0.true _ _ c.worked_by.ensures

pub returns : goal.returns
unfolding uncovered_is
returns c = answer-refused _ _ (said _ c.uncovered_refusal-n.ensures) c.if-n-eq0.false _
