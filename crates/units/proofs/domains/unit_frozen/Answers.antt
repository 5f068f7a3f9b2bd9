-- `units::domains::unit_frozen` meets its contract. Assumes nothing.
use mathlib.Core.Path.{sym, ap, ◌∙◌}
use Rattle.paper.specs.Rows.{unless, answer_as}
use Rattle.units.specs.Domains.{unit_frozen_is}
use Rattle.units.proofs.Sets.{frozen-says, frozen-by}
use mathlib.Core.Bool.{true, false, not}
use Rattle.paper.proofs.Rows.{said}
use Rattle.slotset.proofs.Refusals.{answer-is, answer-refused}
use Rattle.units.proofs.domains.unit_frozen.Goals as goal

pub returns-then-clear : goal.returns-then-clear
unfolding unit_frozen_is answer_as unless
returns-then-clear c =
    let n = said _ c.unit_frozen_refusal-n.ensures in
    let z = c.if-n-eq0.true in
    let h = frozen-says _ _ _ _ _ (sym n ∙ z) in
    let from = c.start_of.ensures in
    let b = frozen-by _ _ _ _ _ _ _ _ h from c.unit_end.ensures c.clear.ensures in
    answer-is _ _ n z false _ (sym (b ∙ ap not c.if-clear.true))

pub returns-else-clear : goal.returns-else-clear
unfolding unit_frozen_is answer_as unless
returns-else-clear c =
    let n = said _ c.unit_frozen_refusal-n.ensures in
    let z = c.if-n-eq0.true in
    let h = frozen-says _ _ _ _ _ (sym n ∙ z) in
    let from = c.start_of.ensures in
    let b = frozen-by _ _ _ _ _ _ _ _ h from c.unit_end.ensures c.clear.ensures in
    answer-is _ _ n z true _ (sym (b ∙ ap not c.if-clear.false))

pub returns-else-n-eq0 : goal.returns-else-n-eq0
unfolding unit_frozen_is
returns-else-n-eq0 c = answer-refused _ _ (said _ c.unit_frozen_refusal-n.ensures) c.if-n-eq0.false _
