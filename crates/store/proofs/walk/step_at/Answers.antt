-- `store::walk::step_at` meets its contract. Assumes nothing.
use mathlib.Core.Path.{sym, ◌∙◌}
use native.Mathlib.Omega.{arith}
use Rattle.records.proofs.Mixed.{head-none}
use Rattle.store.proofs.Right.{headed, headed-room, right_is, right-not, right-other, step_right, step-not}
use Rattle.store.proofs.walk.step_at.Goals as goal

pub record_right-requires : goal.record_right-requires
record_right-requires c = headed _ _ _ _ (sym c.head_at.ensures ∙ c.in-Whole.is)

pub overflow_add-result : goal.overflow_add-result
overflow_add-result c = omega (arith, headed-room _ _ _ _ (headed _ _ _ _ (sym c.head_at.ensures ∙ c.in-Whole.is)))

pub returns-in-Whole : goal.returns-in-Whole
returns-in-Whole c =
    let H = headed _ _ _ _ (sym c.head_at.ensures ∙ c.in-Whole.is) in
    step_right _ _ _ (right_is _ _ H.whole (sym c.record_right.ensures ∙ c.if-record_right.true)) H.size_is

pub returns-in_default : goal.returns-in_default
returns-in_default c =
    let H = headed _ _ _ _ (sym c.head_at.ensures ∙ c.in-Whole.is) in
    step-not _ _ (right-other _ _ H.whole (sym c.record_right.ensures ∙ c.if-record_right.false))

pub returns-in_default-2 : goal.returns-in_default-2
returns-in_default-2 c = step-not _ _ (right-not _ _ (head-none _ _ (sym c.head_at.ensures ∙ c.in_default.is)))
