-- `slotset::one::run_bounds` meets its contract. Assumes nothing.
use mathlib.Core.Path.{sym, ap, ◌∙◌}
use native.Mathlib.Omega.{arith}
use Rattle.paper.proofs.Rows.{said}
use Rattle.slotset.specs.Slots.{slot, value_of}
use Rattle.slotset.proofs.Puts.{slot_lt}
use Rattle.slotset.proofs.Refusals.{set_says, answer-is, answer-refused}
use Rattle.slotset.proofs.Runs.{has_value, answers-outside}
use Rattle.slotset.proofs.Skips.{held-is}
use Rattle.slotset.proofs.one.run_bounds.Goals as goal

pub contains-want-requires : goal.contains-want-requires
contains-want-requires c = set_says _ _ (sym (said _ c.set_refusal-number.ensures) ∙ c.if-number-eq0.true)

pub start_around-first-requires : goal.start_around-first-requires
start_around-first-requires c =
    let k = c in
    let r = set_says _ _ (sym (said _ k.set_refusal-number.ensures) ∙ k.if-number-eq0.true) in
    (r.0, omega (arith, r.1, k.if-i-len.true))

pub end_around-requires : goal.end_around-requires
end_around-requires c =
    let k = c in
    let n = k in
    let a = n.args in
    let h = k.if-i-len.true in
    let r = set_says _ _ (sym (said _ n.set_refusal-number.ensures) ∙ n.if-number-eq0.true) in (
      r.0,
      r.1,
      h,
      sym (ap value_of k.contains-want.ensures ∙ has_value (slot a.words.now 0) (slot_lt a.words.now 0) a.len a.i h),
    )

pub returns-then-i-len : goal.returns-then-i-len
returns-then-i-len c =
    let e = c in
    let s = e in
    let k = s in
    let n = k in
    let a = n.args in
    answer-is _ _ (said _ n.set_refusal-number.ensures) n.if-number-eq0.true _ _
    (c.held_by.ensures
    ∙ held-is (slot a.words.now 0) (slot_lt a.words.now 0) a.len a.i _ _ _ k.if-i-len.true k.contains-want.ensures
    s.start_around-first.ensures e.end_around.ensures)

pub returns-then-number-eq0 : goal.returns-then-number-eq0
returns-then-number-eq0 c =
    let n = c in
    answer-is _ _ (said _ n.set_refusal-number.ensures) n.if-number-eq0.true _ _ (sym (answers-outside _ _ _ c.if-i-len.false))

pub returns : goal.returns
returns c = answer-refused _ _ (said _ c.set_refusal-number.ensures) c.if-number-eq0.false _
