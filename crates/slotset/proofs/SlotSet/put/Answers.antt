-- `slotset::SlotSet::put` meets its contract. Assumes nothing.
use borrow.Author.Rules.{rules}
use mathlib.Core.Path.{◌≡◌, sym, ◌∙◌}
use native.Mathlib.Omega.{arith}
use lib.ListN.{length}
use Rattle.slotset.specs.Slots.{value_of}
use Rattle.slotset.specs.Answers.{put_of}
use Rattle.slotset.proofs.Puts.{puts_one}
use Rattle.paper.proofs.Rows.{said}
use Rattle.slotset.proofs.Refusals.{slot-says, changed-is, changed-refused}
use Rattle.slotset.proofs.SlotSet.put.Goals as goal

pub overflow_add-i : goal.overflow_add-i
overflow_add-i c =
    let k = c in
    let r = slot-says _ _ (sym (said _ k.slot_refusal-number.ensures) ∙ k.if-number-eq0.true) in
    omega (arith, r.0, r.1)

pub put_slots-requires : goal.put_slots-requires
put_slots-requires c =
    let k = c in
    let n : length k.args.self.words ≡ 16 = search rules in
    let r = slot-says _ _ (sym (said _ k.slot_refusal-number.ensures) ∙ k.if-number-eq0.true) in
    (omega (arith, n), λ h. omega (arith, r.0, r.1))

pub returns-then-number-eq0 : goal.returns-then-number-eq0
unfolding put_of
returns-then-number-eq0 c =
    let k = c in
    let a = k.args in
    changed-is _ _ (said _ k.slot_refusal-number.ensures) k.if-number-eq0.true _ _ _ _
    (c.put_slots.ensures ∙ puts_one (value_of a.want) 0 a.i a.self.words)

pub returns : goal.returns
unfolding put_of
returns c = changed-refused _ _ (said _ c.slot_refusal-number.ensures) c.if-number-eq0.false _ _
