-- `slotset::SlotSet::prev_unset_before` meets its contract. Assumes nothing.
use borrow.Author.Rules.{rules}
use mathlib.Core.Path.{◌≡◌, sym, ◌∙◌}
use native.Mathlib.Omega.{arith}
use lib.ListN.{length}
use Rattle.paper.proofs.Rows.{said}
use Rattle.slotset.proofs.Refusals.{len-says, answer-is, answer-refused}
use Rattle.slotset.proofs.SlotSet.prev_unset_before.Goals as goal

pub last_below-requires : goal.last_below-requires
last_below-requires c =
    let k = c in
    let n : length k.args.self.words ≡ 16 = search rules in
    (omega (arith, n), len-says _ (sym (said _ k.len_refusal-number.ensures) ∙ k.if-number-eq0.true))

pub returns-then-number-eq0 : goal.returns-then-number-eq0
returns-then-number-eq0 c =
    let k = c in
    answer-is _ _ (said _ k.len_refusal-number.ensures) k.if-number-eq0.true _ _ c.last_below.ensures

pub returns : goal.returns
returns c = answer-refused _ _ (said _ c.len_refusal-number.ensures) c.if-number-eq0.false _
