-- `slotset::SlotSet::put_stretch` meets its contract. Assumes nothing.
use borrow.Author.Rules.{rules}
use mathlib.Core.Path.{◌≡◌, sym, ◌∙◌}
use native.Mathlib.Omega.{arith}
use lib.ListN.{length}
use Rattle.slotset.specs.Answers.{stretch_of}
use Rattle.paper.proofs.Rows.{said}
use Rattle.slotset.proofs.Refusals.{stretch-says, changed-is, changed-refused}
use Rattle.slotset.proofs.SlotSet.put_stretch.Goals as goal

pub put_slots-requires : goal.put_slots-requires
put_slots-requires c =
    let k = c in
    let n : length k.args.self.words ≡ 16 = search rules in
    let r = stretch-says _ _ _ (sym (said _ k.stretch_refusal-number.ensures) ∙ k.if-number-eq0.true) in
    (omega (arith, n), λ h. omega (arith, r.0, r.1 h))

pub returns-then-number-eq0 : goal.returns-then-number-eq0
unfolding stretch_of
returns-then-number-eq0 c =
    let k = c in
    changed-is _ _ (said _ k.stretch_refusal-number.ensures) k.if-number-eq0.true _ _ _ _ c.put_slots.ensures

pub returns : goal.returns
unfolding stretch_of
returns c = changed-refused _ _ (said _ c.stretch_refusal-number.ensures) c.if-number-eq0.false _ _
