-- `slotset::row::put_stretch` meets its contract. Assumes nothing.
use mathlib.Core.Path.{sym, ◌∙◌}
use native.Mathlib.Omega.{arith}
use Rattle.slotset.specs.Answers.{row_stretch_of}
use Rattle.paper.proofs.Rows.{said}
use Rattle.slotset.proofs.Refusals.{row-says, row-stretch-says, work-is, old-is}
use Rattle.slotset.proofs.row.put_stretch.Goals as goal

pub overflow_mul-person : goal.overflow_mul-person
overflow_mul-person c =
    let k = c in
    let r = row-says _ _ _ _ (row-stretch-says _ _ _ _ _ _ (sym (said _ k.row_stretch_refusal-number.ensures) ∙ k.if-number-eq0.true)).0 in
    omega (arith, r.few, r.known)

pub put_slots-requires : goal.put_slots-requires
put_slots-requires c =
    let k = c in
    let x = row-stretch-says _ _ _ _ _ _ (sym (said _ k.row_stretch_refusal-number.ensures) ∙ k.if-number-eq0.true) in
    let r = row-says _ _ _ _ x.0 in
    (r.words, λ h. omega (arith, r.short, x.1 h))

pub returns-then-number-eq0 : goal.returns-then-number-eq0
unfolding row_stretch_of
returns-then-number-eq0 c =
    let k = c in (
      sym k.if-number-eq0.true ∙ said _ k.row_stretch_refusal-number.ensures,
      work-is _ _ (said _ k.row_stretch_refusal-number.ensures) k.if-number-eq0.true _ _ _ c.put_slots.ensures,
    )

pub returns : goal.returns
unfolding row_stretch_of
returns c =
    (said _ c.row_stretch_refusal-number.ensures, old-is _ _ (said _ c.row_stretch_refusal-number.ensures) c.if-number-eq0.false _ _)
