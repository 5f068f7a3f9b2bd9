-- `slotset::word::wanted` meets its contract. Assumes nothing.
use mathlib.Core.Path.{ap, sym, ◌∙◌}
use native.Mathlib.Omega.{arith}
use Rattle.paper.proofs.Bits.{bit_not}
use Rattle.slotset.specs.Slots.{value_of}
use Rattle.slotset.proofs.word.wanted.Goals as goal

pub returns-then-want : goal.returns-then-want
returns-then-want c k h = let v = ap value_of c.if-want.true in (λ e. e ∙ sym v, λ e. e ∙ v)

pub returns-else-want : goal.returns-else-want
returns-else-want c k h =
    let v = ap value_of c.if-want.false in
    let n = bit_not 64 c.args.w k c.ranges.w.fits h in
    (λ e. omega (arith, v, n, e), λ e. omega (arith, v, n, e))
