-- `slotset::bit::holds` meets its contract. Assumes nothing.
use mathlib.Core.Path.{sym, ap, ◌∙◌}
use Prim.Native.Nat.{ℕ, ◌%◌}
use lib.Dec.{eqb}
use lib.ListN.{get_or-eq_default}
use Rattle.paper.specs.Bits.{bit_of}
use Rattle.paper.proofs.Bits.{bit-none}
use Rattle.slotset.specs.Slots.{slot}
use Rattle.slotset.proofs.bit.holds.Goals as goal

pub returns-then-j-words : goal.returns-then-j-words
unfolding slot
returns-then-j-words c = c.bit.ensures

pub returns : goal.returns
unfolding slot
returns c =
    let x = c.args in
    sym (ap (λ (w : ℕ). eqb (bit_of w (x.k % 64)) 1) (get_or-eq_default x.words.now 0 c.if-j-words.false)
    ∙ ap (λ (b : ℕ). eqb b 1) (bit-none (x.k % 64)))
