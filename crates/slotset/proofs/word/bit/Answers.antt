-- `slotset::word::bit` meets its contract. Assumes nothing.
use mathlib.Core.Path.{ap}
use Prim.Native.Nat.{ℕ, ◌/◌, ◌^◌}
use lib.Bits.{and_mask}
use lib.Dec.{eqb}
use Rattle.paper.specs.Bits.{bit_of}
use Rattle.slotset.proofs.word.bit.Goals as goal

pub returns : goal.returns
unfolding bit_of
returns c = ap (λ (x : ℕ). eqb x 1) (and_mask (c.args.w / 2 ^ c.args.k) 1)
