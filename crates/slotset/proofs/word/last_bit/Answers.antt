-- `slotset::word::last_bit` meets its contract. Assumes nothing.
use borrow.Author.Rules.{rules}
use mathlib.Core.Path.{◌≡◌}
use Prim.Native.Nat.{◌-◌, ◌/◌, ◌^◌, ◌<◌}
use native.Mathlib.Nat.{lt_of_le_of_lt}
use native.Mathlib.Omega.{arith}
use mir.Facts.{Fits-le, Fits-lit}
use lib.Bits.{bit_and, and_le_l}
use lib.Count.{count_leading_zeros, leading_le, leading_length}
use Rattle.slotset.proofs.Words.{last-law}
use Rattle.slotset.proofs.word.last_bit.Goals as goal

pub overflow_cast-result : goal.overflow_cast-result
overflow_cast-result c = Fits-le (leading_le 64 _) (Fits-lit tt)

pub overflow_sub-result : goal.overflow_sub-result
overflow_sub-result c = leading_le 64 _

pub returns : goal.returns
returns c =
    let n = bit_and c.wanted.result ((2 ^ 64 - 1) / 2 ^ (63 - c.args.s)) in
    let small : c.wanted.result < 2 ^ 64 = search rules in
    let t = leading_length 64 n (lt_of_le_of_lt (and_le_l _ _) small) in
    let e : 64 - count_leading_zeros 64 n ≡ t.0 = omega (arith, t.1) in
    rw e (last-law _ _ _ _ _ c.wanted.ensures c.requires t.2 t.3)
