-- `slotset::word::ones_below` meets its contract. Assumes nothing.
use mathlib.Core.Path.{◌≡◌, sym, ap, ◌∙◌}
use native.Mathlib.Nat.{mod-eq_of_lt}
use native.Mathlib.Omega.{arith}
use mir.Facts.{Fits-le, Fits-lit}
use lib.Count.{ones, ones-le}
use lib.Pow.{pow_pos}
use Rattle.slotset.specs.Inside.{ones_below}
use Rattle.slotset.proofs.Words.{ones-mod, ones-masked, one_shl, bits-le}
use Rattle.slotset.proofs.word.ones_below.Goals as goal

pub overflow_sub-result : goal.overflow_sub-result
overflow_sub-result c = omega (arith, one_shl c.args.k c.if-k-lt64.true, pow_pos c.args.k)

pub overflow_cast-result : goal.overflow_cast-result
overflow_cast-result c =
    let a = c.args in
    rw (ones-masked a.w a.k c.if-k-lt64.true) (Fits-le (bits-le a.w a.k) (Fits-le c.requires (Fits-lit tt)))

pub overflow_cast-result-else-k-lt64 : goal.overflow_cast-result-else-k-lt64
overflow_cast-result-else-k-lt64 c = Fits-le (ones-le 64 _ c.ranges.w.fits) (Fits-lit tt)

pub returns-then-k-lt64 : goal.returns-then-k-lt64
returns-then-k-lt64 c =
    let a = c.args in
    let e = ones-masked a.w a.k c.if-k-lt64.true in
    (e, omega (arith, e, bits-le a.w a.k))

pub returns-else-k-lt64 : goal.returns-else-k-lt64
returns-else-k-lt64 c =
    let a = c.args in
    let small = c.ranges.w.fits in
    let e : 64 ≡ a.k = omega arith in (
      ap ones (sym (mod-eq_of_lt small)) ∙ ones-mod a.w 64 ∙ ap (ones_below a.w) e,
      omega (arith, ones-le 64 a.w small),
    )
