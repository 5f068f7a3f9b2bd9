-- `slotset::scan::count_words` meets its contract. The invariant: n is the number of members below word j. Assumes nothing.
use mathlib.Core.Path.{◌≡◌, refl, ap, ◌∙◌}
use Prim.Native.Nat.{◌+◌, ◌*◌}
use native.Mathlib.Omega.{arith}
use Rattle.paper.specs.Count.{sum}
use Rattle.slotset.specs.Slots.{slot, size}
use Rattle.slotset.proofs.Counts.{count_add}
use Rattle.slotset.proofs.scan.count_words.Goals as goal

pub loop-j-init : goal.loop-j-init
unfolding size sum
loop-j-init c = (omega arith, refl, omega arith)

pub loop-j-preserved : goal.loop-j-preserved
loop-j-preserved c =
    let l = c in
    let a = l.args in
    let j = l.loop-j.j in
    let e : (j + 1) * 64 ≡ j * 64 + 64 = omega arith in
    let more = count_add a.words.now a.base j 64 (omega arith) in (
      omega arith,
      omega (arith, c.ones_below-n.ensures.0, l.loop-j.invariant.1, more, ap (size (slot a.words.now a.base)) e),
      omega (arith, c.ones_below-n.ensures.1, l.loop-j.invariant.2),
    )

pub returns : goal.returns
returns c =
    let inv = c.loop-j.invariant in
    let e : c.loop-j.j * 64 ≡ c.args.whole * 64 = omega (arith, inv.0) in
    (inv.1 ∙ ap (size _) e, omega (arith, inv.2))
