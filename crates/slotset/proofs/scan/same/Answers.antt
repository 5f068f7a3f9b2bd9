-- `slotset::scan::same` meets its contract. The invariant: the sets are the same below word j. Assumes nothing.
use mathlib.Core.Path.{◌≡◌, sym, ap, ◌∙◌}
use Prim.Native.Nat.{◌*◌, min}
use native.Mathlib.Omega.{arith}
use Rattle.slotset.specs.Slots.{same_slots}
use Rattle.slotset.proofs.Scans.{same_none, same_more, same-off}
use Rattle.slotset.proofs.scan.same.Goals as goal

pub loop-j-init : goal.loop-j-init
loop-j-init c = same_none _ _ _ _ (omega arith)

pub same_below-requires : goal.same_below-requires
same_below-requires c = (omega (arith, c.least-e.ensures), omega (arith, c.least-e.ensures))

pub loop-j-preserved : goal.loop-j-preserved
loop-j-preserved c =
    let e = c.least-e.ensures in
    same_more _ _ _ _ _ (omega (arith, e)) _ c.same_below.ensures _ e c.if-not-same_below.false c.loop-j.invariant

pub returns-then-not-same_below : goal.returns-then-not-same_below
returns-then-not-same_below c =
    let e = c.least-e.ensures in
    same-off _ _ _ _ _ (omega (arith, e)) _ c.same_below.ensures _ (omega (arith, e)) c.if-not-same_below.true

pub returns : goal.returns
returns c =
    let len = c.args.len in
    let e : min (c.loop-j.j * 64) len ≡ len = omega (arith, c.loop-j-test.false) in
    sym (sym (ap (same_slots _ _) e) ∙ c.loop-j.invariant)
