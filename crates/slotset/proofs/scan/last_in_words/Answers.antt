-- `slotset::scan::last_in_words` meets its contract. The invariant: the answer below word `before` is the answer below word `end`.
-- Assumes nothing.
use mathlib.Core.Path.{◌≡◌, refl, sym, ap, ◌∙◌}
use Prim.Native.Nat.{◌*◌}
use native.Mathlib.Omega.{arith}
use Rattle.slotset.specs.Search.{down}
use Rattle.slotset.proofs.Scans.{word-before, word-last}
use Rattle.slotset.proofs.scan.last_in_words.Goals as goal

pub loop-j-init : goal.loop-j-init
loop-j-init c = refl

pub loop-j-preserved : goal.loop-j-preserved
loop-j-preserved c =
    c.loop-j.invariant ∙ word-before _ _ _ _ 63 _ (omega arith) c.last_bit-k.ensures _ (omega arith) c.if-k-ne0.false

pub returns-then-k-ne0 : goal.returns-then-k-ne0
returns-then-k-ne0 c =
    sym (c.loop-j.invariant ∙ word-last _ _ _ _ 63 _ (omega arith) c.last_bit-k.ensures _ (omega arith) c.if-k-ne0.true)

pub returns : goal.returns
unfolding down
returns c =
    let e : c.loop-j.j * 64 ≡ 0 = omega arith in
    sym (c.loop-j.invariant ∙ ap (down _ _) e)
