-- `slotset::scan::found_below` meets its contract. Assumes nothing.
use mathlib.Core.Path.{refl}
use borrow.Author.Tests.{lt-ltb, le-ltb}
use Rattle.slotset.specs.Inside.{found_below}
use Rattle.slotset.proofs.scan.found_below.Goals as goal

pub returns-then-hit-len : goal.returns-then-hit-len
unfolding found_below
returns-then-hit-len c = simp (lt-ltb _ _ c.if-hit-len.true) refl

pub returns-else-hit-len : goal.returns-else-hit-len
unfolding found_below
returns-else-hit-len c = simp (le-ltb _ _ c.if-hit-len.false) refl
