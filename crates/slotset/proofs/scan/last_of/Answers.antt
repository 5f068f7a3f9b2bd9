-- `slotset::scan::last_of` meets its contract. Assumes nothing.
use Rattle.std.specs.Prelude.{Some, None}
use mathlib.Core.Path.{sym, ap}
use mathlib.Core.Bool.{Bool, cond}
use borrow.Author.Tests.{lt-ltb, le-ltb}
use Rattle.slotset.specs.Runs.{end_of}
use Rattle.slotset.specs.Inside.{found_below}
use Rattle.slotset.proofs.scan.last_of.Goals as goal

pub returns-then-hit-len : goal.returns-then-hit-len
unfolding found_below
returns-then-hit-len c =
    let a = c.args in
    sym (ap (λ (b : Bool). end_of a.len (cond b (Some a.hit) None)) (lt-ltb _ _ c.if-hit-len.true))

pub returns-else-hit-len : goal.returns-else-hit-len
unfolding found_below
returns-else-hit-len c =
    let a = c.args in
    sym (ap (λ (b : Bool). end_of a.len (cond b (Some a.hit) None)) (le-ltb _ _ c.if-hit-len.false))
