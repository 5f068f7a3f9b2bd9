-- `units::lent::unit_end` meets its contract. Assumes nothing.
use native.Mathlib.Omega.{arith}
use borrow.Author.Tests.{lt-ltb, le-ltb}
use Rattle.units.specs.Units.{unit_end}
use Prim.Native.Nat.{◌+◌, ◌≤◌}
use Rattle.units.proofs.lent.unit_end.Goals as goal

pub returns-then-next-units : goal.returns-then-next-units
unfolding unit_end
returns-then-next-units c = simp (lt-ltb _ _ c.if-next-units.true) c.start_of.ensures

pub returns-then-u-units : goal.returns-then-u-units
unfolding unit_end
returns-then-u-units c = simp (le-ltb _ _ c.if-next-units.false)

pub returns : goal.returns
unfolding unit_end
returns c =
    let u = c.args.u in
    let units = c.args.units in
    let h : units ≤ u + 1 = omega arith in
    simp (le-ltb (u + 1) units h)
