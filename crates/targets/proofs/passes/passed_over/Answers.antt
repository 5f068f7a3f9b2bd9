-- `targets::passes::passed_over` meets its contract. Assumes nothing.
use lib.Ieee.{of_bits}
use Rattle.targets.proofs.passes.passed_over.Goals as goal

pub returns-then-some_below_zero : goal.returns-then-some_below_zero
unfolding of_bits
returns-then-some_below_zero c =
    rw (
      c.if-sum.true,
      ← c.some_outside.ensures,
      c.if-some_outside.false,
      ← c.some_below_zero.ensures,
      c.if-some_below_zero.true,
      c.settled_standings-out.ensures,
    )

pub returns-then-sum : goal.returns-then-sum
unfolding of_bits
returns-then-sum c =
    rw (
      c.if-sum.true,
      ← c.some_outside.ensures,
      c.if-some_outside.false,
      ← c.some_below_zero.ensures,
      c.if-some_below_zero.false,
      c.settled_standings-out.ensures,
    )
