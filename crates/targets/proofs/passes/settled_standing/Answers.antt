-- `targets::passes::settled_standing` meets its contract. Assumes nothing.
use lib.Ieee.{of_bits}
use Rattle.targets.specs.Passes.{settled}
use Rattle.targets.proofs.Loops.{at_pin, at-kept}
use Rattle.targets.proofs.passes.settled_standing.Goals as goal

pub returns-then-l : goal.returns-then-l
unfolding settled
returns-then-l c = rw c.if-l.true

pub returns-then-x : goal.returns-then-x
unfolding of_bits
returns-then-x c =
    at_pin c.args.l c.unrounded_of-x.ensures c.if-l.false c.if-x.true

pub returns : goal.returns
unfolding of_bits
returns c =
    at-kept c.args.l c.unrounded_of-x.ensures c.if-l.false c.if-x.false c.nearest-target.ensures.0
