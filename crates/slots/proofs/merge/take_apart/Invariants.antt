-- `slots::merge::take_apart` meets its contract. Assumes nothing.
use Rattle.slots.specs.Inside.{TakenApart}
use Rattle.slots.proofs.merge.take_apart.Given as goal

abbrev pub invariant-loop-i : goal.invariant-loop-i
invariant-loop-i l = TakenApart l.i l.keys l.initial.whose l.initial.froms l.initial.tos l.whose l.froms l.tos
