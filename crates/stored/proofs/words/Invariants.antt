-- `stored::words` meets its contract. Assumes nothing.
use Rattle.std.proofs.Common.{◌≡◌}
use Rattle.paper.specs.Count.{over}
use Rattle.stored.specs.Columns.{number_after}
use Rattle.stored.proofs.words.Given as goal

abbrev pub invariant-loop-j : goal.invariant-loop-j
invariant-loop-j l = l.out ≡ over (number_after 8 l.b l.at) l.j l.initial.out
