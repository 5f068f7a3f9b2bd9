-- `stored::raws` meets its contract. Assumes nothing.
use Rattle.std.proofs.Common.{◌≡◌}
use Rattle.paper.specs.Count.{over}
use Rattle.stored.specs.Columns.{byte_after}
use Rattle.stored.proofs.raws.Given as goal

abbrev pub invariant-loop-j : goal.invariant-loop-j
invariant-loop-j l = l.out ≡ over (byte_after l.b l.at) l.j l.initial.out
