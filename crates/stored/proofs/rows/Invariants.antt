-- `stored::rows` meets its contract. Assumes nothing.
use Rattle.std.proofs.Common.{◌≡◌}
use Rattle.paper.specs.Count.{over}
use Rattle.stored.specs.Columns.{row_word}
use Rattle.stored.proofs.rows.Given as goal

abbrev pub invariant-loop-j : goal.invariant-loop-j
invariant-loop-j l = l.out ≡ over (row_word l.b l.at) l.j l.initial.out
