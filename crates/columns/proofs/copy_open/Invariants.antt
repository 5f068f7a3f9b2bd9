-- `columns::copy_open` meets its contract. Assumes nothing.
use mathlib.Core.Path.{◌≡◌}
use Rattle.paper.specs.Count.{over}
use Rattle.columns.specs.Publishing.{owner_read}
use Rattle.columns.proofs.copy_open.Given as goal

abbrev pub invariant-loop-k : goal.invariant-loop-k
invariant-loop-k l = l.published ≡ over (owner_read l.initial.published l.draft l.frozen) l.k l.initial.published
