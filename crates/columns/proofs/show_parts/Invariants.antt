-- `columns::show_parts` meets its contract. Assumes nothing.
use mathlib.Core.Path.{◌≡◌}
use Prim.Native.Nat.{◌-◌, ◌≤◌}
use Rattle.paper.specs.Count.{over}
use Rattle.columns.specs.Publishing.{owner_read}
use Rattle.columns.proofs.show_parts.Given as goal

abbrev pub invariant-loop-at : goal.invariant-loop-at
invariant-loop-at l = (l.at ≤ l.slots) × (l.shown ≡ over (owner_read l.published l.draft l.frozen) l.at l.initial.shown)

abbrev pub decreases-loop-at : goal.decreases-loop-at
decreases-loop-at l = l.slots - l.at
