-- `columns::put_part` meets its contract. Assumes nothing.
use mathlib.Core.Path.{◌≡◌}
use Prim.Native.Nat.{ℕ}
use lib.ListN.{get_or}
use Rattle.paper.specs.Count.{over}
use Rattle.columns.proofs.put_part.Given as goal

abbrev pub invariant-loop-k : goal.invariant-loop-k
invariant-loop-k l = l.shown ≡ over (λ (j : ℕ). get_or l.part j 0) l.k l.initial.shown
