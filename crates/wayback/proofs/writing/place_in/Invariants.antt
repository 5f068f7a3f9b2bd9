-- `wayback::writing::place_in` meets its contract. Assumes nothing.
use mathlib.Core.Path.{◌≡◌}
use Prim.Native.Nat.{◌≤◌}
use Rattle.paper.specs.Count.{count}
use Rattle.units.specs.Domains.{in_mask}
use Rattle.wayback.proofs.writing.place_in.Given as goal

abbrev pub invariant-loop-q : goal.invariant-loop-q
invariant-loop-q l = (l.n ≤ l.q) × (l.n ≡ count l.q (in_mask l.mask))
