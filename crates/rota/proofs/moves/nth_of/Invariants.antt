-- `rota::moves::nth_of` meets its contract. Assumes nothing.
use mathlib.Core.Path.{◌≡◌}
use mathlib.Core.Bool.{not, ◌&&◌}
use Prim.Native.Nat.{◌≤◌}
use lib.Dec.{eqb}
use lib.ListN.{length}
use Rattle.paper.specs.Count.{among}
use Rattle.units.specs.Domains.{in_mask}
use Rattle.rota.proofs.moves.nth_of.Given as goal

abbrev pub invariant-loop-p : goal.invariant-loop-p
invariant-loop-p l = (l.seen ≡ length (among (λ i. not (eqb i l.skip) && in_mask l.mask i) l.p)) × (l.seen ≤ l.nth)
