-- `job::owning::first_uneven` meets its contract. The invariant: the first u units are even. Assumes nothing.
use mathlib.Core.Path.{◌≡◌}
use mathlib.Core.Bool.{true}
use Prim.Native.Nat.{◌≤◌}
use Rattle.paper.specs.Count.{all}
use Rattle.owners.specs.Recount.{even_at}
use Rattle.job.proofs.owning.first_uneven.Given as goal

abbrev pub invariant-loop-u : goal.invariant-loop-u
invariant-loop-u l = (all l.u (even_at l.slots l.units l.begins l.owners) ≡ true) × (l.u ≤ l.units)
