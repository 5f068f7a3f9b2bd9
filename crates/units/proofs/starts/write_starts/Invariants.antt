-- `units::starts::write_starts` meets its contract. Assumes nothing.
use Rattle.units.specs.Starts.{unit_begins}
use Prim.Native.Nat.{◌≤◌}
use Rattle.units.proofs.Collect.{Collecting}
use Rattle.units.proofs.starts.write_starts.Given as goal

abbrev pub invariant-loop-k : goal.invariant-loop-k
invariant-loop-k l =
    Collecting (unit_begins l.lock l.boundary l.value l.starts) l.slots l.initial.begins l.begins l.n l.k × (l.slots ≤ 1024)
