-- `replay::reading::read_fields` meets its contract. Assumes nothing.
use mathlib.Core.Path.{◌≡◌}
use Prim.Native.Nat.{◌≤◌}
use Rattle.replay.specs.Reading.{fields_of}
use Rattle.replay.proofs.reading.read_fields.Given as goal

abbrev pub invariant-loop-j : goal.invariant-loop-j
invariant-loop-j l = (l.out ≡ fields_of l.t l.off l.j l.initial.out) × (l.j ≤ l.n)
