-- `job::columns::column16` meets its contract. The invariant: the first k numbers are read. Assumes nothing.
use mathlib.Core.Path.{◌≡◌}
use Prim.Native.Nat.{◌≤◌}
use Rattle.job.specs.Columns.{column}
use Rattle.job.proofs.columns.column16.Given as goal

abbrev pub invariant-loop-k : goal.invariant-loop-k
invariant-loop-k l = (l.out ≡ column 2 l.s l.at l.stride l.k) × (l.k ≤ l.n)
