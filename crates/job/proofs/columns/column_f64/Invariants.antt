-- `job::columns::column_f64` meets its contract. The invariant: the first k patterns are read. Assumes nothing.
use mathlib.Core.Path.{◌≡◌}
use Prim.Native.Nat.{◌≤◌}
use Rattle.job.specs.Columns.{float_column}
use Rattle.job.proofs.columns.column_f64.Given as goal

abbrev pub invariant-loop-k : goal.invariant-loop-k
invariant-loop-k l = (l.out ≡ float_column l.s l.at l.stride l.k) × (l.k ≤ l.n)
