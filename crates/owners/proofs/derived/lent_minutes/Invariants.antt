-- `owners::derived::lent_minutes` meets its contract. Assumes nothing.
use Rattle.std.proofs.Common.{◌≡◌, ◌-◌, ◌≤◌}
use Rattle.owners.specs.Derived.{stretch_minutes, wrapped}
use Rattle.owners.proofs.derived.lent_minutes.Given as goal

abbrev pub invariant-loop-k : goal.invariant-loop-k
invariant-loop-k l =
    (l.k - l.a ≤ l.e - l.a) × (l.total ≡ wrapped (stretch_minutes l.starts l.ends l.a l.k))
