-- `units::runs::write_runs` meets its contract. Assumes nothing.
use mathlib.Core.Path.{◌≡◌}
use Prim.Native.Nat.{◌≤◌}
use Rattle.paper.specs.Count.{over}
use Rattle.units.specs.Achievable.{achievable, longest_run}
use Rattle.units.proofs.runs.write_runs.Given as goal

abbrev pub invariant-loop-p : goal.invariant-loop-p
invariant-loop-p l =
    (l.p ≤ l.people) × (l.runs ≡ over (λ q. achievable l.target (longest_run l.avail q l.slots l.starts l.ends)) l.p l.initial.runs)
