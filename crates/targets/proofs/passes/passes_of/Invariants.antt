-- `targets::passes::passes_of` meets its contract: the passes that are left do the rest. Assumes nothing.
use Rattle.std.proofs.Common.{◌≡◌, ◌+◌, ◌-◌, ◌≤◌}
use Rattle.targets.specs.Passes.{passes, again}
use Rattle.targets.proofs.passes.passes_of.Given as goal

abbrev pub invariant-loop-k : goal.invariant-loop-k
invariant-loop-k l =
    (l._k ≤ l.people + 1)
    × (passes (l.people + 1 - l._k) l.demand (again l.left) ≡ passes (l.people + 1) l.demand (again l.fn.standings))
