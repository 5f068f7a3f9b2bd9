-- `owners::derived::rebuild` meets its contract. Assumes nothing.
use Rattle.std.proofs.Common.{◌-◌}
use Rattle.owners.specs.Derived.{plan, derived}
use Rattle.owners.proofs.Made.{Made}
use Rattle.owners.proofs.derived.rebuild.Given as goal

abbrev pub invariant-loop-i : goal.invariant-loop-i
invariant-loop-i l =
    Made (plan l.people l.slots l.starts l.ends) l.owners (derived l.initial.sets l.initial.minutes l.initial.totals) l.i
    (derived l.sets l.minutes l.totals)

abbrev pub decreases-loop-i : goal.decreases-loop-i
decreases-loop-i l = l.slots - l.i
