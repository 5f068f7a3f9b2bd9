-- `units::runs::write_runs` meets its contract. Assumes nothing.
use mathlib.Core.Path.{sym}
use native.Mathlib.Omega.{arith}
use Rattle.paper.proofs.Count.{over_none}
use Rattle.units.proofs.Reach.{written-more, written-done}
use Rattle.units.proofs.runs.write_runs.Goals as goal

pub loop-p-init : goal.loop-p-init
loop-p-init c = (omega arith, sym (over_none _ _))

pub longest_run-requires : goal.longest_run-requires
longest_run-requires c =
    let pre = c.requires in
    record { runs_sound = pre.runs_sound; person_lt_people = (c.loop-p-test.true, pre.people_in_bounds.1) }

pub loop-p-preserved : goal.loop-p-preserved
loop-p-preserved c = (omega arith, written-more _ _ _ _ c.loop-p.invariant.1 _ c.longest_run.ensures)

pub returns : goal.returns
returns c =
    let inv = c.loop-p.invariant in
    written-done _ _ _ _ inv.1 _ inv.0 c.loop-p-test.false
