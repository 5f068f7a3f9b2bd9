-- `targets::compute_targets` meets its contract. Assumes nothing.
use Rattle.std.proofs.Common.{rules}
use Rattle.paper.proofs.Rows.{said}
use Rattle.targets.specs.Outcome.{given}
use Rattle.targets.proofs.Work.{fine, sound-again, demand-is, work-asks, meets-refused, meets-eight, meets-done}
use Rattle.targets.proofs.compute_targets.Goals as goal

pub standings_of-standings-requires : goal.standings_of-standings-requires
standings_of-standings-requires c =
    let a = c.args in
    let g = given a.people a.slots a.starts.now a.ends.now a.avail.now a.capacities.now a.priors.now a.fairness a.edition in
    let s = (fine g a.out.now c.checks_refusal-n.ensures c.if-n-ne0.false).sound in
    (sound-again g s, demand-is g s c.demand_of-demand.ensures)

pub targets_of-requires : goal.targets_of-requires
targets_of-requires c =
    let a = c.args in
    let g = given a.people a.slots a.starts.now a.ends.now a.avail.now a.capacities.now a.priors.now a.fairness a.edition in
    work-asks g a.out.now c.checks_refusal-n.ensures c.if-n-ne0.false c.standings_of-standings.ensures

pub returns-in_default : goal.returns-in_default
returns-in_default c =
    let a = c.args in
    let g = given a.people a.slots a.starts.now a.ends.now a.avail.now a.capacities.now a.priors.now a.fairness a.edition in
    meets-eight g a.out.now c.checks_refusal-n.ensures c.if-n-ne0.false
    c.demand_of-demand.ensures c.standings_of-standings.ensures c.targets_of.ensures (search rules)

pub put_targets-requires : goal.put_targets-requires
put_targets-requires c =
    let a = c.args in
    let g = given a.people a.slots a.starts.now a.ends.now a.avail.now a.capacities.now a.priors.now a.fairness a.edition in
    let f = fine g a.out.now c.checks_refusal-n.ensures c.if-n-ne0.false in
    (f.sound.few, f.out-room)

pub returns : goal.returns
returns c =
    let a = c.args in
    let g = given a.people a.slots a.starts.now a.ends.now a.avail.now a.capacities.now a.priors.now a.fairness a.edition in
    meets-done g a.out.now c.checks_refusal-n.ensures c.if-n-ne0.false
    c.demand_of-demand.ensures c.standings_of-standings.ensures c.targets_of.ensures c.in-Some.is c.put_targets.ensures

pub returns-then-n-ne0 : goal.returns-then-n-ne0
returns-then-n-ne0 c =
    let a = c.args in
    let g = given a.people a.slots a.starts.now a.ends.now a.avail.now a.capacities.now a.priors.now a.fairness a.edition in
    meets-refused g a.out.now (said _ c.checks_refusal-n.ensures) c.if-n-ne0.true
