-- `units::runs::longest_run` meets its contract. Assumes nothing.
use native.Mathlib.Omega.{arith}
use Rattle.slotset.proofs.Refusals.{says_row}
use Rattle.units.specs.Achievable.{longest_run}
use Rattle.units.proofs.Reach.{pass-none, pass-more, pass-reached, pass-end, gets-on}
use Rattle.units.proofs.runs.longest_run.Goals as goal

pub loop-at-init : goal.loop-at-init
loop-at-init c = pass-none _ _ _ _ c.requires.person_lt_people.1

pub next_had-had-requires : goal.next_had-had-requires
next_had-had-requires c =
    let pre = c.requires in
    let R = pre.runs_sound in
    (says_row _ _ _ _ R.counted R.short R.words pre.person_lt_people.0, c.loop-at.invariant.upto)

pub next_gap-gap-requires : goal.next_gap-gap-requires
next_gap-gap-requires c =
    let pre = c.requires in
    let R = pre.runs_sound in
    (says_row _ _ _ _ R.counted R.short R.words pre.person_lt_people.0, c.next_had-had.ensures.within)

pub minutes_in-requires : goal.minutes_in-requires
minutes_in-requires c =
    let G = c.next_gap-gap.ensures in
    (c.requires.runs_sound.lent, G.from, G.within)

pub returns-then-target-best : goal.returns-then-target-best
unfolding longest_run
returns-then-target-best c =
    let G = c.next_gap-gap.ensures in
    let o = c.requires.person_lt_people.1 in
    pass-reached _ _ _ _ _ _ c.next_had-had.ensures G _ _ _ _ c.loop-at.invariant c.minutes_in.ensures
    c.max-best.ensures o c.if-target-best.true

pub loop-at-smaller : goal.loop-at-smaller
loop-at-smaller c =
    let G = c.next_gap-gap.ensures in
    let test = c.loop-at-test.true in
    omega (arith, gets-on _ _ _ _ _ c.next_had-had.ensures G test)

pub loop-at-preserved : goal.loop-at-preserved
loop-at-preserved c =
    let G = c.next_gap-gap.ensures in
    pass-more _ _ _ _ _ _ c.next_had-had.ensures G _ _ _ _ c.loop-at.invariant c.minutes_in.ensures
    c.max-best.ensures c.if-target-best.false

pub returns : goal.returns
unfolding longest_run
returns c = pass-end _ _ _ _ _ _ c.loop-at.invariant c.loop-at-test.false
