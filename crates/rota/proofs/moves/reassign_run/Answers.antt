-- `rota::moves::reassign_run` meets its contract. Assumes nothing.
use mathlib.Core.Path.{sym, ◌∙◌}
use native.Mathlib.Omega.{arith}
use Rattle.rota.specs.Board.{owner_of}
use Rattle.rota.specs.Moves.{run_first, run_last}
use Rattle.rota.proofs.Judged.{fewer-owned}
use Rattle.rota.proofs.Moved.{run_room, run-frozen, run-unowned, run-stuck, run-nobody, run-beyond, run-given}
use Rattle.rota.proofs.moves.reassign_run.Goals as goal

pub overflow_add-b : goal.overflow_add-b
overflow_add-b c =
    let at_pre = c.requires in
    let r = run_room _ _ _ _ _ at_pre.people_bound.1 c.run_start-a.ensures c.run_end-b.ensures in
    omega (arith, r.1)

pub overflow_add-b-then-is_movable : goal.overflow_add-b-then-is_movable
overflow_add-b-then-is_movable c =
    let at_pre = c.requires in
    let r = run_room _ _ _ _ _ at_pre.people_bound.1 c.run_start-a.ensures c.run_end-b.ensures in
    omega (arith, r.1)

pub returns-then-is_frozen : goal.returns-then-is_frozen
unfolding owner_of
returns-then-is_frozen c =
    let at-owner-of = c.owner_of-owner in
    let at-is-frozen = c.is_frozen in
    run-frozen _ _ _ _ _ at-owner-of.ensures (sym at-is-frozen.ensures ∙ c.if-is_frozen.true)

pub returns-then-owner : goal.returns-then-owner
unfolding owner_of
returns-then-owner c = run-unowned _ _ _ _ _ c.owner_of-owner.ensures c.if-owner.true

pub run_start-a-requires : goal.run_start-a-requires
run_start-a-requires c =
    let at_pre = c.requires in
    fewer-owned _ _ _ _ at_pre.people_bound.1 at_pre.owner_room

pub run_end-b-requires : goal.run_end-b-requires
run_end-b-requires c =
    let at_pre = c.requires in
    record { unit_lt_units = at_pre.people_bound.1; owner_room = at_pre.owner_room }

pub is_movable-requires : goal.is_movable-requires
is_movable-requires c =
    let at_pre = c.requires in
    let r = run_room _ _ _ _ _ at_pre.people_bound.1 c.run_start-a.ensures c.run_end-b.ensures in
    (omega (arith, r.0), omega (arith, r.1, at_pre.units_in_bounds.1))

pub cover_of-requires : goal.cover_of-requires
cover_of-requires c =
    let at_pre = c.requires in
    let r = run_room _ _ _ _ _ at_pre.people_bound.1 c.run_start-a.ensures c.run_end-b.ensures in
    (omega (arith, r.0), omega (arith, r.1, at_pre.units_in_bounds.0))

pub returns-in-Nobody : goal.returns-in-Nobody
unfolding owner_of run_first run_last
returns-in-Nobody c =
    let at-owner-of = c.owner_of-owner in
    let at-run-start = c.run_start-a in
    let at-run-end = c.run_end-b in
    let at-is-frozen = c.is_frozen in
    let at-if1 = c.if-is_frozen in
    let at-if2 = c.if-owner in
    let at-is-movable = c.is_movable in
    let at-if3 = c.if-is_movable in
    let at_pre = c.requires in
    let at-cover-of = c.cover_of in
    let at-nth-of = c.nth_of in
    run-nobody _ _ _ _ _ at-owner-of.ensures _ _ at-run-start.ensures at-run-end.ensures _ _ (sym at-is-frozen.ensures ∙ at-if1.false) at-if2.false (sym at-is-movable.ensures ∙ at-if3.true) at_pre.people_bound.0 at-cover-of.ensures.each at-nth-of.ensures c.in-Nobody.is

pub returns-in-Beyond : goal.returns-in-Beyond
unfolding owner_of run_first run_last
returns-in-Beyond c =
    let at-owner-of = c.owner_of-owner in
    let at-run-start = c.run_start-a in
    let at-run-end = c.run_end-b in
    let at-is-frozen = c.is_frozen in
    let at-if1 = c.if-is_frozen in
    let at-if2 = c.if-owner in
    let at-is-movable = c.is_movable in
    let at-if3 = c.if-is_movable in
    let at_pre = c.requires in
    let at-cover-of = c.cover_of in
    let at-nth-of = c.nth_of in
    run-beyond _ _ _ _ _ at-owner-of.ensures _ _ at-run-start.ensures at-run-end.ensures _ _ (sym at-is-frozen.ensures ∙ at-if1.false) at-if2.false (sym at-is-movable.ensures ∙ at-if3.true) at_pre.people_bound.0 at-cover-of.ensures.each at-nth-of.ensures c.in-Beyond.is

pub returns-in-Person : goal.returns-in-Person
unfolding owner_of run_first run_last
returns-in-Person c =
    let at-owner-of = c.owner_of-owner in
    let at-run-start = c.run_start-a in
    let at-run-end = c.run_end-b in
    let at-is-frozen = c.is_frozen in
    let at-if1 = c.if-is_frozen in
    let at-if2 = c.if-owner in
    let at-is-movable = c.is_movable in
    let at-if3 = c.if-is_movable in
    let at_pre = c.requires in
    let at-cover-of = c.cover_of in
    let at-nth-of = c.nth_of in
    run-given _ _ _ _ _ at-owner-of.ensures _ _ at-run-start.ensures at-run-end.ensures _ _ (sym at-is-frozen.ensures ∙ at-if1.false) at-if2.false (sym at-is-movable.ensures ∙ at-if3.true) at_pre.people_bound.0 at-cover-of.ensures.each at-nth-of.ensures _ _ c.in-Person.is c.give.ensures

pub returns-else-is_movable : goal.returns-else-is_movable
unfolding owner_of run_first run_last
returns-else-is_movable c =
    let at-owner-of = c.owner_of-owner in
    let at-run-start = c.run_start-a in
    let at-run-end = c.run_end-b in
    let at-is-movable = c.is_movable in
    run-stuck _ _ _ _ _ at-owner-of.ensures _ _ at-run-start.ensures at-run-end.ensures (sym at-is-movable.ensures ∙
    c.if-is_movable.false)
