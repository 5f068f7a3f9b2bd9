-- `rota::moves::swap_runs` meets its contract. Assumes nothing.
use mathlib.Core.Path.{sym, ◌∙◌}
use native.Mathlib.Omega.{arith}
use Rattle.rota.specs.Board.{owner_of}
use Rattle.rota.specs.Ready.{runs_fit}
use Rattle.rota.specs.Moves.{run_first, run_last}
use Rattle.rota.proofs.Judged.{fewer-owned}
use Rattle.rota.proofs.Moved.{run_room, runs-first-frozen, runs-second-frozen, runs-first-unowned, runs-second-unowned}
use Rattle.rota.proofs.Moved.{runs-owner, runs_same, runs-unfit, runs-act}
use Rattle.rota.proofs.moves.swap_runs.Goals as goal

pub overflow_add-b : goal.overflow_add-b
overflow_add-b c =
    let at_pre = c.requires in
    let r = run_room _ _ _ _ _ at_pre.first_lt_units.0 c.run_start-a.ensures c.run_end-b.ensures in
    omega (arith, r.1)

pub overflow_add-d : goal.overflow_add-d
overflow_add-d c =
    let at_pre = c.requires in
    let r = run_room _ _ _ _ _ at_pre.first_lt_units.1 c.run_start-c.ensures c.run_end-d.ensures in
    omega (arith, r.1)

pub returns-then-is_frozen : goal.returns-then-is_frozen
returns-then-is_frozen c = runs-first-frozen _ _ _ _ (sym c.is_frozen.ensures ∙ c.if-is_frozen.true)

pub returns-then-is_frozen-2 : goal.returns-then-is_frozen-2
returns-then-is_frozen-2 c = runs-second-frozen _ _ _ _ (sym c.is_frozen-2.ensures ∙ c.if-is_frozen-2.true)

pub returns-then-left : goal.returns-then-left
unfolding owner_of
returns-then-left c =
    let at-owner-of = c.owner_of-left in
    let at-owner-of2 = c.owner_of-right in
    runs-first-unowned _ _ _ _ _ _ at-owner-of.ensures at-owner-of2.ensures c.if-left.true

pub returns-then-right : goal.returns-then-right
unfolding owner_of
returns-then-right c =
    let at-owner-of = c.owner_of-left in
    let at-owner-of2 = c.owner_of-right in
    runs-second-unowned _ _ _ _ _ _ at-owner-of.ensures at-owner-of2.ensures c.if-right.true

pub returns-then-left-right : goal.returns-then-left-right
unfolding owner_of
returns-then-left-right c =
    let at-owner-of = c.owner_of-left in
    let at-owner-of2 = c.owner_of-right in
    runs-owner _ _ _ _ _ _ at-owner-of.ensures at-owner-of2.ensures c.if-left-right.true

pub run_start-a-requires : goal.run_start-a-requires
run_start-a-requires c =
    let at_pre = c.requires in
    fewer-owned _ _ _ _ at_pre.first_lt_units.0 at_pre.owner_room

pub run_end-b-requires : goal.run_end-b-requires
run_end-b-requires c =
    let at_pre = c.requires in
    record { unit_lt_units = at_pre.first_lt_units.0; owner_room = at_pre.owner_room }

pub run_start-c-requires : goal.run_start-c-requires
run_start-c-requires c =
    let at_pre = c.requires in
    fewer-owned _ _ _ _ at_pre.first_lt_units.1 at_pre.owner_room

pub run_end-d-requires : goal.run_end-d-requires
run_end-d-requires c =
    let at_pre = c.requires in
    record { unit_lt_units = at_pre.first_lt_units.1; owner_room = at_pre.owner_room }

pub returns-then-a-c : goal.returns-then-a-c
unfolding owner_of run_first run_last
returns-then-a-c c =
    let at-owner-of = c.owner_of-left in
    let at-owner-of2 = c.owner_of-right in
    let at-run-start = c.run_start-a in
    let at-run-end = c.run_end-b in
    let at-run-start2 = c.run_start-c in
    let at-run-end2 = c.run_end-d in
    runs_same _ _ _ _ _ _ at-owner-of.ensures at-owner-of2.ensures _ _ _ _ at-run-start.ensures at-run-end.ensures
    at-run-start2.ensures
    at-run-end2.ensures c.if-a-c.true

pub runs_fit-requires : goal.runs_fit-requires
runs_fit-requires c =
    let at_pre = c.requires in
    let room = at_pre.units_in_bounds in
    let r = run_room _ _ _ _ _ at_pre.first_lt_units.0 c.run_start-a.ensures c.run_end-b.ensures in
    let q = run_room _ _ _ _ _ at_pre.first_lt_units.1 c.run_start-c.ensures c.run_end-d.ensures in record {
      a_lt_e = (r.0, q.0);
      e_in_bounds = (
        omega (arith, r.1, room.0),
        omega (arith, q.1, room.0),
        omega (arith, r.1, room.1),
        omega (arith, q.1, room.1),
      );
    }

pub returns-then-runs_fit : goal.returns-then-runs_fit
unfolding owner_of run_first run_last runs_fit
returns-then-runs_fit c =
    let at-owner-of = c.owner_of-left in
    let at-owner-of2 = c.owner_of-right in
    let at-is-frozen = c.is_frozen in
    let at-if1 = c.if-is_frozen
    in
    let at-is-frozen2 = c.is_frozen-2 in
    let at-if2 = c.if-is_frozen-2 in
    let at-if3 = c.if-left in
    let at-if4 = c.if-right in
    let at-if5 = c.if-left-right in
    let at-run-start = c.run_start-a in
    let at-run-end = c.run_end-b in
    let at-run-start2 = c.run_start-c in
    let at-run-end2 = c.run_end-d in
    let at-if6 = c.if-a-c in
    let at-runs-fit = c.runs_fit in
    let at-if7 = c.if-runs_fit in
    runs-act _ _ _ _ _ _ at-owner-of.ensures at-owner-of2.ensures _ _ _ _ at-run-start.ensures at-run-end.ensures
    at-run-start2.ensures
    at-run-end2.ensures _ (sym at-is-frozen.ensures ∙ at-if1.false) (sym at-is-frozen2.ensures ∙ at-if2.false)
    at-if3.false
    at-if4.false at-if6.false at-if5.false (sym at-runs-fit.ensures ∙ at-if7.true) c.trade.ensures

pub returns : goal.returns
unfolding owner_of run_first run_last runs_fit
returns c =
    let at-owner-of = c.owner_of-left in
    let at-owner-of2 = c.owner_of-right in
    let at-run-start = c.run_start-a in
    let at-run-end = c.run_end-b in
    let at-run-start2 = c.run_start-c in
    let at-run-end2 = c.run_end-d in
    let at-runs-fit = c.runs_fit in
    runs-unfit _ _ _ _ _ _ at-owner-of.ensures at-owner-of2.ensures _ _ _ _ at-run-start.ensures at-run-end.ensures
    at-run-start2.ensures
    at-run-end2.ensures (sym at-runs-fit.ensures ∙ c.if-runs_fit.false)
