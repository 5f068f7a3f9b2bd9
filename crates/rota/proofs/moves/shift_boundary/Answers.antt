-- `rota::moves::shift_boundary` meets its contract. Assumes nothing.
use mathlib.Core.Path.{sym, ◌∙◌}
use Rattle.rota.specs.Board.{owner_of}
use Rattle.rota.specs.Moves.{run_first, run_last}
use Rattle.rota.proofs.Judged.{fewer-owned}
use Rattle.rota.proofs.Moved.{shift-frozen, shift-unowned, shift-beyond, shift-grows, shift-shrinks}
use Rattle.rota.proofs.moves.shift_boundary.Goals as goal

pub returns-then-is_frozen : goal.returns-then-is_frozen
unfolding owner_of
returns-then-is_frozen c =
    let at-owner-of = c.owner_of-owner in
    let at-is-frozen = c.is_frozen in
    shift-frozen _ _ _ _ _ at-owner-of.ensures (sym at-is-frozen.ensures ∙ c.if-is_frozen.true)

pub returns-then-owner : goal.returns-then-owner
unfolding owner_of
returns-then-owner c = shift-unowned _ _ _ _ _ c.owner_of-owner.ensures c.if-owner.true

pub returns-then-second-gt1 : goal.returns-then-second-gt1
unfolding owner_of
returns-then-second-gt1 c =
    let at-owner-of = c.owner_of-owner in
    let at-is-frozen = c.is_frozen in
    let at-if1 = c.if-is_frozen in
    let at-if2 = c.if-owner in
    shift-beyond _ _ _ _ _ at-owner-of.ensures (sym at-is-frozen.ensures ∙ at-if1.false) at-if2.false c.if-second-gt1.true

pub run_start-a-requires : goal.run_start-a-requires
run_start-a-requires c =
    let at_pre = c.requires in
    fewer-owned _ _ _ _ at_pre.first_lt_units at_pre.owner_room

pub returns-then-second-eq1 : goal.returns-then-second-eq1
unfolding owner_of run_first
returns-then-second-eq1 c =
    let at-owner-of = c.owner_of-owner in
    let at-is-frozen = c.is_frozen in
    let at-if1 = c.if-is_frozen in
    let at-if2 = c.if-owner in
    let at-if3 = c.if-second-gt1 in
    let at-run-start = c.run_start-a in
    let at-if4 = c.if-second-eq1 in
    shift-grows _ _ _ _ _ at-owner-of.ensures (sym at-is-frozen.ensures ∙ at-if1.false) at-if2.false _ _ at-if3.false at-run-start.ensures at-if4.true c.grow.ensures

pub returns : goal.returns
unfolding owner_of run_first run_last
returns c =
    let at-owner-of = c.owner_of-owner in
    let at-is-frozen = c.is_frozen in
    let at-if1 = c.if-is_frozen in
    let at-if2 = c.if-owner in
    let at-if3 = c.if-second-gt1 in
    let at-run-start = c.run_start-a in
    let at-run-end = c.run_end-b in
    let at-if4 = c.if-second-eq1 in
    shift-shrinks _ _ _ _ _ at-owner-of.ensures (sym at-is-frozen.ensures ∙ at-if1.false) at-if2.false _ _ at-if3.false at-run-start.ensures _ at-run-end.ensures at-if4.false c.shrink.ensures
