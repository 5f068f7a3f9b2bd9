-- `slots::lent::slots_ok` meets its contract. Assumes nothing.
use mathlib.Core.Path.{sym, ◌∙◌}
use native.Mathlib.Omega.{arith}
use Rattle.slots.specs.Lent.{slots_ok}
use Rattle.slots.proofs.LentLaws.{room_says, fits-none, fits_more, fits-done, prev-none, prev_more}
use Rattle.slots.proofs.lent.slots_ok.Goals as goal

pub loop-i-init : goal.loop-i-init
loop-i-init c =
    let room = room_says _ _ _ (sym c.slot_room_ok.ensures ∙ c.if-slot_room_ok.true) in
    (room.0, room.1, fits-none _ _, prev-none _)

pub loop-i-preserved : goal.loop-i-preserved
loop-i-preserved c =
    let inv = c.loop-i.invariant in
    (inv.0, inv.1, fits_more _ _ _ _ _ _ _ inv.3 inv.2 c.slot_fits.ensures c.both-ok.ensures, prev_more _ _)

pub returns-after-loop-i : goal.returns-after-loop-i
returns-after-loop-i c =
    let inv = c.loop-i.invariant in
    fits-done _ _ _ _ _ _ _ (sym c.slot_room_ok.ensures ∙ c.if-slot_room_ok.true)
    (omega arith) c.loop-i-test.false inv.3 inv.2 c.both.ensures

pub returns-else-slot_room_ok : goal.returns-else-slot_room_ok
unfolding slots_ok
returns-else-slot_room_ok c = let f = sym c.slot_room_ok.ensures ∙ c.if-slot_room_ok.false in simp f
