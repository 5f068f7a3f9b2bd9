-- `slots::lent::slot_room_ok` meets its contract. Assumes nothing.
use borrow.Author.Tests.{le-leb, lt-leb}
use Rattle.slots.specs.Lent.{slot_room_ok}
use Rattle.slots.proofs.lent.slot_room_ok.Goals as goal

pub returns-then-starts-slots : goal.returns-then-starts-slots
unfolding slot_room_ok
returns-then-starts-slots c = simp (lt-leb _ _ c.if-starts-slots.true)

pub returns : goal.returns
unfolding slot_room_ok
returns c = simp (le-leb _ _ c.if-starts-slots.false)
