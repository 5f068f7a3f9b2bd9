-- `slots::lent::check_room` meets its contract. Assumes nothing.
use Rattle.paper.proofs.Rows.{renamed}
use Rattle.slots.proofs.lent.check_room.Goals as goal

pub returns : goal.returns
returns c = renamed _ _ c.check.ensures c.slot_room_ok.ensures
