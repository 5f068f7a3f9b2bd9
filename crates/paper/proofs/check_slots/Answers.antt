-- `paper::check_slots` meets its contract. Assumes nothing.
use Rattle.paper.proofs.Rows.{renamed}
use Rattle.paper.proofs.check_slots.Goals as goal

pub returns : goal.returns
returns c = renamed _ _ c.check.ensures c.slot_count_ok.ensures
