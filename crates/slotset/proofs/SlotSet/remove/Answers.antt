-- `slotset::SlotSet::remove` meets its contract. Assumes nothing.
use Rattle.slotset.proofs.SlotSet.remove.Goals as goal

pub returns : goal.returns
returns c = c.put.ensures
