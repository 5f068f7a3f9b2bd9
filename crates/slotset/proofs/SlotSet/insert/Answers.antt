-- `slotset::SlotSet::insert` meets its contract. Assumes nothing.
use Rattle.slotset.proofs.SlotSet.insert.Goals as goal

pub returns : goal.returns
returns c = c.put.ensures
