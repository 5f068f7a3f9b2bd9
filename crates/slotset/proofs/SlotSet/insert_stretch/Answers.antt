-- `slotset::SlotSet::insert_stretch` meets its contract. Assumes nothing.
use Rattle.slotset.proofs.SlotSet.insert_stretch.Goals as goal

pub returns : goal.returns
returns c = c.put_stretch.ensures
