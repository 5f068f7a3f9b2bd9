-- `slotset::SlotSet::remove_stretch` meets its contract. Assumes nothing.
use Rattle.slotset.proofs.SlotSet.remove_stretch.Goals as goal

pub returns : goal.returns
returns c = c.put_stretch.ensures
