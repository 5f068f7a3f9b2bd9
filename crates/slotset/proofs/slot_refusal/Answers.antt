-- `slotset::slot_refusal` meets its contract. Assumes nothing.
use mathlib.Core.Path.{refl}
use Rattle.paper.proofs.Rows.{link, ends, checked}
use Rattle.slotset.specs.Answers.{slot_row}
use Rattle.slotset.proofs.slot_refusal.Goals as goal

pub returns : goal.returns
unfolding slot_row
returns c =
    checked _ refl c.accepted.ensures
    (link c.check-f.ensures (link c.check.ensures ends))
