-- `slotset::stretch_refusal` meets its contract. Assumes nothing.
use mathlib.Core.Path.{refl}
use Rattle.paper.proofs.Rows.{link, ends, checked}
use Rattle.slotset.specs.Answers.{stretch_row}
use Rattle.slotset.proofs.stretch_refusal.Goals as goal

pub returns : goal.returns
unfolding stretch_row
returns c =
    checked _ refl c.accepted.ensures
    (link c.check-f.ensures (link c.check_stretch.ensures ends))
