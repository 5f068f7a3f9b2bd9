-- `slotset::len_refusal` meets its contract. Assumes nothing.
use mathlib.Core.Path.{refl}
use Rattle.paper.proofs.Rows.{link, ends, checked}
use Rattle.slotset.specs.Answers.{length_row}
use Rattle.slotset.proofs.len_refusal.Goals as goal

pub returns : goal.returns
unfolding length_row
returns c =
    checked _ refl c.accepted.ensures
    (link c.check.ensures ends)
