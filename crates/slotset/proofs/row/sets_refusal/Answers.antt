-- `slotset::row::sets_refusal` meets its contract. Assumes nothing.
use mathlib.Core.Path.{refl}
use Rattle.paper.proofs.Rows.{link, ends, checked}
use Rattle.slotset.specs.Answers.{sets_row}
use Rattle.slotset.proofs.row.sets_refusal.Goals as goal

pub returns : goal.returns
unfolding sets_row
returns c =
    checked _ refl c.accepted.ensures
    (link c.check_people-f.ensures (link c.check-f.ensures (link c.check_words.ensures ends)))
