-- `slotset::row::row_stretch_refusal` meets its contract. Assumes nothing.
use mathlib.Core.Path.{refl}
use Rattle.paper.proofs.Rows.{link, ends, checked-more}
use Rattle.slotset.specs.Answers.{sets_row, person_row, person_stretch_row}
use Rattle.slotset.proofs.row.row_stretch_refusal.Goals as goal

pub returns : goal.returns
unfolding sets_row person_row person_stretch_row
returns c = checked-more _ _ refl c.row_refusal.ensures (link c.check_stretch.ensures ends)
