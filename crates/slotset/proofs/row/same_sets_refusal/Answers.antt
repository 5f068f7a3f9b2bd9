-- `slotset::row::same_sets_refusal` meets its contract. Assumes nothing.
use mathlib.Core.Path.{refl}
use Rattle.paper.proofs.Rows.{link, ends, checked-more}
use Rattle.slotset.specs.Answers.{sets_row, same_sets_row}
use Rattle.slotset.proofs.row.same_sets_refusal.Goals as goal

pub returns : goal.returns
unfolding same_sets_row sets_row
returns c = checked-more _ _ refl c.sets_refusal.ensures (link c.check_words.ensures ends)
