-- `runs::list_refusal` meets its contract. Assumes nothing.
use mathlib.Core.Path.{refl}
use Rattle.paper.proofs.Rows.{link, ends, checked-more}
use Rattle.slotset.specs.Answers.{sets_row}
use Rattle.runs.specs.Listed.{runs_row}
use Rattle.runs.proofs.list_refusal.Goals as goal

pub returns : goal.returns
unfolding runs_row sets_row
returns c =
    checked-more _ _ refl c.sets_refusal.ensures
    (link c.check-f.ensures (link c.check-f-2.ensures (link c.check.ensures ends)))
