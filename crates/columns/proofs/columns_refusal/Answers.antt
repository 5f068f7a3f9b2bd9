-- `columns::columns_refusal` meets its contract. Assumes nothing.
use mathlib.Core.Path.{refl}
use Rattle.paper.proofs.Rows.{link, ends, checked}
use Rattle.columns.specs.Parts.{columns_row}
use Rattle.columns.proofs.columns_refusal.Goals as goal

pub returns : goal.returns
unfolding columns_row
returns c =
    checked _ refl c.accepted.ensures
    (link c.check_slots-f.ensures (link c.check-f.ensures (link c.check-f-2.ensures
    (link c.check_words.ensures ends))))
