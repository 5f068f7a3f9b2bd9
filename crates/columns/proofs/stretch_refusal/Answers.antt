-- `columns::stretch_refusal` meets its contract. Assumes nothing.
use mathlib.Core.Path.{refl}
use Rattle.paper.proofs.Rows.{link, ends, checked-more}
use Rattle.columns.specs.Parts.{columns_row, stretch_row}
use Rattle.columns.proofs.stretch_refusal.Goals as goal

pub returns : goal.returns
unfolding stretch_row columns_row
returns c = checked-more _ _ refl c.columns_refusal-f.ensures (link c.check.ensures ends)
