-- `columns::show_refusal` meets its contract. Assumes nothing.
use mathlib.Core.Path.{refl}
use Rattle.paper.proofs.Rows.{link, ends, checked-more}
use Rattle.columns.specs.Parts.{columns_row}
use Rattle.columns.specs.Publishing.{show_row}
use Rattle.columns.proofs.show_refusal.Goals as goal

pub returns : goal.returns
unfolding show_row columns_row
returns c = checked-more _ _ refl c.columns_refusal-f.ensures (link c.check.ensures ends)
