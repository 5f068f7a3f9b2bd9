-- `store::figures::figures_at` meets its contract. Assumes nothing.
use Rattle.store.proofs.Reading.{figures-read}
use Rattle.store.proofs.figures.figures_at.Goals as goal

pub returns : goal.returns
returns c =
    figures-read _ _ _ _ c.requires c.field-value.ensures.0 c.field-days.ensures.0
