-- `slotset::row::row_ok` meets its contract. Assumes nothing.
use mathlib.Core.Path.{ap₂, ◌∙◌}
use mathlib.Core.Bool.{◌&&◌}
use Rattle.slotset.proofs.row.row_ok.Goals as goal

pub returns : goal.returns
returns c =
    let b = c in
    c.both-3.ensures
    ∙ ap₂ ◌&&◌ b.people_ok-counted.ensures
    (c.both-2.ensures ∙ ap₂ ◌&&◌ b.words_ok-roomy.ensures c.both.ensures)
