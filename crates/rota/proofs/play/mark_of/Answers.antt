-- `rota::play::mark_of` meets its contract. Assumes nothing.
use mathlib.Core.Path.{ap, ◌∙◌}
use Rattle.rota.specs.Lent.{mark_found}
use Rattle.rota.proofs.Readied.{mark-by}
use Rattle.rota.proofs.play.mark_of.Goals as goal

pub returns : goal.returns
returns c =
    let at_pre = c.requires in
    c.mark_found.ensures ∙ ap mark_found c.next_set.ensures ∙ mark-by _ _ _ at_pre.0 at_pre.1
