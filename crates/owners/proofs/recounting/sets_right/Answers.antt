-- `owners::recounting::sets_right` meets its contract. Assumes nothing.
use Rattle.std.proofs.Common.{ap, ◌∙◌}
use Rattle.owners.specs.Inside.{is_yes}
use Rattle.owners.proofs.RecountRefusals.{yes-same}
use Rattle.owners.proofs.recounting.sets_right.Goals as goal

pub returns : goal.returns
returns c =
    let p = c.requires in
    c.is_yes.ensures ∙ ap is_yes c.same_sets.ensures ∙ yes-same _ _ _ _ p.0 p.1 p.2 p.3 p.4
