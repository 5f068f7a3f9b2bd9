-- `units::domains::clear` meets its contract. Assumes nothing.
use mathlib.Core.Path.{ap, ◌∙◌}
use Rattle.units.specs.Inside.{is_nothing}
use Rattle.units.proofs.Sets.{clear-law}
use Rattle.units.proofs.domains.clear.Goals as goal

pub returns : goal.returns
returns c = c.is_nothing.ensures ∙ ap is_nothing c.next_set.ensures ∙ clear-law _ _ _
