-- `units::starts::start_date` meets its contract. Assumes nothing.
use mathlib.Core.Path.{ap, ◌∙◌}
use Rattle.units.specs.Dates.{date_of}
use Rattle.units.proofs.starts.start_date.Goals as goal

pub returns : goal.returns
returns c = c.date_of.ensures ∙ ap date_of c.entry_of.ensures
