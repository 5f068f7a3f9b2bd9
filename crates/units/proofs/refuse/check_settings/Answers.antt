-- `units::refuse::check_settings` meets its contract. Assumes nothing.
use Rattle.paper.proofs.Rows.{renamed}
use Rattle.units.proofs.refuse.check_settings.Goals as goal

pub returns : goal.returns
returns c = renamed _ _ c.check.ensures c.settings_ok.ensures
