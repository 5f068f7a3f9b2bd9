-- `slotset::check_stretch` meets its contract. Assumes nothing.
use Rattle.paper.proofs.Rows.{renamed}
use Rattle.slotset.proofs.check_stretch.Goals as goal

pub returns : goal.returns
returns c = renamed _ _ c.check.ensures c.stretch_ok.ensures
