-- `paper::check_people` meets its contract. Assumes nothing.
use Rattle.paper.proofs.Rows.{renamed}
use Rattle.paper.proofs.check_people.Goals as goal

pub returns : goal.returns
returns c = renamed _ _ c.check.ensures c.people_ok.ensures
