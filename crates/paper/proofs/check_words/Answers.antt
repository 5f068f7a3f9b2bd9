-- `paper::check_words` meets its contract. Assumes nothing.
use Rattle.paper.proofs.Rows.{renamed}
use Rattle.paper.proofs.check_words.Goals as goal

pub returns : goal.returns
returns c = renamed _ _ c.check.ensures c.words_ok.ensures
