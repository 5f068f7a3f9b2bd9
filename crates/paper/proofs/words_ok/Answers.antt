-- `paper::words_ok` meets its contract. Assumes nothing.
use Rattle.paper.proofs.Refusals.{words-room}
use lib.ListN.{length}
use Rattle.paper.proofs.words_ok.Goals as goal

pub returns : goal.returns
returns c = words-room c.args.people (length c.args.words.now)
