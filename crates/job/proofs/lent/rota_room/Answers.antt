-- `job::lent::rota_room` meets its contract. Assumes nothing.
use lib.Dec.{leb}
use lib.ListN.{length}
use Rattle.job.specs.Begun.{rota_room}
use Rattle.job.proofs.Lays.{and_then}
use Rattle.job.proofs.lent.rota_room.Goals as goal

pub returns : goal.returns
unfolding rota_room
returns c =
    let a = c.args in
    and_then _ (leb 1024 (length a.owners.now)) c.both.ensures (and_then _ (leb 512 (length a.sets.now)) c.both-rest.ensures
    c.both-last.ensures)
