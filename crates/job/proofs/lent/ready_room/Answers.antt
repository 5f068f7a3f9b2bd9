-- `job::lent::ready_room` meets its contract. Assumes nothing.
use lib.Dec.{leb}
use lib.ListN.{length}
use Rattle.job.specs.Begun.{ready_room}
use Rattle.job.proofs.Lays.{and_then}
use Rattle.job.proofs.lent.ready_room.Goals as goal

pub returns : goal.returns
unfolding ready_room
returns c =
    let a = c.args in
    and_then _ (leb 1024 (length a.starts.now)) c.both.ensures (and_then _ (leb 1024 (length a.ends.now)) c.both-rest.ensures
    (and_then _ (leb 512 (length a.avail.now)) c.both-words.ensures (and_then _ (leb 1024 (length a.begins.now))
    c.both-more.ensures c.both-last.ensures)))
