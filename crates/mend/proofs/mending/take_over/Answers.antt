-- `mend::mending::take_over` meets its contract. Assumes nothing.
use Rattle.mend.proofs.Made.{rota-same, copied-front}
use Rattle.mend.proofs.mending.take_over.Goals as goal

pub returns : goal.returns
returns c =
    let from = c.requires.new_room in
    let to = c.requires.new_room_2 in
    rota-same (copied-front _ _ _ _ from.owners to.owners c.copy_from_slice.ensures.after)
    (copied-front _ _ _ _ from.sets to.sets c.copy_from_slice-2.ensures.after)
    (copied-front _ _ _ _ from.minutes to.minutes c.copy_from_slice-3.ensures.after)
    (copied-front _ _ _ _ from.totals to.totals c.copy_from_slice-4.ensures.after)
