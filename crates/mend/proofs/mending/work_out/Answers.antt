-- `mend::mending::work_out` meets its contract. Assumes nothing.
use Rattle.mend.proofs.Made.{copied-front, worked-out}
use Rattle.mend.proofs.mending.work_out.Goals as goal

pub returns : goal.returns
returns c =
    let m = c.requires.mendable in
    let r = c.requires.new_room in
    worked-out _ _ _ _ _ _ m _ _ _ _ r _ _ _ (copied-front _ _ _ _ m.owners-room r.owners c.copy_from_slice.ensures.after)
    c.clear_barred.ensures c.clear_uneven.ensures _ (copied-front _ _ _ _ m.sets-room r.sets c.copy_from_slice-2.ensures.after) _ _ _ _
    c.from_slots.ensures
