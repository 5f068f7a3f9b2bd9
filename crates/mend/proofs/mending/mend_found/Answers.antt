-- `mend::mending::mend_found` meets its contract. Assumes nothing.
use mathlib.Core.Path.{◌∙◌}
use Prim.Native.Nat.{ℕ}
use lib.ListN.{length-replicate}
use Rattle.mend.proofs.Ending.{mendable, found-room, people-few, slots-few, local-room, ended-as, writes-due}
use Rattle.mend.proofs.mending.mend_found.Goals as goal

pub work_out-requires : goal.work_out-requires
work_out-requires c =
    let z = c.requires in record {
      mendable = mendable _ _ _ _ _ _ z;
      new_room = local-room _ _ _ _ _ _ z _ _ _ _ (length-replicate {A = ℕ} 1024 0) (length-replicate {A = ℕ} 512 0)
          (length-replicate {A = ℕ} 32 0) (length-replicate {A = ℕ} 2 0);
    }

pub write_out-requires : goal.write_out-requires
write_out-requires c =
    let z = c.requires in
    let w = c.work_out in
    let new = local-room _ _ _ _ _ _ z _ _ _ _ (w.auto.new_owners ∙ length-replicate {A = ℕ} 1024 0)
    (w.auto.new_sets ∙ length-replicate {A = ℕ} 512 0)
    (w.auto.new_minutes ∙ length-replicate {A = ℕ} 32 0)
    (w.auto.new_totals ∙ length-replicate {A = ℕ} 2 0) in
    record { people_bound = (people-few _ _ _ _ _ _ z, slots-few _ _ _ _ _ _ z); new_room = new; new_room_2 = found-room _ _ _ _ _ _ z }

pub returns : goal.returns
returns c =
    ended-as _ _ _ _ _ (writes-due _ _ _ _ _ _ c.requires _ _ _ _ c.work_out.ensures _) c.write_out.ensures
