-- `job::shown::put_block_lines` meets its contract. Assumes nothing.
use borrow.Author.Rules.{rules}
use native.Mathlib.Omega.{arith}
use mathlib.Core.List.{◌++◌}
use Prim.Native.Nat.{ℕ, ◌+◌, ◌≤◌}
use Rattle.job.specs.Listing.{lines, slot_at, person_at, head_text}
use Rattle.job.specs.Shown.{block_text}
use Rattle.records.proofs.Puts.{room-first, room_next, wrote-both}
use Rattle.job.proofs.shown.put_block_lines.Goals as goal

from_front : {n m : ℕ} → n ≤ m → 0 + n ≤ m
from_front h = omega arith

pub put_head-first-requires : goal.put_head-first-requires
unfolding block_text
put_head-first-requires c =
    let a = c.args in
    room-first (head_text 66 a.block 10) ((lines (slot_at a.starts.now a.ends.now a.owners.now) a.slots) ++
    (lines (person_at a.minutes.now a.targets.now) a.people)) 0 (from_front c.requires.targets_in_bounds)

pub put_slots-second-requires : goal.put_slots-second-requires
unfolding block_text
put_slots-second-requires c =
    let a = c.args in
    let first = room_next ((lines (slot_at a.starts.now a.ends.now a.owners.now) a.slots) ++ (lines (person_at a.minutes.now a.targets.now) a.people))
    c.put_head-first.ensures (from_front c.requires.targets_in_bounds) in record {
      n_in_bounds = c.requires.slots_in_bounds;
      n_in_bounds_2 = room-first (lines (slot_at a.starts.now a.ends.now a.owners.now) a.slots) (lines (person_at a.minutes.now a.targets.now) a.people)
          _ first;
    }

pub put_people-requires : goal.put_people-requires
unfolding block_text
put_people-requires c =
    let a = c.args in
    let first = room_next ((lines (slot_at a.starts.now a.ends.now a.owners.now) a.slots) ++ (lines (person_at a.minutes.now a.targets.now) a.people))
    c.put_head-first.ensures (from_front c.requires.targets_in_bounds) in
    record { n_in_bounds = c.requires.people_in_bounds; n_in_bounds_2 = room_next (lines (person_at a.minutes.now a.targets.now) a.people) c.put_slots-second.ensures first }

pub shape_of-out : goal.shape_of-out
shape_of-out c = search rules

pub returns : goal.returns
unfolding block_text
returns c =
    let a = c.args in
    let first = room_next ((lines (slot_at a.starts.now a.ends.now a.owners.now) a.slots) ++ (lines (person_at a.minutes.now a.targets.now) a.people))
    c.put_head-first.ensures (from_front c.requires.targets_in_bounds) in
    wrote-both c.put_head-first.ensures
    (wrote-both c.put_slots-second.ensures c.put_people.ensures first)
    (from_front c.requires.targets_in_bounds)
