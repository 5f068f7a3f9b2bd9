-- `job::listing::put_slot` meets its contract. Assumes nothing.
use mathlib.Core.List.{List, [], ◌∷◌, ◌++◌}
use Prim.Native.Nat.{ℕ}
use Rattle.records.proofs.Puts.{room-first, room_next, wrote-both}
use Rattle.job.specs.Listing.{digits, owner_text, head_text, slot_line}
use Rattle.job.proofs.listing.put_slot.Goals as goal

-- what follows the slot's number, its start and its end in the line
abbrev from-owner : ℕ → List ℕ
from-owner owner = owner_text owner ++ (10 ∷ [])

abbrev from_end : ℕ → ℕ → List ℕ
from_end end owner = digits end ++ (32 ∷ []) ++ from-owner owner

abbrev from_start : ℕ → ℕ → ℕ → List ℕ
from_start start end owner = digits start ++ (32 ∷ []) ++ from_end end owner

pub put_head-first-requires : goal.put_head-first-requires
unfolding slot_line
put_head-first-requires c =
    room-first (head_text 83 c.args.k 32) (from_start c.args.start c.args.end c.args.owner) _ c.requires

pub put_number_then-second-requires : goal.put_number_then-second-requires
unfolding slot_line
put_number_then-second-requires c =
    let first = room_next (from_start c.args.start c.args.end c.args.owner) c.put_head-first.ensures c.requires in
    room-first (digits c.args.start ++ (32 ∷ [])) (from_end c.args.end c.args.owner) _ first

pub put_number_then-third-requires : goal.put_number_then-third-requires
unfolding slot_line
put_number_then-third-requires c =
    let first = room_next (from_start c.args.start c.args.end c.args.owner) c.put_head-first.ensures c.requires in
    let second = room_next (from_end c.args.end c.args.owner) c.put_number_then-second.ensures first in
    room-first (digits c.args.end ++ (32 ∷ [])) (from-owner c.args.owner) _ second

pub put_owner-requires : goal.put_owner-requires
unfolding slot_line
put_owner-requires c =
    let first = room_next (from_start c.args.start c.args.end c.args.owner) c.put_head-first.ensures c.requires in
    let second = room_next (from_end c.args.end c.args.owner) c.put_number_then-second.ensures first in
    room_next (from-owner c.args.owner) c.put_number_then-third.ensures second

pub returns : goal.returns
unfolding slot_line
returns c =
    let first = room_next (from_start c.args.start c.args.end c.args.owner) c.put_head-first.ensures c.requires in
    let second = room_next (from_end c.args.end c.args.owner) c.put_number_then-second.ensures first in
    wrote-both c.put_head-first.ensures
    (wrote-both c.put_number_then-second.ensures (wrote-both c.put_number_then-third.ensures c.put_owner.ensures second)
    first) c.requires
