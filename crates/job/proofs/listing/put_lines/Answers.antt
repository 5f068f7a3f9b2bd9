-- `job::listing::put_lines` meets its contract. Assumes nothing.
use mathlib.Core.List.{List, ◌++◌}
use Prim.Native.Nat.{ℕ, ◌+◌, ◌≤◌}
use lib.IntN.{ℤ}
use native.Mathlib.Omega.{arith}
use Rattle.job.specs.Listing.{lines, slot_at, person_at, draw_at, listing_of, uncovered_line}
use Rattle.records.proofs.Puts.{room-first, room_next, wrote-both}
use Rattle.job.proofs.listing.put_lines.Goals as goal

-- what follows the lines of slots, and those of people
abbrev from-draws : ℕ → List ℕ → ℕ → List ℕ
from-draws draws answers uncovered = lines (draw_at answers) draws ++ uncovered_line uncovered

abbrev from-people : ℕ → List ℕ → List ℤ → ℕ → List ℕ → ℕ → List ℕ
from-people people minutes targets draws answers uncovered = lines (person_at minutes targets) people ++ from-draws draws answers uncovered

from_front : {n m : ℕ} → n ≤ m → 0 + n ≤ m
from_front h = omega arith

pub put_slots-first-requires : goal.put_slots-first-requires
unfolding listing_of
put_slots-first-requires c =
    let a = c.args in record {
      n_in_bounds = c.requires.slots_in_bounds;
      n_in_bounds_2 = room-first (lines (slot_at a.starts.now a.ends.now a.owners.now) a.slots)
          (from-people a.people a.minutes.now a.targets.now a.draws a.answers.now a.uncovered) 0
          (from_front c.requires.uncovered_in_bounds);
    }

pub put_people-second-requires : goal.put_people-second-requires
unfolding listing_of
put_people-second-requires c =
    let a = c.args in
    let rest = from-draws a.draws a.answers.now a.uncovered in
    let first = room_next (from-people a.people a.minutes.now a.targets.now a.draws a.answers.now a.uncovered)
    c.put_slots-first.ensures (from_front c.requires.uncovered_in_bounds) in record { n_in_bounds = (c.requires.people_in_bounds.0, c.requires.people_in_bounds.1); n_in_bounds_2 = room-first (lines (person_at a.minutes.now a.targets.now) a.people) rest _ first }

pub put_draws-third-requires : goal.put_draws-third-requires
unfolding listing_of
put_draws-third-requires c =
    let a = c.args in
    let first = room_next (from-people a.people a.minutes.now a.targets.now a.draws a.answers.now a.uncovered)
    c.put_slots-first.ensures (from_front c.requires.uncovered_in_bounds) in
    let second = room_next (from-draws a.draws a.answers.now a.uncovered) c.put_people-second.ensures first in
    record { n_in_bounds = c.requires.people_in_bounds.2; n_in_bounds_2 = room-first (lines (draw_at a.answers.now) a.draws) (uncovered_line a.uncovered) _ second }

pub put_head-requires : goal.put_head-requires
unfolding listing_of uncovered_line
put_head-requires c =
    let a = c.args in
    let first = room_next (from-people a.people a.minutes.now a.targets.now a.draws a.answers.now a.uncovered)
    c.put_slots-first.ensures (from_front c.requires.uncovered_in_bounds) in
    let second = room_next (from-draws a.draws a.answers.now a.uncovered) c.put_people-second.ensures first in
    room_next (uncovered_line a.uncovered) c.put_draws-third.ensures second

pub returns : goal.returns
unfolding listing_of uncovered_line
returns c =
    let a = c.args in
    let first = room_next (from-people a.people a.minutes.now a.targets.now a.draws a.answers.now a.uncovered)
    c.put_slots-first.ensures (from_front c.requires.uncovered_in_bounds) in
    let second = room_next (from-draws a.draws a.answers.now a.uncovered) c.put_people-second.ensures first in
    wrote-both c.put_slots-first.ensures
    (wrote-both c.put_people-second.ensures (wrote-both c.put_draws-third.ensures c.put_head.ensures second) first)
    (from_front c.requires.uncovered_in_bounds)
