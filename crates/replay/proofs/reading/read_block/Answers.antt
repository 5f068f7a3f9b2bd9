-- `replay::reading::read_block` meets its contract. Assumes nothing.
use borrow.Author.Rules.{rules}
use native.Mathlib.Omega.{arith}
use mathlib.Core.Path.{sym, ◌∙◌}
use Rattle.replay.proofs.Columns.{room_says, reads_all, reads_short}
use Rattle.replay.proofs.reading.read_block.Goals as goal

pub block_at-r-requires : goal.block_at-r-requires
block_at-r-requires c = search rules

pub draws_in-n-requires : goal.draws_in-n-requires
draws_in-n-requires c = search rules

pub columns_room-requires : goal.columns_room-requires
columns_room-requires c = search rules

pub read_fields-requires : goal.read_fields-requires
read_fields-requires c =
    let room = room_says _ _ _ _ _ (sym c.columns_room.ensures ∙ c.if-columns_room.true) in (
      omega (arith, c.draws_in-n.ensures, c.block_at-r.ensures.1),
      omega (arith, c.draws_in-n.ensures, c.block_at-r.ensures.2),
      omega arith,
      room.0,
    )

pub read_fields-requires-then-columns_room : goal.read_fields-requires-then-columns_room
read_fields-requires-then-columns_room c =
    let room = room_says _ _ _ _ _ (sym c.columns_room.ensures ∙ c.if-columns_room.true) in (
      omega (arith, c.draws_in-n.ensures, c.block_at-r.ensures.1),
      omega (arith, c.draws_in-n.ensures, c.block_at-r.ensures.2),
      omega arith,
      room.1,
    )

pub read_fields-requires-then-columns_room-2 : goal.read_fields-requires-then-columns_room-2
read_fields-requires-then-columns_room-2 c =
    let room = room_says _ _ _ _ _ (sym c.columns_room.ensures ∙ c.if-columns_room.true) in (
      omega (arith, c.draws_in-n.ensures, c.block_at-r.ensures.1),
      omega (arith, c.draws_in-n.ensures, c.block_at-r.ensures.2),
      omega arith,
      room.2,
    )

pub read_fields-requires-then-columns_room-3 : goal.read_fields-requires-then-columns_room-3
read_fields-requires-then-columns_room-3 c =
    let room = room_says _ _ _ _ _ (sym c.columns_room.ensures ∙ c.if-columns_room.true) in (
      omega (arith, c.draws_in-n.ensures, c.block_at-r.ensures.1),
      omega (arith, c.draws_in-n.ensures, c.block_at-r.ensures.2),
      omega arith,
      room.3,
    )

pub shape_of-draws-then-columns_room : goal.shape_of-draws-then-columns_room
shape_of-draws-then-columns_room c = search rules

pub shape_of-firsts-then-columns_room : goal.shape_of-firsts-then-columns_room
shape_of-firsts-then-columns_room c = search rules

pub shape_of-seconds-then-columns_room : goal.shape_of-seconds-then-columns_room
shape_of-seconds-then-columns_room c = search rules

pub shape_of-recorded-then-columns_room : goal.shape_of-recorded-then-columns_room
shape_of-recorded-then-columns_room c = search rules

pub returns-then-columns_room : goal.returns-then-columns_room
returns-then-columns_room c =
    reads_all _ _ _ _ _ _ _ c.block_at-r.ensures.0 _ c.draws_in-n.ensures _ _ _ _
    (sym c.columns_room.ensures ∙ c.if-columns_room.true) c.read_fields.ensures c.read_fields-then-columns_room.ensures
    c.read_fields-then-columns_room-2.ensures c.read_fields-then-columns_room-3.ensures

pub shape_of-draws : goal.shape_of-draws
shape_of-draws c = search rules

pub shape_of-firsts : goal.shape_of-firsts
shape_of-firsts c = search rules

pub shape_of-seconds : goal.shape_of-seconds
shape_of-seconds c = search rules

pub shape_of-recorded : goal.shape_of-recorded
shape_of-recorded c = search rules

pub returns : goal.returns
returns c =
    reads_short _ _ _ _ _ _ _ c.block_at-r.ensures.0 _ c.draws_in-n.ensures (sym c.columns_room.ensures ∙ c.if-columns_room.false)
