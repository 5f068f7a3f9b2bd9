-- `replay::reading::columns_room` meets its contract. Assumes nothing.
use Rattle.replay.specs.Reading.{columns_room}
use borrow.Author.Tests.{le-leb, lt-leb}
use Rattle.replay.proofs.reading.columns_room.Goals as goal

pub returns-then-n-seconds : goal.returns-then-n-seconds
unfolding columns_room
returns-then-n-seconds c = simp (le-leb _ _ c.if-n-draws.true, le-leb _ _ c.if-n-firsts.true, le-leb _ _ c.if-n-seconds.true)

pub returns-then-n-firsts : goal.returns-then-n-firsts
unfolding columns_room
returns-then-n-firsts c = simp (le-leb _ _ c.if-n-draws.true, le-leb _ _ c.if-n-firsts.true, lt-leb _ _ c.if-n-seconds.false)

pub returns-then-n-draws : goal.returns-then-n-draws
unfolding columns_room
returns-then-n-draws c = simp (le-leb _ _ c.if-n-draws.true, lt-leb _ _ c.if-n-firsts.false)

pub returns : goal.returns
unfolding columns_room
returns c = simp (lt-leb _ _ c.if-n-draws.false)
