-- `retire::rolling::roll_row` meets its contract. Assumes nothing.
use mathlib.Core.Path.{sym}
use native.Mathlib.Omega.{arith}
use Rattle.paper.proofs.Logic.{people-says}
use Rattle.slotset.proofs.Puts.{puts_none}
use Rattle.slots.proofs.AvailLaws.{row-length, row_done}
use Rattle.retire.proofs.Bits.{row-turn}
use Rattle.retire.proofs.rolling.roll_row.Goals as goal

pub loop-k-init : goal.loop-k-init
loop-k-init c = sym (puts_none _ _ _ _)

pub overflow_cast-person : goal.overflow_cast-person
overflow_cast-person c =
    let pre = c.requires.people_value in
    omega (arith, (people-says _ pre.0).1, pre.2)

pub loop-k-preserved : goal.loop-k-preserved
loop-k-preserved c =
    let people = c.requires.people_value in
    row-turn _ _ _ _ _ _ _ people.0 c.requires.count_bound.0 people.2 people.1 _ _ _ _ c.loop-k.invariant c.loop-k-test.true
    c.holds_then-want.ensures c.put_stretch.ensures.1

pub shape_of-words : goal.shape_of-words
shape_of-words c = row-length _ _ _ _ _ c.loop-k.invariant

pub returns : goal.returns
returns c = row_done _ _ _ _ _ _ c.loop-k.invariant c.loop-k.auto.k-end c.loop-k-test.false
