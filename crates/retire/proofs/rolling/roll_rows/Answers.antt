-- `retire::rolling::roll_rows` meets its contract. Assumes nothing.
use native.Mathlib.Omega.{arith}
use Rattle.slots.proofs.AvailLaws.{rows_none, rows-length, rows-done}
use Rattle.retire.proofs.Bits.{rows-turn}
use Rattle.retire.proofs.rolling.roll_rows.Goals as goal

pub loop-person-init : goal.loop-person-init
loop-person-init c = rows_none _ _ _

pub roll_row-requires : goal.roll_row-requires
roll_row-requires c =
    let pre = c.requires.people_value in
    record {
      people_value = (pre.0, omega (arith, rows-length _ _ _ _ _ c.loop-person.invariant), c.loop-person-test.true);
      count_bound = c.requires.count_bound;
    }

pub loop-person-preserved : goal.loop-person-preserved
loop-person-preserved c =
    let count = c.requires.count_bound in
    rows-turn _ _ _ _ _ _ count.0 count.1 c.requires.people_value.1 _ _ _ c.loop-person.invariant c.loop-person-test.true c.roll_row.ensures

pub shape_of-words : goal.shape_of-words
shape_of-words c = rows-length _ _ _ _ _ c.loop-person.invariant

pub returns : goal.returns
returns c = rows-done _ _ _ _ _ _ c.loop-person.invariant c.loop-person.auto.person-end c.loop-person-test.false
