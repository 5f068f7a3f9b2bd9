-- `slots::avail::fill_rows` meets its contract. Assumes nothing.
use native.Mathlib.Omega.{arith}
use Rattle.slots.proofs.AvailLaws.{rows_none, rows_more, rows-done}
use Rattle.slots.proofs.avail.fill_rows.Goals as goal

pub loop-person-init : goal.loop-person-init
loop-person-init c = rows_none _ _ _

pub loop-person-preserved : goal.loop-person-preserved
loop-person-preserved c = rows_more _ _ _ _ _ _ c.loop-person.invariant c.fill_row.ensures

pub returns : goal.returns
returns c = rows-done _ _ _ _ _ _ c.loop-person.invariant (omega arith) c.loop-person-test.false
