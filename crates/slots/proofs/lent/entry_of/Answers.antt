-- `slots::lent::entry_of` meets its contract. Assumes nothing.
use mathlib.Core.Path.{sym}
use lib.ListN.{get_or-eq_default}
use Rattle.slots.proofs.lent.entry_of.Goals as goal

pub returns-else-k-column : goal.returns-else-k-column
returns-else-k-column c = sym (get_or-eq_default c.args.column.now 0 c.if-k-column.false)
