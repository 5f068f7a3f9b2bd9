-- `units::lent::start_of` meets its contract. Assumes nothing.
use mathlib.Core.Path.{sym}
use lib.ListN.{get_or-eq_default}
use Rattle.units.proofs.lent.start_of.Goals as goal

pub returns-else-u-begins : goal.returns-else-u-begins
returns-else-u-begins c = sym (get_or-eq_default c.args.begins.now 0 c.if-u-begins.false)
