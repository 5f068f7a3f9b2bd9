-- `units::starts::date_begins` meets its contract. Assumes nothing.
use mathlib.Core.Path.{sym, ◌∙◌}
use borrow.Author.Tests.{eq-eqb}
use Rattle.units.proofs.Begins.{date-first, date-later}
use Rattle.units.proofs.starts.date_begins.Goals as goal

pub returns-then-k-eq0 : goal.returns-then-k-eq0
returns-then-k-eq0 c = eq-eqb _ 0 c.if-k-eq0.true ∙ sym (date-first _ _ c.if-k-eq0.true)

pub returns-else-k-eq0 : goal.returns-else-k-eq0
returns-else-k-eq0 c = date-later _ _ _ _ c.if-k-eq0.false c.start_date.ensures c.start_date-else-k-eq0.ensures
