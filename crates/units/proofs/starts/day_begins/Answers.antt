-- `units::starts::day_begins` meets its contract. Assumes nothing.
use mathlib.Core.Path.{sym, ap, ◌∙◌}
use borrow.Author.Tests.{eq-eqb}
use Rattle.units.specs.Dates.{listed}
use Rattle.units.proofs.Begins.{day-first, day-later}
use Rattle.units.proofs.starts.day_begins.Goals as goal

pub returns-then-k-eq0 : goal.returns-then-k-eq0
returns-then-k-eq0 c = eq-eqb _ 0 c.if-k-eq0.true ∙ sym (day-first _ _ _ c.if-k-eq0.true)

pub returns-then-date_begins : goal.returns-then-date_begins
returns-then-date_begins c =
    simp (day-later c.args.mask c.args.starts.now c.args.k c.if-k-eq0.false, sym c.date_begins.ensures ∙ c.if-date_begins.true)
    (c.listed.ensures ∙ ap (listed _) c.start_date.ensures)

pub returns-else-date_begins : goal.returns-else-date_begins
returns-else-date_begins c =
    simp (day-later c.args.mask c.args.starts.now c.args.k c.if-k-eq0.false, sym c.date_begins.ensures ∙ c.if-date_begins.false)
    c.if-date_begins.false
