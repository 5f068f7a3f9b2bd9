-- `units::starts::unit_begins` meets its contract. Assumes nothing.
use borrow.Author.Tests.{eq-eqb, ne_eqb}
use Rattle.units.specs.Starts.{rotation_begins, unit_begins}
use Rattle.units.proofs.starts.unit_begins.Goals as goal

pub returns-then-lock-eq0 : goal.returns-then-lock-eq0
unfolding unit_begins
returns-then-lock-eq0 c = simp (eq-eqb _ 0 c.if-lock-eq0.true)

pub returns-then-boundary-eq0 : goal.returns-then-boundary-eq0
unfolding unit_begins rotation_begins
returns-then-boundary-eq0 c = simp (ne_eqb _ 0 c.if-lock-eq0.false, eq-eqb _ 0 c.if-boundary-eq0.true) c.every_begins.ensures

pub returns : goal.returns
unfolding unit_begins rotation_begins
returns c = simp (ne_eqb _ 0 c.if-lock-eq0.false, ne_eqb _ 0 c.if-boundary-eq0.false) c.day_begins.ensures
