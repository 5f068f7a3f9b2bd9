-- `units::lent::units_ok` meets its contract. Assumes nothing.
use mathlib.Core.Path.{sym, ◌∙◌}
use borrow.Author.Rules.{rules}
use borrow.Author.Tests.{lt-leb, le-leb}
use Rattle.paper.proofs.Count.{all_none, all_more, all-fails, all_done}
use Rattle.units.specs.Units.{units_ok}
use Rattle.units.proofs.lent.units_ok.Goals as goal

pub returns-then-units-lt1 : goal.returns-then-units-lt1
unfolding units_ok
returns-then-units-lt1 c = simp (lt-leb 1 _ c.if-units-lt1.true)

pub returns-then-begins-units : goal.returns-then-begins-units
unfolding units_ok
returns-then-begins-units c = simp (le-leb 1 _ c.if-units-lt1.false, lt-leb _ _ c.if-begins-units.true)

pub loop-u-init : goal.loop-u-init
loop-u-init c = (search rules, all_none _, search rules, search rules)

pub loop-u-preserved : goal.loop-u-preserved
loop-u-preserved c =
    let at = c.loop-u in
    (search rules, all_more _ _ at.invariant.1 (sym c.start_ok.ensures ∙ c.if-not-start_ok.false), at.invariant.2, at.invariant.3)

pub returns-then-not-start_ok : goal.returns-then-not-start_ok
unfolding units_ok
returns-then-not-start_ok c =
    let at = c.loop-u in
    simp (le-leb 1 _ at.invariant.2, le-leb _ _ at.invariant.3)
    (sym (all-fails _ _ _ c.loop-u-test.true (sym c.start_ok.ensures ∙ c.if-not-start_ok.true)))

pub returns : goal.returns
unfolding units_ok
returns c =
    let at = c.loop-u in
    simp (le-leb 1 _ at.invariant.2, le-leb _ _ at.invariant.3) (all_done _ _ _ at.invariant.0 c.loop-u-test.false at.invariant.1)
