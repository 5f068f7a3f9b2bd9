-- `slotset::row::all_same` meets its contract. The invariant: the sets of the first p people are the same. Assumes nothing.
use mathlib.Core.Path.{sym, ◌∙◌}
use native.Mathlib.Omega.{arith}
use Rattle.paper.proofs.Count.{all_none, all_more, all-fails, all_done}
use Rattle.slotset.specs.Answers.{same_sets}
use Rattle.slotset.proofs.row.all_same.Goals as goal

pub loop-p-init : goal.loop-p-init
unfolding same_sets
loop-p-init c = all_none _

pub same-requires : goal.same-requires
same-requires c = (omega arith, omega arith, omega arith)

pub loop-p-preserved : goal.loop-p-preserved
unfolding same_sets
loop-p-preserved c = all_more _ _ c.loop-p.invariant (sym c.same.ensures ∙ c.if-not-same.false)

pub returns-then-not-same : goal.returns-then-not-same
unfolding same_sets
returns-then-not-same c = sym (all-fails _ _ _ c.loop-p-test.true (sym c.same.ensures ∙ c.if-not-same.true))

pub returns : goal.returns
unfolding same_sets
returns c = all_done _ _ _ (omega arith) c.loop-p-test.false c.loop-p.invariant
