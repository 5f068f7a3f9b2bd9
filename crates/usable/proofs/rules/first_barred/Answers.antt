-- `usable::rules::first_barred` meets its contract. Assumes nothing.
use mathlib.Core.Path.{sym, ◌∙◌}
use native.Mathlib.Omega.{arith}
use Rattle.paper.proofs.Count.{all_none, all_more}
use Rattle.usable.proofs.Walks.{fault-at, fault-ends}
use Rattle.usable.proofs.rules.first_barred.Goals as goal

pub loop-k-init : goal.loop-k-init
loop-k-init c = all_none _

pub loop-k-preserved : goal.loop-k-preserved
loop-k-preserved c =
    all_more _ _ c.loop-k.invariant (sym c.is_allowed.ensures ∙ c.if-not-is_allowed.false)

pub returns-then-not-is_allowed : goal.returns-then-not-is_allowed
returns-then-not-is_allowed c =
    fault-at _ _ _ c.loop-k-test.true c.loop-k.invariant (sym c.is_allowed.ensures ∙ c.if-not-is_allowed.true)

pub returns : goal.returns
returns c = fault-ends _ _ _ (omega arith) c.loop-k-test.false c.loop-k.invariant
