-- `slots::lent::demand_of` meets its contract. Assumes nothing.
use mathlib.Core.Path.{sym, ◌∙◌}
use native.Mathlib.Omega.{arith}
use Rattle.paper.proofs.Count.{sum-none, sum_done}
use Rattle.slots.specs.Lent.{demand_of, demand_when_ok}
use Rattle.slots.proofs.LentLaws.{turn-adds, turn-fits}
use Rattle.slots.proofs.lent.demand_of.Goals as goal

pub loop-i-init : goal.loop-i-init
loop-i-init c = sym (sum-none _)

pub overflow_add-total : goal.overflow_add-total
overflow_add-total c =
    let ok = sym c.slots_ok.ensures ∙ c.if-slots_ok.true in
    omega (arith, turn-fits _ _ _ _ _ c.loop-i.invariant c.minutes_at-total.ensures _ ok c.loop-i-test.true)

pub loop-i-preserved : goal.loop-i-preserved
loop-i-preserved c = turn-adds _ _ _ _ _ c.loop-i.invariant c.minutes_at-total.ensures

pub returns-after-loop-i : goal.returns-after-loop-i
unfolding demand_when_ok demand_of
returns-after-loop-i c =
    let ok = sym c.slots_ok.ensures ∙ c.if-slots_ok.true in
    simp ok (sum_done _ _ _ _ (omega arith) c.loop-i-test.false c.loop-i.invariant)

pub returns-else-slots_ok : goal.returns-else-slots_ok
unfolding demand_when_ok
returns-else-slots_ok c = let f = sym c.slots_ok.ensures ∙ c.if-slots_ok.false in simp f
