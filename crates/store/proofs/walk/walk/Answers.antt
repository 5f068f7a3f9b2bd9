-- `store::walk::walk` meets its contract. The invariant: `count` right records stand between the first byte and `at`. Assumes nothing.
use mathlib.Core.Path.{sym, ◌∙◌}
use native.Mathlib.Omega.{arith}
use Rattle.store.proofs.Right.{step-some, step-none}
use Rattle.store.proofs.Counted.{walking-none, walking-more, walking-stops, walking-done}
use Rattle.store.proofs.walk.walk.Goals as goal

pub loop-count-init : goal.loop-count-init
loop-count-init c = walking-none _ _

pub returns-in-None : goal.returns-in-None
returns-in-None c =
    let W = c.loop-count.invariant in
    (walking-stops _ _ _ _ W (step-none _ _ (sym c.in-None.is ∙ c.step_at.ensures)), W.place)

pub overflow_add-at : goal.overflow_add-at
overflow_add-at c =
    let t = step-some _ _ _ (sym c.in-Some.is ∙ c.step_at.ensures) in
    omega (arith, (walking-more _ _ _ _ c.loop-count.invariant _ t.0 t.1 (omega arith)).within)

pub loop-count-preserved : goal.loop-count-preserved
loop-count-preserved c =
    let t = step-some _ _ _ (sym c.in-Some.is ∙ c.step_at.ensures) in
    walking-more _ _ _ _ c.loop-count.invariant _ t.0 t.1 (omega arith)

pub returns : goal.returns
returns c = walking-done _ _ _ _ c.loop-count.invariant (omega arith)
