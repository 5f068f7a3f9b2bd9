-- `retire::figures::add_priors` meets its contract. Assumes nothing.
use native.Mathlib.Omega.{arith}
use Rattle.retire.proofs.Figured.{prior-by, priors-none, priors-length, prior-read, priors-more, priors-done}
use Rattle.retire.proofs.figures.add_priors.Goals as goal

pub loop-p-init : goal.loop-p-init
loop-p-init c = priors-none _ _ _ _ _ _

pub bounds-priors-p : goal.bounds-priors-p
bounds-priors-p c = omega (arith, priors-length _ _ _ _ _ _ _ _ c.loop-p.invariant)

pub overflow_add-priors : goal.overflow_add-priors
overflow_add-priors c =
    let a = c.args in
    let had = prior-read _ _ _ _ _ _ _ _ _ c.loop-p.invariant c.from-had.ensures in
    let sum = prior-by a.people a.gone _ _ _ a.priors.now _ _ _ had c.minutes_gone-more.ensures in
    omega (arith, sum, c.requires.by_index c.loop-p.p c.loop-p-test.true)

pub overflow_cast-priors : goal.overflow_cast-priors
overflow_cast-priors c =
    let a = c.args in
    let had = prior-read _ _ _ _ _ _ _ _ _ c.loop-p.invariant c.from-had.ensures in
    let sum = prior-by a.people a.gone _ _ _ a.priors.now _ _ _ had c.minutes_gone-more.ensures in
    omega (arith, sum, c.requires.by_index c.loop-p.p c.loop-p-test.true)

pub bounds-priors-p-in-loop-p : goal.bounds-priors-p-in-loop-p
bounds-priors-p-in-loop-p c = omega (arith, priors-length _ _ _ _ _ _ _ _ c.loop-p.invariant)

pub loop-p-preserved : goal.loop-p-preserved
loop-p-preserved c =
    let a = c.args in
    let had = prior-read _ _ _ _ _ _ _ _ _ c.loop-p.invariant c.from-had.ensures in
    let sum = prior-by a.people a.gone _ _ _ a.priors.now _ _ _ had c.minutes_gone-more.ensures in
    priors-more _ _ _ _ _ _ _ _ _ c.loop-p.invariant sum

pub shape_of-priors : goal.shape_of-priors
shape_of-priors c = priors-length _ _ _ _ _ _ _ _ c.loop-p.invariant

pub returns : goal.returns
returns c = priors-done _ _ _ _ _ _ _ _ c.loop-p.invariant c.loop-p.auto.p-end c.loop-p-test.false
