-- `job::listing::digit_count` meets its contract. Assumes nothing.
use native.Mathlib.Omega.{arith}
use Rattle.job.proofs.Texts.{counting-start, counting_more, counting-end, counting-few}
use Rattle.job.proofs.listing.digit_count.Goals as goal

pub loop-rest-init : goal.loop-rest-init
loop-rest-init c = counting-start _

pub overflow_add-count : goal.overflow_add-count
overflow_add-count c = record { fits = omega (arith, counting-few _ _ _ c.ranges.n.fits c.loop-rest.invariant) }

pub loop-rest-smaller : goal.loop-rest-smaller
loop-rest-smaller c = omega (arith, c.loop-rest-test.true)

pub loop-rest-preserved : goal.loop-rest-preserved
loop-rest-preserved c = counting_more _ _ _ c.ranges.n.fits c.loop-rest-test.true c.loop-rest.invariant

pub returns : goal.returns
returns c = counting-end _ _ _ c.ranges.n.fits c.loop-rest-test.false c.loop-rest.invariant
