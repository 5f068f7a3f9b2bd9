-- `job::listing::digit_count` meets its contract. Assumes nothing.
use Rattle.job.proofs.Texts.{Counting}
use Rattle.job.proofs.listing.digit_count.Given as goal

abbrev pub invariant-loop-rest : goal.invariant-loop-rest
invariant-loop-rest l = Counting l.n l.count l.rest

abbrev pub decreases-loop-rest : goal.decreases-loop-rest
decreases-loop-rest l = l.rest
