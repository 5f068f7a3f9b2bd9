-- `job::listing::put_number`: a tenth of the number is smaller. Assumes nothing.
use Rattle.job.proofs.listing.+put_number.Given as goal

abbrev pub decreases-put_number : goal.decreases-put_number
decreases-put_number l = l.n
