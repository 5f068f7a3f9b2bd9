-- `job::listing::put_byte` meets its contract. Assumes nothing.
use Rattle.records.proofs.Puts.{wrote_one}
use Rattle.job.proofs.listing.put_byte.Goals as goal

pub returns : goal.returns
returns c = wrote_one _ _ _ c.requires
