-- `mend::listing::write_repair` meets its contract. Assumes nothing.
use Rattle.mend.proofs.ListLaws.{written_one}
use Rattle.mend.proofs.listing.write_repair.Goals as goal

pub returns : goal.returns
returns c = written_one _ _ _ _ _ _ _ c.requires
