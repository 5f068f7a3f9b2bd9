-- `job::prepare::frozen_of` meets its contract. Assumes nothing.
use Rattle.job.proofs.Readings.{read-freeze, frozen-are}
use Rattle.job.proofs.prepare.frozen_of.Goals as goal

pub instant_in-instant-requires : goal.instant_in-instant-requires
instant_in-instant-requires c = read-freeze c.requires

pub returns : goal.returns
returns c = frozen-are c.requires _ _ _ _ _ c.instant_in-instant.ensures c.frozen_in.ensures
