-- `slotset::word::same_below` meets its contract. Assumes nothing.
use Rattle.slotset.proofs.Words.{same-law}
use Rattle.slotset.proofs.word.same_below.Goals as goal

pub returns : goal.returns
returns c = same-law _ _ _ c.requires.0 c.requires.1 c.ranges.a.fits c.ranges.b.fits
