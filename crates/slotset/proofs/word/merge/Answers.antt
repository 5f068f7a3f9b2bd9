-- `slotset::word::merge` meets its contract. Assumes nothing.
use Rattle.slotset.proofs.Words.{merge-law}
use Rattle.slotset.proofs.word.merge.Goals as goal

pub returns : goal.returns
returns c = merge-law _ _ _ _ c.requires.0 c.requires.1
