-- `slotset::word::first_bit` meets its contract. Assumes nothing.
use borrow.Author.Rules.{rules}
use mir.Facts.{Fits-le, Fits-lit}
use lib.Count.{trailing_le}
use Rattle.slotset.proofs.Words.{first-law}
use Rattle.slotset.proofs.word.first_bit.Goals as goal

pub overflow_cast-result : goal.overflow_cast-result
overflow_cast-result c = Fits-le (trailing_le 64 _) (Fits-lit tt)

pub returns : goal.returns
returns c = first-law _ _ _ _ c.wanted.ensures (search rules)
