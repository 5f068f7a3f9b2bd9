-- `slotset::stretch_ok` meets its contract. Assumes nothing.
use borrow.Author.Tests.{le-leb, lt-leb}
use Rattle.slotset.specs.Answers.{stretch_ok}
use Rattle.slotset.proofs.stretch_ok.Goals as goal

pub returns-then-to-from : goal.returns-then-to-from
unfolding stretch_ok
returns-then-to-from c = simp (le-leb _ _ c.if-to-from.true)

pub returns : goal.returns
unfolding stretch_ok
returns c = simp (lt-leb _ _ c.if-to-from.false)
