-- `job::listing::letter_of` meets its contract. Assumes nothing.
use Rattle.job.proofs.Texts.{letter-acted, letter-none, letter-outside}
use Rattle.job.proofs.listing.letter_of.Goals as goal

pub returns-then-answer-eq0 : goal.returns-then-answer-eq0
returns-then-answer-eq0 c = letter-acted _ c.if-answer-eq0.true

pub returns-then-answer-eq1 : goal.returns-then-answer-eq1
returns-then-answer-eq1 c = letter-none _ c.if-answer-eq0.false c.if-answer-eq1.true

pub returns : goal.returns
returns c = letter-outside _ c.if-answer-eq0.false c.if-answer-eq1.false
