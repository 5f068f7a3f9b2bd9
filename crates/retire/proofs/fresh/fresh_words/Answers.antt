-- `retire::fresh::fresh_words` meets its contract. Assumes nothing.
use borrow.Author.Rules.{rules}
use Rattle.retire.proofs.News.{words_are}
use Rattle.retire.proofs.fresh.fresh_words.Goals as goal

pub returns : goal.returns
returns c = words_are _ _ _ _ _ c.requires _ (search rules) _ c.availability.ensures.1
