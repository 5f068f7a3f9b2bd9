-- `mend::listing::list_words` meets its contract. Assumes nothing.
use Rattle.mend.proofs.ListLaws.{Reached}
use Rattle.mend.proofs.listing.list_words.Given as goal

abbrev pub invariant-loop-k : goal.invariant-loop-k
invariant-loop-k l = Reached l.part (λ _. 0) l.old l.new l.n l.at l.initial.list l.k l.done l.list
