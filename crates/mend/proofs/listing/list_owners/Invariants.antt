-- `mend::listing::list_owners` meets its contract. Assumes nothing.
use Rattle.mend.specs.Repairs.{flag_of}
use Rattle.mend.proofs.ListLaws.{Reached}
use Rattle.mend.proofs.listing.list_owners.Given as goal

abbrev pub invariant-loop-k : goal.invariant-loop-k
invariant-loop-k l = Reached 0 (flag_of l.frozen 0) l.old l.new l.n l.at l.initial.list l.k l.done l.list
