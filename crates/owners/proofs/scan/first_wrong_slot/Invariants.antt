-- `owners::scan::first_wrong_slot` meets its contract. Assumes nothing.
use Rattle.std.proofs.Common.{◌≡◌, true}
use Rattle.paper.specs.Count.{all}
use Rattle.owners.specs.Recount.{set_slot_at}
use Rattle.owners.proofs.scan.first_wrong_slot.Given as goal

abbrev pub invariant-loop-k : goal.invariant-loop-k
invariant-loop-k l = all l.k (set_slot_at l.owners l.sets l.person) ≡ true
