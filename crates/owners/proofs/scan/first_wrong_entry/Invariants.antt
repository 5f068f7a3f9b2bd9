-- `owners::scan::first_wrong_entry` meets its contract. Assumes nothing.
use Rattle.std.proofs.Common.{◌≡◌, true}
use Rattle.paper.specs.Count.{all}
use Rattle.owners.specs.Inside.{same_entry}
use Rattle.owners.proofs.scan.first_wrong_entry.Given as goal

abbrev pub invariant-loop-i : goal.invariant-loop-i
invariant-loop-i l = all l.i (same_entry l.column l.right) ≡ true
