-- `slotset::row::all_same` meets its contract. The invariant: the sets of the first p people are the same. Assumes nothing.
use mathlib.Core.Path.{◌≡◌}
use mathlib.Core.Bool.{true}
use Rattle.slotset.specs.Answers.{same_sets}
use Rattle.slotset.proofs.row.all_same.Given as goal

abbrev pub invariant-loop-p : goal.invariant-loop-p
invariant-loop-p l = same_sets l.a l.b l.p l.len ≡ true
