-- `mend::listing::count_words` meets its contract. Assumes nothing.
use mathlib.Core.Path.{◌≡◌}
use Prim.Native.Nat.{◌≤◌}
use Rattle.paper.specs.Count.{count}
use Rattle.mend.specs.Repairs.{differs_at}
use Rattle.mend.proofs.listing.count_words.Given as goal

abbrev pub invariant-loop-k : goal.invariant-loop-k
invariant-loop-k l = (l.found ≤ l.k) × (l.found ≡ count l.k (differs_at l.old l.new))
