-- `runs::list_runs` meets its contract. Assumes nothing.
use mathlib.Core.Path.{◌≡◌}
use Prim.Native.Nat.{◌-◌, ◌≤◌}
use lib.ListN.{length}
use Rattle.paper.specs.Limits.{number_of}
use Rattle.slotset.specs.Answers.{person_row, row_slots}
use Rattle.runs.proofs.Listing.{Listing}
use Rattle.runs.proofs.list_runs.Given as goal

abbrev pub invariant-loop-at : goal.invariant-loop-at
invariant-loop-at l =
    (number_of (person_row l.words l.people l.person l.len) ≡ 0) × (((l.len ≤ length l.initial.firsts) × (l.len ≤ length l.initial.lasts))
    × Listing (row_slots l.words l.person) l.len l.initial.firsts l.initial.lasts l.n l.at l.firsts l.lasts)

abbrev pub decreases-loop-at : goal.decreases-loop-at
decreases-loop-at l = l.len - l.at
