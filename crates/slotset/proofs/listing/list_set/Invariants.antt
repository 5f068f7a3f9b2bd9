-- `slotset::listing::list_set` meets its contract. Assumes nothing.
use Prim.Native.Nat.{◌+◌, ◌-◌, ◌≤◌}
use lib.ListN.{length}
use Rattle.slotset.specs.Slots.{slot}
use Rattle.slotset.proofs.Columns.{Filling}
use Rattle.slotset.proofs.listing.list_set.Given as goal

abbrev pub invariant-loop-at : goal.invariant-loop-at
invariant-loop-at l =
    ((l.base + 16 ≤ length l.words) × (l.len ≤ 1024)) × (((l.from + l.len ≤ length l.initial.firsts) × (l.from + l.len ≤ length l.initial.lasts))
    × Filling (slot l.words l.base) l.len l.from l.initial.firsts l.initial.lasts l.n l.at l.firsts l.lasts)

abbrev pub decreases-loop-at : goal.decreases-loop-at
decreases-loop-at l = l.len - l.at
