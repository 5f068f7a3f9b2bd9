-- `slotset::listing::list_sets` meets its contract. Assumes nothing.
use Prim.Native.Nat.{◌*◌, ◌≤◌}
use lib.ListN.{length}
use Rattle.slotset.proofs.Columns.{Everybody}
use Rattle.slotset.proofs.listing.list_sets.Given as goal

abbrev pub invariant-loop-p : goal.invariant-loop-p
invariant-loop-p l =
    (((l.people ≤ 32) × (l.len ≤ 1024)) × ((16 * l.people ≤ length l.words) × (l.people ≤ length l.initial.counts)))
    × (((l.people * l.len ≤ length l.initial.firsts) × (l.people * l.len ≤ length l.initial.lasts))
    × ((l.p ≤ l.people) × Everybody l.words l.len l.initial.counts l.initial.firsts l.initial.lasts l.n l.p l.counts l.firsts l.lasts))
