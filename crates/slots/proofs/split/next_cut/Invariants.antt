-- `slots::split::next_cut` meets its contract. Assumes nothing.
use mathlib.Core.Bool.{true}
use Prim.Native.Nat.{ℕ, suc, ◌+◌, ◌*◌, ◌≤◌, ◌<◌}
use lib.ListN.{get_or, take}
use Rattle.paper.specs.Count.{FirstWhere}
use Rattle.slots.specs.Inside.{opens}
use Rattle.slots.proofs.EdgeLaws.{cut_below}
use Rattle.slots.proofs.split.next_cut.Given as goal

abbrev pub invariant-loop-person : goal.invariant-loop-person
invariant-loop-person l =
    FirstWhere true (cut_below (take l.n l.keys) l.person) (suc l.after) l.end l.best × (l.opened ≤ l.n)
    × ((k : ℕ) → k < l.opened → opens (get_or l.keys k 0) ≤ l.person * 268435456 + l.after)
