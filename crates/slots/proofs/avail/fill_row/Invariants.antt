-- `slots::avail::fill_row` meets its contract. Assumes nothing.
use mathlib.Core.Path.{◌≡◌}
use Prim.Native.Nat.{ℕ, ◌+◌, ◌≤◌, ◌<◌, ◌*◌}
use lib.ListN.{get_or, take}
use Rattle.slotset.specs.Slots.{put_slots}
use Rattle.slots.specs.Inside.{opens, held_bit}
use Rattle.slots.proofs.avail.fill_row.Given as goal

abbrev pub invariant-loop-k : goal.invariant-loop-k
invariant-loop-k l =
    (l.base ≡ l.person * 268435456)
    × (l.words ≡ put_slots (held_bit (take l.n l.keys) l.starts l.ends l.person) (16 * l.person) 0 l.k l.initial.words)
    × (l.opened ≤ l.n)
    × ((j : ℕ) → j < l.opened → (i : ℕ) → l.k ≤ i → i < l.slots → opens (get_or l.keys j 0) ≤ l.base + get_or l.starts i 0)
