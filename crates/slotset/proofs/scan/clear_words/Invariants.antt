-- `slotset::scan::clear_words` meets its contract. The invariant: the first j words are 0. Assumes nothing.
use mathlib.Core.Path.{◌≡◌}
use Prim.Native.Nat.{◌*◌, ◌≤◌}
use lib.ListN.{length}
use Rattle.slotset.specs.Slots.{put_slots}
use Rattle.slotset.proofs.scan.clear_words.Given as goal

abbrev pub invariant-loop-j : goal.invariant-loop-j
invariant-loop-j l =
    (l.j ≤ l.whole) × (l.words ≡ put_slots (λ _. 0) l.base 0 (l.j * 64) l.initial.words) × (length l.words ≡ length l.initial.words)
