-- `slots::avail::fill_rows` meets its contract. Assumes nothing.
use mathlib.Core.Path.{◌≡◌}
use lib.ListN.{take}
use Rattle.slots.specs.Availability.{rows}
use Rattle.slots.specs.Inside.{held_bit}
use Rattle.slots.proofs.avail.fill_rows.Given as goal

abbrev pub invariant-loop-person : goal.invariant-loop-person
invariant-loop-person l =
    l.words ≡ rows (held_bit (take l.n l.keys) l.starts l.ends) l.slots l.person l.initial.words
