-- `records::fields::number_at` meets its contract. The invariant: the bytes from `left` on are read. Assumes nothing.
use mathlib.Core.Path.{◌≡◌}
use Prim.Native.Nat.{◌+◌, ◌-◌, ◌^◌, ◌<◌}
use Rattle.records.specs.Fields.{le}
use Rattle.records.proofs.fields.number_at.Given as goal

abbrev pub invariant-loop-left : goal.invariant-loop-left
invariant-loop-left l = (l.value ≡ le (l.width - l.left) l.s (l.at + l.left)) × (l.value < 256 ^ (l.width - l.left))
