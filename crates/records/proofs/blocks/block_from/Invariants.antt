-- `records::blocks::block_from` meets its contract. The invariant: `count` whole records stand between `at` and `end`. Assumes nothing.
use mathlib.Core.Path.{◌≡◌}
use mathlib.Core.Bool.{true}
use Prim.Native.Nat.{◌+◌, ◌-◌, ◌*◌, ◌≤◌}
use lib.ListN.{length}
use Rattle.paper.specs.Count.{all}
use Rattle.records.specs.Records.{record_at}
use Rattle.records.proofs.blocks.block_from.Given as goal

abbrev pub invariant-loop-count : goal.invariant-loop-count
invariant-loop-count l = (l.end ≡ l.at + l.count * (4 + l.size)) × (l.end ≤ length l.s) × (l.count ≤ l.end) ×
    (all l.count (λ j. record_at l.s l.kind l.size (l.at + j * (4 + l.size))) ≡ true)

abbrev pub decreases-loop-count : goal.decreases-loop-count
decreases-loop-count l = length l.s - l.end
