-- `records::blocks::walk_kinds` meets its contract. The invariant: the first i kinds are counted. Assumes nothing.
use mathlib.Core.Path.{◌≡◌}
use Prim.Native.Nat.{◌≤◌}
use lib.ListN.{length, replicate}
use Rattle.paper.specs.Count.{over}
use Rattle.records.specs.Records.{layout, block_at, count_of}
use Rattle.records.proofs.blocks.walk_kinds.Given as goal

abbrev pub invariant-loop-i : goal.invariant-loop-i
invariant-loop-i l = (l.counts ≡ over (count_of (layout l.first l.kinds l.sizes) l.s) l.i (replicate 8 0))
    × (l.starts ≡ over (block_at (layout l.first l.kinds l.sizes) l.s) l.i (replicate 8 0)) × (l.at ≡ block_at (layout l.first l.kinds l.sizes) l.s l.i)
    × (l.at ≤ length l.s)
