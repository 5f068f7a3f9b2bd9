-- `stored::unwritten` meets its contract. Assumes nothing.
use Rattle.std.proofs.Common.{◌≡◌, ◌≤◌, ◌==◌, length, slice_index}
use Rattle.paper.specs.Count.{all_in}
use Rattle.stored.proofs.unwritten.Given as goal

-- the bytes so far; an index past the end is not walked from
abbrev pub invariant-loop-j : goal.invariant-loop-j
invariant-loop-j l =
    (all_in l.from l.j (λ k. slice_index l.out k == l.fill) ≡ l.same) × (length l.out ≤ l.from → l.j ≡ l.from)
