-- `targets::targets_of` meets its contract. Assumes nothing.
use Rattle.std.proofs.Common.{◌≡◌, Some, ◌+◌}
use Rattle.targets.specs.Passes.{passes, again}
use Rattle.targets.specs.Inside.{Small, PinnedZero, left_of}
use Rattle.targets.proofs.Cases.{left-have}
use Rattle.targets.proofs.Sizes.{small-passes, zero-passes}
use Rattle.targets.proofs.targets_of.Goals as goal

pub shared_out-requires : goal.shared_out-requires
shared_out-requires c =
    let a = c.args in
    let q = c.requires in
    let k = a.people + 1 in
    let p = passes k a.demand (again a.standings) in
    let e : Some c.in_ok-left.left ≡ left_of p = rw c.in_ok-left.was at c.passes_of.ensures in
    (q.0, q.1, left-have Small p e (small-passes k a.demand _ q.2), left-have PinnedZero p e (zero-passes k a.demand _ q.3))
