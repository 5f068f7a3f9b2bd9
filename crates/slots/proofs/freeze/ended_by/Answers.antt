-- `slots::freeze::ended_by` meets its contract. Assumes nothing.
use borrow.Author.Rules.{rules}
use native.Mathlib.Omega.{arith}
use Rattle.std.proofs.Common.{zero-add}
use lib.Dec.{leb}
use lib.ListN.{get_or, take}
use Rattle.std.proofs.lemmas.List.{get_or-take}
use Rattle.std.proofs.lemmas.List.Sorted.{IsPartitionPoint-from_clause}
use lib.Seq.{length-take-le}
use Rattle.slots.proofs.FreezeLaws.{opening-found}
use Rattle.slots.proofs.freeze.ended_by.Goals as goal

pub returns : goal.returns
returns c =
    let n = length-take-le c.args.slots c.args.ends.now c.requires.1 in
    let front = take c.args.slots c.args.ends.now in
    let found = opening-found c.args.slots 0 (λ k. get_or c.args.ends.now k 0) c.args.instant c.requires.2 (omega arith)
    (λ k h. absurd (omega arith)) (λ x. x) front (omega arith)
    (λ k h. rw zero-add (get_or-take c.args.slots c.args.ends.now k 0 (omega arith)))
    c.partition_point.result c.partition_point.ensures.bound
    (λ parted.
    IsPartitionPoint-from_clause (λ x. leb x c.args.instant) _ _ c.partition_point.ensures.partitioned parted (λ a r q k. search rules)) in
    rw zero-add at found
