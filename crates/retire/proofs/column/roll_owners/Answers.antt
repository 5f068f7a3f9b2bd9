-- `retire::column::roll_owners` meets its contract. Assumes nothing.
use Rattle.std.proofs.Common.{refl, arith}
use Rattle.retire.proofs.Rolls.{moved, roll_parts}
use Rattle.retire.proofs.column.roll_owners.Goals as goal

pub returns : goal.returns
returns c =
    let M = moved _ _ _ _ c.copy_within.ensures.len c.copy_within.ensures.by_index.0 c.copy_within.ensures.by_index.2 in
    roll_parts _ _ _ _ _ _ _ _ c.min-rest.ensures (omega arith) M c.fill.ensures.len (λ k h. c.fill.ensures.clones k 0 h refl)
