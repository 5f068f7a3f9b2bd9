-- `retire::rolling::roll_minutes` meets its contract. Assumes nothing.
use Rattle.std.proofs.Common.{arith}
use Rattle.std.proofs.lemmas.List.{places}
use Rattle.retire.proofs.Rolls.{moved, roll_parts}
use Rattle.retire.proofs.rolling.roll_minutes.Goals as goal

pub returns : goal.returns
returns c =
    let M = moved _ _ _ _ c.copy_within.ensures.len c.copy_within.ensures.by_index.0 c.copy_within.ensures.by_index.2 in
    let n = c.copy_from_slice.ensures in
    roll_parts _ _ _ _ _ _ _ _ c.min-rest.ensures (omega arith) M n.len (λ k h. grind (arith, places, n.after))
