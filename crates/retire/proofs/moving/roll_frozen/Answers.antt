-- `retire::moving::roll_frozen` meets its contract. Assumes nothing.
use mathlib.Core.Path.{refl, ◌∙◌}
use native.Mathlib.Omega.{arith}
use Rattle.paper.specs.Limits.{people_ok}
use Rattle.retire.proofs.Bits.{frozen-by}
use Rattle.retire.proofs.moving.roll_frozen.Goals as goal

pub roll_row-requires : goal.roll_row-requires
unfolding people_ok
roll_row-requires c =
    let pre = c.requires in
    record { people_value = (refl, omega (arith, pre.0), omega arith); count_bound = (pre.1, pre.2) }

pub returns : goal.returns
returns c = c.roll_row.ensures ∙ frozen-by _ _ _ 1 _
