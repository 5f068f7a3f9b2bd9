-- `retire::moving::move_owners` meets its contract. Assumes nothing.
use Rattle.retire.proofs.Passes.{owners-moved}
use Rattle.retire.proofs.moving.move_owners.Goals as goal

pub returns : goal.returns
returns c =
    let e = c.roll_owners.ensures in (
      e,
      owners-moved _ _ _ _ _ c.requires.totals_value _ e _ _ c.from_slots.ensures,
    )
