-- `columns::part_at` meets its contract. Assumes nothing.
use mathlib.Core.Path.{refl, sym, ◌∙◌}
use native.Mathlib.Omega.{arith}
use Rattle.columns.proofs.Parts.{part-is}
use Rattle.columns.proofs.part_at.Goals as goal

pub next_change-upto-requires : goal.next_change-upto-requires
next_change-upto-requires c =
    let pre = c.requires in
    (pre.sound.few, pre.sound.flags, pre.slot_lt_slots)

pub returns-then-is_frozen : goal.returns-then-is_frozen
returns-then-is_frozen c =
    part-is _ _ _ _ _ _ _ (sym c.if-is_frozen.true ∙ c.is_frozen.ensures) _
    c.next_change-upto.ensures.0 (refl, omega arith, refl)

pub returns : goal.returns
returns c =
    part-is _ _ _ _ _ _ _ (sym c.if-is_frozen.false ∙ c.is_frozen.ensures) _
    c.next_change-upto.ensures.0 (refl, omega arith, refl)
