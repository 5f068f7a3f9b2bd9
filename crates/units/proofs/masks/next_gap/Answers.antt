-- `units::masks::next_gap` meets its contract. Assumes nothing.
use mathlib.Core.Path.{sym, ap, ◌∙◌}
use Rattle.units.specs.Inside.{is_yes}
use Rattle.units.proofs.Sets.{gap_here, gap-after}
use Rattle.units.proofs.masks.next_gap.Goals as goal

pub returns-then-is_yes : goal.returns-then-is_yes
returns-then-is_yes c =
    let t = sym (c.is_yes.ensures ∙ ap is_yes c.contains.ensures) ∙ c.if-is_yes.true in
    gap-after _ _ _ _ c.requires.0 _ _ _ t c.next_unset_after.ensures c.found_or.ensures

pub returns-else-is_yes : goal.returns-else-is_yes
returns-else-is_yes c =
    let pre = c.requires in
    gap_here _ _ _ _ pre.0 _ pre.1 (sym (c.is_yes.ensures ∙ ap is_yes c.contains.ensures) ∙ c.if-is_yes.false)
