-- `slotset::scan::prev_set` meets its contract. Assumes nothing.
use mathlib.Core.Path.{ap, ◌∙◌}
use native.Mathlib.Numerals.{add-one}
use native.Mathlib.Omega.{arith}
use Rattle.slotset.specs.Slots.{slot}
use Rattle.slotset.specs.Search.{last_below}
use Rattle.slotset.proofs.Meaning.{last-lowered}
use Rattle.slotset.proofs.scan.prev_set.Goals as goal

pub returns-then-from-len : goal.returns-then-from-len
returns-then-from-len c =
    let s = c.args in
    c.last_below.ensures ∙ ap (last_below 1 (slot s.words.now s.base) s.len) (add-one s.from)

pub returns-else-from-len : goal.returns-else-from-len
returns-else-from-len c = c.last_below-else-from-len.ensures ∙ last-lowered 1 _ _ _ (omega (arith, c.if-from-len.false))
