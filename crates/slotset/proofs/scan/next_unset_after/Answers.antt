-- `slotset::scan::next_unset_after` meets its contract. Assumes nothing.
use mathlib.Core.Path.{sym, ◌∙◌}
use native.Mathlib.Omega.{arith}
use Rattle.slotset.proofs.Scans.{next-end}
use Rattle.slotset.proofs.Runs.{next-after}
use Rattle.slotset.proofs.scan.next_unset_after.Goals as goal

pub returns-then-from-len : goal.returns-then-from-len
returns-then-from-len c = c.next_with.ensures ∙ next-after 0 _ _ _

pub returns-else-from-len : goal.returns-else-from-len
returns-else-from-len c = sym (next-end 0 _ _ _ (omega (arith, c.if-from-len.false)))
