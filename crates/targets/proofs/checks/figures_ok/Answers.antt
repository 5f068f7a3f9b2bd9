-- `targets::checks::figures_ok` meets its contract. Assumes nothing.
use Rattle.std.proofs.Common.{sym, ◌∙◌, true≢false}
use lib.Ieee.{of_bits, of_int}
use Rattle.targets.specs.Figures.{figures_ok}
use Rattle.targets.proofs.checks.figures_ok.Goals as goal
use Rattle.targets.proofs.checks.figures_ok.Goals.{then-p, else-p}

pub returns-then-p-2 : goal.returns-then-p-2
unfolding of_bits of_int figures_ok
returns-then-p-2 c = elim c.if-p.branch [
  | then-p w ↦ rw (w.if-p.true, ← w.value-is, c.if-p-2.true)
  | else-p w ↦ absurd (true≢false (sym c.if-p-2.true ∙ w.value-is ∙ w.if-p.false))
]

pub returns-else-p-2 : goal.returns-else-p-2
unfolding of_bits of_int figures_ok
returns-else-p-2 c = elim c.if-p.branch [
  | then-p w ↦ rw (w.if-p.true, ← w.value-is, c.if-p-2.false)
  | else-p w ↦ rw (w.value-is, w.if-p.false)
]
