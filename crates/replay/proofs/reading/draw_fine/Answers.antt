-- `replay::reading::draw_fine` meets its contract. Assumes nothing.
use borrow.Author.Rules.{rules}
use native.Mathlib.Omega.{arith}
use mathlib.Core.Path.{sym, ◌∙◌}
use Rattle.replay.proofs.Records.{fine-is, fine-not}
use Rattle.replay.proofs.reading.draw_fine.Goals as goal

pub overflow_mul-j : goal.overflow_mul-j
overflow_mul-j c = search rules

pub draw_at-requires : goal.draw_at-requires
draw_at-requires c = search rules

pub returns-then-draw_at : goal.returns-then-draw_at
returns-then-draw_at c = fine-is _ _ _ (sym c.draw_at.ensures ∙ c.if-draw_at.true) (omega arith)

pub returns : goal.returns
returns c = fine-not _ _ _ (sym c.draw_at.ensures ∙ c.if-draw_at.false)
