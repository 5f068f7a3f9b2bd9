-- `stored::row_word` meets its contract. Assumes nothing.
use Rattle.std.proofs.Common.{ap, ◌∙◌, eq-eqb, ne_eqb}
use Rattle.stored.specs.Numbers.{little_at}
use Rattle.stored.proofs.row_word.Goals as goal

pub returns-then-j-eq0 : goal.returns-then-j-eq0
returns-then-j-eq0 c = simp (eq-eqb _ _ c.if-j-eq0.true) (c.word.ensures ∙ ap (little_at 8 c.args.b.now) c.plus.ensures)

pub returns-else-j-eq0 : goal.returns-else-j-eq0
returns-else-j-eq0 c = simp (ne_eqb _ _ c.if-j-eq0.false)
