-- `paper::check_in` meets its contract. Assumes nothing.
use mathlib.Core.Path.{sym}
use Rattle.paper.proofs.Rows.{next-pass, next-fail, next-kept}
use Rattle.paper.proofs.check_in.Goals as goal

pub returns-then-ok : goal.returns-then-ok
returns-then-ok c = sym (next-pass _ _ c.if-ok.true)

pub returns-then-before-eq0 : goal.returns-then-before-eq0
returns-then-before-eq0 c = sym (next-fail _ _ c.if-ok.false c.if-before-eq0.true)

pub returns : goal.returns
returns c = sym (next-kept _ _ c.if-before-eq0.false)
