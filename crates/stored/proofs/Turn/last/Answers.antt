-- `stored::Turn::last` meets its contract. Assumes nothing.
use Rattle.std.proofs.Common.{refl, eq-eqb, ne_eqb}
use Rattle.stored.proofs.Turn.last.Goals as goal

pub returns-then-left-eq0 : goal.returns-then-left-eq0
returns-then-left-eq0 c = let none = eq-eqb _ 0 c.if-left-eq0.true in (simp none, (simp none, refl))

pub returns-else-left-eq0 : goal.returns-else-left-eq0
returns-else-left-eq0 c =
    let part = ne_eqb _ 0 c.if-left-eq0.false in
    (simp part c.with.ensures.0, (simp part c.with.ensures.1, refl))
