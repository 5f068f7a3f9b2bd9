-- `slotset::scan::held_by` meets its contract. Assumes nothing.
use mathlib.Core.Path.{sym, ap}
use mathlib.Core.Bool.{Bool, cond}
use Rattle.slotset.specs.declared.Run.TheVariants.{Span, Hole}
use Rattle.slotset.proofs.scan.held_by.Goals as goal

pub returns-then-want : goal.returns-then-want
returns-then-want c =
    let a = c.args in
    sym (ap (λ (b : Bool). cond b (Span a.first a.last) (Hole a.first a.last)) c.if-want.true)

pub returns-else-want : goal.returns-else-want
returns-else-want c =
    let a = c.args in
    sym (ap (λ (b : Bool). cond b (Span a.first a.last) (Hole a.first a.last)) c.if-want.false)
