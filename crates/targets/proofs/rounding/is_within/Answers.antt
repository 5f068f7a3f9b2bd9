-- `targets::rounding::is_within` meets its contract. Assumes nothing.
use Rattle.std.proofs.Common.{Bool, false, ◌&&◌, pos, sym, ap, ◌∙◌}
use lib.Ieee.{fin, lt, of_bits, neg}
use Rattle.targets.proofs.Nearest.{guard_test}
use Rattle.targets.proofs.rounding.is_within.Goals as goal

pub returns-then-x : goal.returns-then-x
unfolding of_bits neg
returns-then-x c =
    let x = c.args.x in
    ap (λ (b : Bool). b && lt x (fin false 1 (pos 40))) (sym c.if-x.true) ∙ guard_test x

pub returns-else-x : goal.returns-else-x
unfolding of_bits neg
returns-else-x c =
    let x = c.args.x in
    c.if-x.false ∙ ap (λ (b : Bool). b && lt x (fin false 1 (pos 40))) (sym c.if-x.false) ∙ guard_test x
