-- `rota::moves::owner_of` meets its contract. Assumes nothing.
use mathlib.Core.Path.{sym, ap, ◌∙◌}
use Prim.Native.Nat.{ℕ}
use lib.ListN.{get_or, get_or-eq_default}
use Rattle.rota.proofs.moves.owner_of.Goals as goal

pub returns-then-slot-owners : goal.returns-then-slot-owners
returns-then-slot-owners c =
    let at-args = c.args in
    let at-start-of = c.start_of-slot in
    ap (λ (x : ℕ). get_or at-args.owners.now x 0) at-start-of.ensures

pub returns-else-slot-owners : goal.returns-else-slot-owners
returns-else-slot-owners c =
    let at-args = c.args in
    let at-start-of = c.start_of-slot in
    sym (ap (λ (x : ℕ). get_or at-args.owners.now x 0) (sym at-start-of.ensures) ∙ get_or-eq_default at-args.owners.now 0 c.if-slot-owners.false)
