-- `rota::moves::is_frozen` meets its contract. Assumes nothing.
use mathlib.Core.Path.{refl, sym, ap, ◌∙◌}
use borrow.Author.Tests.{le-ltb}
use Prim.Native.Nat.{ℕ}
use lib.Dec.{eqb}
use lib.ListN.{get_or-eq_default}
use Rattle.rota.specs.Ready.{frozen_by}
use Rattle.rota.proofs.moves.is_frozen.Goals as goal

pub returns-then-unit-flags : goal.returns-then-unit-flags
unfolding frozen_by
returns-then-unit-flags c = refl

pub returns-else-unit-flags : goal.returns-else-unit-flags
unfolding frozen_by
returns-else-unit-flags c =
    le-ltb _ _ c.if-unit-flags.false ∙ sym (ap (λ (x : ℕ). eqb x 1) (get_or-eq_default c.args.flags.now 0 c.if-unit-flags.false))
