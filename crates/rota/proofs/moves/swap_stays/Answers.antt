-- `rota::moves::swap_stays` meets its contract. Assumes nothing.
use mathlib.Core.Path.{refl, ap, ap₂}
use Prim.Native.Nat.{ℕ}
use lib.Dec.{eqb}
use Rattle.rota.specs.Board.{owner_of, unowned}
use Rattle.paper.specs.Limits.{nobody}
use Rattle.rota.proofs.Judged.{ask-two, ask-more}
use Rattle.rota.proofs.Moved.{unfit}
use Rattle.rota.proofs.moves.swap_stays.Goals as goal

pub returns : goal.returns
unfolding owner_of unowned
returns c =
    let left = c.owner_of-left.ensures in
    let right = c.owner_of-right.ensures in
    ask-more _ _
    (ask-more _ _
    (ask-more _ _
    (ask-more _ _
    (ask-more _ _
    (ask-more _ _
    (ask-two _ _ c.is_frozen.ensures c.is_frozen-2.ensures)
    refl)
    (ap (λ (w : ℕ). eqb w nobody) left))
    (ap (λ (w : ℕ). eqb w nobody) right))
    (ap₂ eqb left right))
    (unfit _ _ _ _ c.fits_unit.ensures right))
    (unfit _ _ _ _ c.fits_unit-2.ensures left)
