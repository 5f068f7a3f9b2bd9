-- `rota::moves::runs_fit` meets its contract. Assumes nothing.
use mathlib.Core.Path.{sym, ◌∙◌}
use Rattle.rota.specs.Ready.{runs_fit}
use Rattle.rota.proofs.moves.runs_fit.Goals as goal

pub returns-then-fits_all : goal.returns-then-fits_all
unfolding runs_fit
returns-then-fits_all c =
    simp (
      sym c.is_movable.ensures ∙ c.if-is_movable.true,
      sym c.is_movable-then-is_movable.ensures ∙ c.if-is_movable-2.true,
      sym c.fits_all.ensures ∙ c.if-fits_all.true,
    ) c.fits_all-then-fits_all.ensures

pub returns-else-fits_all : goal.returns-else-fits_all
unfolding runs_fit
returns-else-fits_all c =
    simp (
      sym c.is_movable.ensures ∙ c.if-is_movable.true,
      sym c.is_movable-then-is_movable.ensures ∙ c.if-is_movable-2.true,
      sym c.fits_all.ensures ∙ c.if-fits_all.false,
      c.if-fits_all.false,
    )

pub returns-else-is_movable-2 : goal.returns-else-is_movable-2
unfolding runs_fit
returns-else-is_movable-2 c =
    simp (
      sym c.is_movable.ensures ∙ c.if-is_movable.true,
      sym c.is_movable-then-is_movable.ensures ∙ c.if-is_movable-2.false,
      c.if-is_movable-2.false,
    )

pub returns-else-is_movable : goal.returns-else-is_movable
unfolding runs_fit
returns-else-is_movable c = simp (sym c.is_movable.ensures ∙ c.if-is_movable.false, c.if-is_movable.false)
