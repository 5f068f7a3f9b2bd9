-- `store::figures::kept_at` meets its contract. Assumes nothing.
use mathlib.Core.Path.{ap, ◌∙◌}
use native.Mathlib.Omega.{arith}
use Rattle.store.specs.declared.Kept.TheVariants as kept
use Rattle.store.proofs.Reading.{head-room, kind-read, newer-at, figures-room, figures-at}
use Rattle.store.proofs.figures.kept_at.Goals as goal

pub overflow_add-at : goal.overflow_add-at
overflow_add-at c = omega (arith, head-room _ _ c.requires)

pub returns-then-field-gt33 : goal.returns-then-field-gt33
returns-then-field-gt33 c =
    newer-at _ _ c.requires (omega (arith, kind-read _ _ c.requires _ c.field.ensures.0))

pub figures_at-figures-requires : goal.figures_at-figures-requires
figures_at-figures-requires c =
    figures-room _ _ c.requires (omega (arith, kind-read _ _ c.requires _ c.field.ensures.0))

pub returns : goal.returns
returns c =
    ap kept.Figures c.figures_at-figures.ensures
    ∙ figures-at _ _ c.requires (omega (arith, kind-read _ _ c.requires _ c.field.ensures.0))
