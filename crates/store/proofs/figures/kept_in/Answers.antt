-- `store::figures::kept_in` meets its contract. Assumes nothing.
use mathlib.Core.Path.{◌∙◌}
use native.Mathlib.Omega.{arith}
use Rattle.store.proofs.Reading.{number-low, number-high, number-found}
use Rattle.store.proofs.figures.kept_in.Goals as goal

pub returns-then-number-lt1 : goal.returns-then-number-lt1
returns-then-number-lt1 c = number-low _ _ (omega arith)

pub returns-then-count-number : goal.returns-then-count-number
returns-then-count-number c = number-high _ _ (omega arith) (omega (arith, c.requires))

pub kept_at-requires : goal.kept_at-requires
kept_at-requires c =
    (number-found _ _ _ _ _ c.used_part-s.ensures (omega arith) (omega (arith, c.requires)) c.walk-w.ensures.0 c.walk-w.ensures.1).0

pub returns : goal.returns
returns c =
    c.kept_at.ensures
    ∙ (number-found _ _ _ _ _ c.used_part-s.ensures (omega arith) (omega (arith, c.requires)) c.walk-w.ensures.0
    c.walk-w.ensures.1).1
