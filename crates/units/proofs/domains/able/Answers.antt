-- `units::domains::able` meets its contract. Assumes nothing.
use mathlib.Core.Path.{ap, ◌∙◌}
use native.Mathlib.Omega.{arith}
use Rattle.units.specs.Inside.{is_nothing}
use Rattle.units.proofs.Sets.{able-below-law, able-after-law}
use Rattle.units.proofs.domains.able.Goals as goal

pub returns-then-a-eq0 : goal.returns-then-a-eq0
returns-then-a-eq0 c =
    c.is_nothing.ensures ∙ ap is_nothing c.prev_unset_before.ensures
    ∙ able-below-law _ _ _ _ _ c.if-a-eq0.true

pub returns : goal.returns
returns c =
    c.is_nothing-2.ensures ∙ ap is_nothing c.next_unset_after.ensures
    ∙ able-after-law _ _ _ _ _ _ (omega (arith, c.if-a-eq0.false))
