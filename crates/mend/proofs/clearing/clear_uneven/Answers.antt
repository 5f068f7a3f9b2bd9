-- `mend::clearing::clear_uneven` meets its contract. Assumes nothing.
use mathlib.Core.Path.{◌∙◌}
use native.Mathlib.Omega.{arith}
use Rattle.units.proofs.Units.{units-room}
use Rattle.mend.proofs.Cleared.{uneven-none, even-stays, uneven-goes, uneven-end}
use Rattle.mend.proofs.clearing.clear_uneven.Goals as goal
use Rattle.mend.proofs.clearing.clear_uneven.Goals.{then-not-is_even, else-not-is_even}

pub loop-u-init : goal.loop-u-init
loop-u-init c = uneven-none _ _ _ _

pub is_even-requires : goal.is_even-requires
is_even-requires c = omega (arith, units-room _ _ _ c.requires)

pub loop-u-preserved : goal.loop-u-preserved
loop-u-preserved c =
    elim c.if-not-is_even.branch [
      | then-not-is_even w ↦
          w.owners-is ∙ uneven-goes _ _ _ _ c.requires _ c.loop-u-test.true _ c.loop-u.invariant _ c.is_even.ensures
          w.if-not-is_even.true _ _ _ w.start_of-a.ensures w.unit_end-e.ensures w.fill_owners.ensures
      | else-not-is_even w ↦
          w.owners-is ∙ even-stays _ _ _ _ c.requires _ c.loop-u-test.true _ c.loop-u.invariant _ c.is_even.ensures w.if-not-is_even.false
    ]

pub returns : goal.returns
returns c = uneven-end _ _ _ _ c.requires _ _ c.loop-u.auto.u-end c.loop-u-test.false c.loop-u.invariant
