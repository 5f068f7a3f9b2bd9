-- `job::owning::placed_by` meets its contract. The invariant: the first k records are placed. Assumes nothing.
use mathlib.Core.Path.{◌≡◌, ap, ◌∙◌}
use native.Mathlib.Omega.{arith}
use Rattle.job.specs.Stages.{placed}
use Rattle.job.proofs.Prepares.{placed-none, placed-more, placed-not}
use Rattle.job.proofs.owning.placed_by.Goals as goal
use Rattle.job.proofs.owning.placed_by.Goals.{then-slot-slots, else-slot-slots}

pub loop-k-init : goal.loop-k-init
loop-k-init c = (placed-none _ _ _, omega arith)

pub offset_bounds-out-slot : goal.offset_bounds-out-slot
offset_bounds-out-slot c = omega (arith, c.requires.1)

pub bounds-out-slot : goal.bounds-out-slot
bounds-out-slot c = omega (arith, c.requires.1)

pub loop-k-preserved : goal.loop-k-preserved
loop-k-preserved c =
    let inv = c.loop-k.invariant in
    let slot-is = c.owner_slot-slot.ensures in
    elim c.if-slot-slots.branch [
      | then-slot-slots w ↦ rw w.out-is
          (placed-more _ _ _ _ _ _ _ inv.0 slot-is c.owner_value-owner.ensures w.if-slot-slots.true, omega arith)
      | else-slot-slots w ↦ rw w.out-is (placed-not _ _ _ _ _ _ inv.0 slot-is w.if-slot-slots.false, omega arith)
    ]

pub returns : goal.returns
returns c =
    let e : c.loop-k.k ≡ c.args.n = omega arith in
    c.loop-k.invariant.0 ∙ ap (placed _ _ _) e
