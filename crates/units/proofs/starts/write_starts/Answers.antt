-- `units::starts::write_starts` meets its contract. Assumes nothing.
use native.Mathlib.Omega.{arith}
use mathlib.Core.Path.{sym, ◌∙◌}
use Rattle.units.proofs.Collect.{collect-none, collect-few}
use Rattle.units.proofs.Collect.{collect-room, collect-in, collect-out, collect-end}
use Rattle.units.proofs.starts.write_starts.Goals as goal
use Rattle.units.proofs.starts.write_starts.Goals.{then-unit_begins, else-unit_begins}

pub loop-k-init : goal.loop-k-init
loop-k-init c = (collect-none _ _ _ c.requires.1, c.requires.0)

pub offset_bounds-begins-n : goal.offset_bounds-begins-n
offset_bounds-begins-n c =
    let at = c.loop-k in
    omega (arith, collect-few _ _ _ _ _ _ at.invariant.0)

pub bounds-begins-n : goal.bounds-begins-n
bounds-begins-n c = collect-room _ _ _ _ _ _ c.loop-k.invariant.0 c.loop-k-test.true

pub overflow_add-n : goal.overflow_add-n
overflow_add-n c =
    let at = c.loop-k in
    omega (arith, collect-few _ _ _ _ _ _ at.invariant.0)

pub loop-k-preserved : goal.loop-k-preserved
loop-k-preserved c =
    let at = c.loop-k in
    elim c.if-unit_begins.branch [
      | then-unit_begins w ↦ rw (w.begins-is, w.n-is)
          (collect-in _ _ _ _ _ _ at.invariant.0 c.loop-k-test.true (sym c.unit_begins.ensures ∙ w.if-unit_begins.true), at.invariant.1)
      | else-unit_begins w ↦ rw (w.begins-is, w.n-is)
          (collect-out _ _ _ _ _ _ at.invariant.0 c.loop-k-test.true (sym c.unit_begins.ensures ∙ w.if-unit_begins.false), at.invariant.1)
    ]

pub returns : goal.returns
returns c =
    let whole = collect-end _ _ _ _ _ _ c.loop-k.invariant.0 c.loop-k-test.false in
    record { value = whole.0; begins_after = whole.1 }
