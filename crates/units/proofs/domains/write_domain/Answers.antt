-- `units::domains::write_domain` meets its contract. Assumes nothing.
use mathlib.Core.Path.{sym, ◌∙◌}
use Rattle.units.specs.Domains.{domain}
use Rattle.units.proofs.Sets.{able-known}
use native.Mathlib.Omega.{arith}
use Rattle.paper.proofs.Logic.{people-says}
use Rattle.units.proofs.Collect.{collect-none, collect-few}
use Rattle.units.proofs.Collect.{collect-room, collect-in, collect-out, collect-end}
use Rattle.units.proofs.domains.write_domain.Goals as goal
use Rattle.units.proofs.domains.write_domain.Goals.{then-able, else-able}

pub loop-p-init : goal.loop-p-init
loop-p-init c = (collect-none _ _ _ c.requires.room, c.requires)

pub overflow_cast-list : goal.overflow_cast-list
overflow_cast-list c = omega (arith, (people-says _ c.loop-p.invariant.1.counted).1)

pub bounds-list-n : goal.bounds-list-n
bounds-list-n c = collect-room _ _ _ _ _ _ c.loop-p.invariant.0 c.loop-p-test.true

pub overflow_add-n : goal.overflow_add-n
overflow_add-n c = omega (arith, collect-few _ _ _ _ _ _ c.loop-p.invariant.0)

pub loop-p-preserved : goal.loop-p-preserved
loop-p-preserved c =
    let at = c.loop-p in
    let k = able-known _ _ _ _ at.invariant.1 _ _ c.loop-p-test.true in
    elim c.if-able.branch [
      | then-able w ↦ rw (w.list-is, w.n-is)
          (collect-in _ _ _ _ _ _ at.invariant.0 c.loop-p-test.true (sym k ∙ sym c.able.ensures ∙ w.if-able.true), at.invariant.1)
      | else-able w ↦ rw (w.list-is, w.n-is)
          (collect-out _ _ _ _ _ _ at.invariant.0 c.loop-p-test.true (sym k ∙ sym c.able.ensures ∙ w.if-able.false), at.invariant.1)
    ]

pub returns : goal.returns
unfolding domain
returns c =
    let whole = collect-end _ _ _ _ _ _ c.loop-p.invariant.0 c.loop-p-test.false in
    record { value = whole.0; list_after = whole.1 }
