-- `usable::rules::first_uneven` meets its contract. Assumes nothing.
use native.Mathlib.Omega.{arith}
use Rattle.paper.proofs.Count.{all_none, all_more}
use Rattle.usable.proofs.Walks.{fault-at, fault-ends}
use Rattle.usable.proofs.Walks.{unit-more, uniform-yes, uniform-no}
use Rattle.usable.proofs.rules.first_uneven.Goals as goal

pub loop-k-init : goal.loop-k-init
loop-k-init c = (c.requires, all_none _)

pub unit_at-u-requires : goal.unit_at-u-requires
unit_at-u-requires c = record { by_unit = c.loop-k.invariant.0; k_lt_slots = c.loop-k-test.true }

pub loop-k-preserved : goal.loop-k-preserved
loop-k-preserved c =
    let I = c.unit_at-u.ensures in
    let L = c.loop-k in (
      unit-more _ _ _ _ _ L.invariant.0.right I,
      all_more _ _ L.invariant.1 (uniform-yes _ _ _ _ _ _ _ _ _ L.invariant.0.right I c.owner_at.ensures
          c.start_of.ensures c.owner_at-in-loop-k.ensures c.if-owner_at.false),
    )

pub returns-then-owner_at : goal.returns-then-owner_at
returns-then-owner_at c =
    let I = c.unit_at-u.ensures in
    let L = c.loop-k in
    fault-at _ _ _ c.loop-k-test.true L.invariant.1
    (uniform-no _ _ _ _ _ _ _ _ _ L.invariant.0.right I c.owner_at.ensures
    c.start_of.ensures c.owner_at-in-loop-k.ensures c.if-owner_at.true)

pub returns : goal.returns
returns c = fault-ends _ _ _ (omega arith) c.loop-k-test.false c.loop-k.invariant.1
