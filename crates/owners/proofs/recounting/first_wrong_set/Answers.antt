-- `owners::recounting::first_wrong_set` meets its contract. The invariant: the first `low` people's sets are right,
-- the first `high` people's are not. Assumes nothing.
use Rattle.std.proofs.Common.{sym, ◌∙◌, arith}
use Rattle.owners.proofs.RecountRefusals.{halved-sets, none-same}
use Rattle.owners.proofs.recounting.first_wrong_set.Goals as goal

pub loop-low-init : goal.loop-low-init
loop-low-init c = let p = c.requires in (omega (arith, p.le_people.0), omega arith, none-same _ _ _, p.slots_value)

pub loop-low-preserved-then-sets_right : goal.loop-low-preserved-then-sets_right
loop-low-preserved-then-sets_right c =
    let i = c.loop-low.invariant in
    (omega (arith, c.loop-low-test.true), i.1, sym c.sets_right.ensures ∙ c.if-sets_right.true, i.3)

pub loop-low-preserved : goal.loop-low-preserved
loop-low-preserved c =
    let i = c.loop-low.invariant in (
      omega (arith, c.loop-low-test.true),
      omega (arith, i.0, i.1),
      i.2,
      sym c.sets_right.ensures ∙ c.if-sets_right.false,
    )

pub returns : goal.returns
returns c =
    let i = c.loop-low.invariant in
    halved-sets _ _ _ _ _ _ (omega (arith, i.0, i.1)) (omega (arith, i.0, c.loop-low-test.false)) i.2 i.3
