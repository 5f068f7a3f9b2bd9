-- `retire::rolling::roll_begins` meets its contract. Assumes nothing.
use mathlib.Core.Path.{refl, ◌∙◌}
use native.Mathlib.Omega.{arith}
use Rattle.retire.proofs.Rolls.{begins-none, begins-length, begins-old, begins-new, begins-done}
use Rattle.retire.proofs.rolling.roll_begins.Goals.{then-k-kept, else-k-kept}
use Rattle.retire.proofs.rolling.roll_begins.Goals as goal

pub loop-k-init : goal.loop-k-init
loop-k-init c = begins-none _ _ _ _ _ _

pub loop-k-preserved : goal.loop-k-preserved
loop-k-preserved c = elim c.if-k-kept.branch [
  | then-k-kept w ↦ w.begins-is ∙ begins-old _ _ _ _ _ _ _ _ _ _ c.loop-k.invariant w.if-k-kept.true refl w.start_less.ensures
  | else-k-kept w ↦ w.begins-is ∙ begins-new _ _ _ _ _ _ _ _ _ _ c.loop-k.invariant w.if-k-kept.false refl w.start_more.ensures
]

pub start_more-requires : goal.start_more-requires
start_more-requires c =
    let more = c.requires.more_bound in
    (more.1 _ (omega (arith, c.if-k-kept.false, c.loop-k-test.true)), more.0)

pub shape_of-begins : goal.shape_of-begins
shape_of-begins c = begins-length _ _ _ _ _ _ _ _ c.loop-k.invariant

pub returns : goal.returns
returns c = begins-done _ _ _ _ _ _ _ _ _ c.loop-k.invariant c.loop-k.auto.k-end c.loop-k-test.false
