-- `wayback::writing::place_in` meets its contract. Assumes nothing.
use mathlib.Core.Path.{sym, ◌∙◌}
use native.Mathlib.Omega.{arith}
use Rattle.paper.proofs.Count.{count_none, count-in, count-out, count-done}
use Rattle.units.specs.Domains.{in_mask}
use Rattle.wayback.proofs.writing.place_in.Goals as goal
use Rattle.wayback.proofs.writing.place_in.Goals.{then-in_mask, else-in_mask}

pub loop-q-init : goal.loop-q-init
loop-q-init c = (omega arith, sym (count_none _))

pub loop-q-preserved : goal.loop-q-preserved
loop-q-preserved c =
    let so = c.loop-q.invariant in
    let q = c.loop-q.q in
    elim c.if-in_mask.branch [
      | then-in_mask w ↦
          rw w.n-is (omega arith, omega (arith, count-in q (in_mask _) (sym c.in_mask.ensures ∙ w.if-in_mask.true)))
      | else-in_mask w ↦
          rw w.n-is (omega arith, so.1 ∙ sym (count-out q (in_mask _) (sym c.in_mask.ensures ∙ w.if-in_mask.false)))
    ]

pub returns : goal.returns
returns c = count-done _ _ _ _ (omega arith) c.loop-q-test.false c.loop-q.invariant.1
