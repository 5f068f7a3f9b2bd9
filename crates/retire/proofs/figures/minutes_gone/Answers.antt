-- `retire::figures::minutes_gone` meets its contract. Assumes nothing.
use Rattle.std.proofs.Common.{ℕ, sym, ap, ◌∙◌, arith}
use Rattle.paper.proofs.Count.{sum-none, sum_done}
use Rattle.owners.specs.Derived.{plan, worked, portion}
use Rattle.owners.proofs.Scans.{worked-more}
use Rattle.retire.proofs.figures.minutes_gone.Goals as goal

pub loop-k-init : goal.loop-k-init
loop-k-init c = (omega arith, sym (sum-none _))

pub overflow_add-total : goal.overflow_add-total
overflow_add-total c = omega (arith, c.portion_of-total.ensures.1)

pub loop-k-preserved : goal.loop-k-preserved
loop-k-preserved c =
    let args = c.args in
    let at = c.loop-k in (
      omega (arith, c.portion_of-total.ensures.1),
      worked-more (plan 0 args.gone args.starts.now args.ends.now) args.owners.now args.person at.k at.total
          c.portion_of-total.result c.minutes_at.result at.invariant.1 c.minutes_at.ensures
          (c.portion_of-total.ensures.0 ∙ ap (λ (w : ℕ). portion w args.person c.minutes_at.result) c.owner_at.ensures),
    )

pub returns : goal.returns
unfolding worked
returns c = sum_done _ _ _ _ c.loop-k.auto.k-end c.loop-k-test.false c.loop-k.invariant.1
