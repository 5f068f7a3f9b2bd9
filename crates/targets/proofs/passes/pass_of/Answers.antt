-- `targets::passes::pass_of` meets its contract. Assumes nothing.
use Rattle.targets.specs.Passes.{pass}
use Rattle.targets.proofs.passes.pass_of.Goals as goal

pub returns : goal.returns
unfolding pass
returns c =
    rw (← c.notional_of.ensures.0, ← c.nearest_u64_to_f64-n.ensures, ← c.share_sum-sum.ensures) c.passed_over.ensures
