-- `retire::figures::figures_then_ok` meets its contract. Assumes nothing.
use Rattle.std.proofs.Common.{ℕ, sym, ap, ◌∙◌}
use lib.Dec.{leb}
use Rattle.retire.proofs.Figured.{retired-by}
use Rattle.retire.proofs.figures.figures_then_ok.Goals as goal

pub returns-then-priors_then_ok : goal.returns-then-priors_then_ok
returns-then-priors_then_ok c =
    let fit = sym c.priors_then_ok.ensures ∙ c.if-priors_then_ok.true in
    simp fit
    (c.sum_ok.ensures
    ∙ ap (λ (x : ℕ). leb x 100000000) (retired-by _ _ _ _ _ _ _ _ c.total_of.ensures c.minutes_gone-uncovered.ensures))
