-- `targets::remainder::adjusted_of` meets its contract. Assumes nothing.
use Rattle.std.proofs.Common.{ap, ◌∙◌, arith, to_z-of_z, w64}
use borrow.Author.Rules.{sfits_of}
use Rattle.targets.specs.declared.Best.{Best}
use Rattle.targets.specs.declared.Standing.{Standing}
use Rattle.targets.specs.Figures.{pad}
use Rattle.targets.proofs.Taker.{same-standing, adjusted-by}
use Rattle.targets.proofs.remainder.adjusted_of.Goals as goal

pub returns : goal.returns
returns c =
    let a = c.args in
    let b = c.best_of-at in
    adjusted-by a.standings a.demand
    c.signed_of-out.ensures
    (ap (λ (x : Best). x.at) b.ensures.0)
    (ap (λ (l : Standing). l.target) (same-standing a.standings b.result.at _ pad (omega arith)))
    c.total_of-total.ensures.0
    (to_z-of_z {w = w64} (sfits_of c.with_rest.type_inv) ∙ c.with_rest.ensures)
