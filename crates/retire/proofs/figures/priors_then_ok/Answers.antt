-- `retire::figures::priors_then_ok` meets its contract. Assumes nothing.
use Rattle.std.proofs.Common.{ℕ, sym, ap, ◌∙◌}
use lib.Dec.{leb}
use Rattle.paper.proofs.Count.{all_none, all_more, all-fails, all_done}
use Rattle.retire.proofs.Figured.{prior-by}
use Rattle.retire.proofs.figures.priors_then_ok.Goals as goal

pub loop-p-init : goal.loop-p-init
loop-p-init c = all_none _

pub loop-p-preserved : goal.loop-p-preserved
loop-p-preserved c =
    let sum = prior-by c.args.people c.args.gone _ _ _ _ _ _ _ (c.from.ensures ∙ c.entry_of.ensures) c.minutes_gone.ensures in
    all_more _ _ c.loop-p.invariant (sym (ap (λ (x : ℕ). leb x 100000000) sum) ∙ sym c.sum_ok.ensures ∙ c.if-not-sum_ok.false)

pub returns-then-not-sum_ok : goal.returns-then-not-sum_ok
returns-then-not-sum_ok c =
    let sum = prior-by c.args.people c.args.gone _ _ _ _ _ _ _ (c.from.ensures ∙ c.entry_of.ensures) c.minutes_gone.ensures in
    sym (all-fails _ _ _ c.loop-p-test.true
    (sym (ap (λ (x : ℕ). leb x 100000000) sum) ∙ sym c.sum_ok.ensures ∙ c.if-not-sum_ok.true))

pub returns : goal.returns
returns c = all_done _ _ _ c.loop-p.auto.p-end c.loop-p-test.false c.loop-p.invariant
