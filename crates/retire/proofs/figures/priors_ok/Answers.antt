-- `retire::figures::priors_ok` meets its contract. Assumes nothing.
use Rattle.std.proofs.Common.{ℕ, sym, ap, ◌∙◌}
use borrow.Author.Tests.{le-leb, lt-leb}
use lib.Dec.{leb}
use Rattle.paper.proofs.Count.{all_none, all_more, all-fails, all_done}
use Rattle.retire.proofs.figures.priors_ok.Goals as goal

pub loop-p-init : goal.loop-p-init
loop-p-init c = all_none _

pub loop-p-preserved : goal.loop-p-preserved
loop-p-preserved c =
    all_more _ _ c.loop-p.invariant (ap (λ (x : ℕ). leb x 100000000) (sym c.entry_of.ensures) ∙ le-leb _ _ c.if-entry_of-gt-LAST_MINUTE.false)

pub returns-then-entry_of-gt-LAST_MINUTE : goal.returns-then-entry_of-gt-LAST_MINUTE
returns-then-entry_of-gt-LAST_MINUTE c =
    sym (all-fails _ _ _ c.loop-p-test.true
    (ap (λ (x : ℕ). leb x 100000000) (sym c.entry_of.ensures) ∙ lt-leb _ _ c.if-entry_of-gt-LAST_MINUTE.true))

pub returns : goal.returns
returns c = all_done _ _ _ c.loop-p.auto.p-end c.loop-p-test.false c.loop-p.invariant
