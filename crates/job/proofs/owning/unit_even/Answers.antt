-- `job::owning::unit_even` meets its contract. The invariant: the slots from the unit's start up to k have its owner. Assumes nothing.
use mathlib.Core.Path.{sym, ◌∙◌}
use native.Mathlib.Omega.{arith}
use borrow.Author.Tests.{eq-eqb, ne_eqb}
use Rattle.paper.proofs.Count.{in-none, in-more, in-fails, in-each, each_in}
use Rattle.owners.proofs.Scans.{even-as}
use Rattle.job.proofs.owning.unit_even.Goals as goal

pub loop-k-init : goal.loop-k-init
loop-k-init c = (in-none _ _, omega arith)

pub loop-k-preserved : goal.loop-k-preserved
loop-k-preserved c =
    let inv = c.loop-k.invariant in
    (in-more _ _ _ inv.1 inv.0 (eq-eqb _ _ (sym c.entry16.ensures ∙ c.if-entry16-owner.false)), omega arith)

pub returns-then-entry16-owner : goal.returns-then-entry16-owner
returns-then-entry16-owner c =
    in-fails _ _ _ _ c.loop-k.invariant.1 c.loop-k-test.true
    (ne_eqb _ _ (λ x. c.if-entry16-owner.true (c.entry16.ensures ∙ x)))
    ∙ even-as _ _ _ _ _ _ _ _ c.start_of-a.ensures c.unit_end-e.ensures c.entry16-owner.ensures

pub returns : goal.returns
returns c =
    sym (sym (even-as _ _ _ _ _ _ _ _ c.start_of-a.ensures c.unit_end-e.ensures c.entry16-owner.ensures)
    ∙ each_in _ _ _ (λ j a b. in-each _ _ _ c.loop-k.invariant.0 j a (omega arith)))
