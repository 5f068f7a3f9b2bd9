-- `owners::scan::is_even` meets its contract. Assumes nothing.
use Rattle.std.proofs.Common.{sym, ◌∙◌, arith, eq-eqb, ne_eqb}
use Rattle.paper.proofs.Count.{in-none, in-more, in-fails}
use Rattle.owners.proofs.Scans.{even-as, in-past}
use Rattle.owners.proofs.scan.is_even.Goals as goal

pub loop-k-init : goal.loop-k-init
loop-k-init c = (omega arith, in-none _ _)

pub loop-k-preserved : goal.loop-k-preserved
loop-k-preserved c = (
  omega arith,
  in-more _ _ _ c.loop-k.auto.k c.loop-k.invariant.1 (eq-eqb _ _ (sym c.owner_at.ensures ∙ c.if-owner_at-owner.false)),
)

pub returns-then-owner_at-owner : goal.returns-then-owner_at-owner
returns-then-owner_at-owner c =
    in-fails _ _ _ _ c.loop-k.auto.k c.loop-k-test.true (ne_eqb _ _ (λ q. c.if-owner_at-owner.true (c.owner_at.ensures ∙ q)))
    ∙ even-as _ _ _ _ _ _ _ _ c.start_of-a.ensures c.unit_end-e.ensures c.owner_at-owner.ensures

pub returns : goal.returns
returns c =
    in-past _ _ _ _ c.loop-k.invariant.0 c.loop-k-test.false c.loop-k.invariant.1
    ∙ even-as _ _ _ _ _ _ _ _ c.start_of-a.ensures c.unit_end-e.ensures c.owner_at-owner.ensures
