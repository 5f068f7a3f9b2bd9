-- `replay::reading::block_at` meets its contract. Assumes nothing.
use borrow.Author.Rules.{rules}
use native.Mathlib.Omega.{arith}
use Rattle.replay.proofs.Records.{block-end, block-is, block-faulty}
use Rattle.replay.proofs.reading.block_at.Goals as goal

pub returns-then-t-eq0 : goal.returns-then-t-eq0
returns-then-t-eq0 c = (block-end _ _ c.if-t-eq0.true, omega arith, omega arith)

pub leading_draws-n-requires : goal.leading_draws-n-requires
leading_draws-n-requires c = search rules

pub fault_at-f-requires : goal.fault_at-f-requires
fault_at-f-requires c = search rules

pub overflow_mul-result : goal.overflow_mul-result
overflow_mul-result c = search rules

pub overflow_add-result : goal.overflow_add-result
overflow_add-result c = search rules

pub returns-then-f-eq0 : goal.returns-then-f-eq0
returns-then-f-eq0 c =
    let l = c.leading_draws-n.ensures in
    (block-is _ _ _ c.if-t-eq0.false l.0 _ c.fault_at-f.ensures c.if-f-eq0.true, l.1, l.2)

pub returns : goal.returns
returns c =
    let l = c.leading_draws-n.ensures in (
      block-faulty _ _ _ c.if-t-eq0.false l.0 _ c.fault_at-f.ensures c.if-f-eq0.false,
      omega arith,
      omega arith,
    )
