-- `records::blocks::block_from` meets its contract. The invariant: `count` whole records stand between `at` and `end`. Assumes nothing.
use mathlib.Core.Path.{sym, ◌∙◌}
use Prim.Native.Nat.{◌+◌}
use native.Mathlib.Omega.{arith}
use native.Mathlib.Nat.{zero-mul}
use Rattle.paper.proofs.Count.{all_none}
use Rattle.records.proofs.Walks.{record-says, next-at, block_more, block-done}
use Rattle.records.proofs.blocks.block_from.Goals as goal

pub loop-count-init : goal.loop-count-init
loop-count-init c = (omega (arith, zero-mul (4 + c.args.size)), omega arith, omega arith, all_none _)

pub overflow_add-end-in-loop-count : goal.overflow_add-end-in-loop-count
overflow_add-end-in-loop-count c = omega (arith, (record-says _ _ _ _ (sym c.record_at.ensures ∙ c.loop-count-test.true)).0)

pub loop-count-smaller : goal.loop-count-smaller
loop-count-smaller c = omega (arith, (record-says _ _ _ _ (sym c.record_at.ensures ∙ c.loop-count-test.true)).0)

pub loop-count-preserved : goal.loop-count-preserved
loop-count-preserved c =
    let at = c.loop-count.invariant in
    let t = sym c.record_at.ensures ∙ c.loop-count-test.true in (
      next-at _ _ _ _ at.0,
      omega (arith, (record-says _ _ _ _ t).0),
      omega arith,
      block_more _ _ _ _ _ _ at.0 t at.3,
    )

pub returns : goal.returns
returns c =
    let at = c.loop-count.invariant in
    record {
      count_value = block-done _ _ _ _ _ _ at.0 at.1 (sym c.record_at.ensures ∙ c.loop-count-test.false) at.3;
      end_value = (at.0, at.1);
    }
