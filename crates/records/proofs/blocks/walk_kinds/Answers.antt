-- `records::blocks::walk_kinds` meets its contract. The invariant: the first i kinds are counted. Assumes nothing.
use Rattle.std.proofs.Common.{◌≡◌, sym, ap, ◌∙◌, arith}
use Rattle.std.proofs.lemmas.Bool.{lt-leb}
use Rattle.paper.proofs.Count.{over_none}
use Rattle.records.specs.Records.{block_at}
use Rattle.records.proofs.Walks.{block-next, walk_none, walk-short, walk-long, over-turn}
use Rattle.records.proofs.blocks.walk_kinds.Goals as goal

pub loop-i-init : goal.loop-i-init
loop-i-init c = (sym (over_none _ _), sym (over_none _ _), walk_none _ _, omega arith)

pub loop-i-preserved : goal.loop-i-preserved
loop-i-preserved c =
    let b = c.block_from-b.ensures in
    let n = block-next _ _ _ _ _ _ c.loop-i.invariant.2 b.count_value b.end_value.0 in (
      over-turn _ _ _ _ _ c.loop-i.invariant.0 n.0,
      over-turn _ _ _ _ _ c.loop-i.invariant.1 c.loop-i.invariant.2,
      n.1,
      b.end_value.1,
    )

pub returns-then-s-limit-clause-ok_value : goal.returns-then-s-limit-clause-ok_value
returns-then-s-limit-clause-ok_value c =
    let e : c.loop-i.i ≡ c.args.kinds = omega arith in
    walk-short _ _ _ _ (c.loop-i.invariant.2 ∙ ap (block_at _ _) e) c.if-s-limit.true

pub returns-else-s-limit-clause-ok_value : goal.returns-else-s-limit-clause-ok_value
returns-else-s-limit-clause-ok_value c = lt-leb _ _ c.if-s-limit.false ∙ walk-long _ _ _ c.if-s-limit.false
