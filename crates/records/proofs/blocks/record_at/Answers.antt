-- `records::blocks::record_at` meets its contract. Assumes nothing.
use Rattle.std.proofs.Common.{sym, ◌∙◌, arith, ne_eqb}
use Rattle.records.proofs.Walks.{record-short, record-kind, record-size}
use Rattle.records.proofs.blocks.record_at.Goals as goal

pub returns-then-s-at : goal.returns-then-s-at
returns-then-s-at c = sym (record-short _ _ _ _ (omega arith))

pub returns-then-number_at-size : goal.returns-then-number_at-size
returns-then-number_at-size c =
    record-kind _ _ _ _ _ _ (omega arith) c.number_at.ensures.0 c.number_at-then-number_at-size.ensures.0 c.if-number_at-size.true

pub returns-else-number_at-size : goal.returns-else-number_at-size
returns-else-number_at-size c =
    ne_eqb _ _ c.if-number_at-size.false ∙ record-size _ _ _ _ _ (omega arith) c.number_at.ensures.0 c.if-number_at-size.false
