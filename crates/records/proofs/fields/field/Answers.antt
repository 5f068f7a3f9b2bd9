-- `records::fields::field` meets its contract. Assumes nothing.
use Rattle.std.proofs.Common.{sym, ◌∙◌, inl, inr, arith}
use Rattle.records.proofs.Numbers.{field-none, field_is}
use Rattle.records.proofs.fields.field.Goals.{then-width-gt8-via-then-width-gt8, then-width-gt8-via-else-width-gt8+then-s-width}
use Rattle.records.proofs.fields.field.Goals.{then-width-gt8-via-else-width-gt8+else-s-width+then-s-width-2}
use Rattle.records.proofs.fields.field.Goals as goal

pub returns : goal.returns
returns c = (c.number_at.ensures.0 ∙ sym (field_is _ _ _ (omega arith) (omega arith)), c.number_at.ensures.1)

pub returns-then-width-gt8 : goal.returns-then-width-gt8
returns-then-width-gt8 c = elim c.then-width-gt8.branch [
  | then-width-gt8-via-then-width-gt8 w ↦ field-none _ _ _ (inl w.if-width-gt8.true)
  | then-width-gt8-via-else-width-gt8+then-s-width w ↦ field-none _ _ _ (inr (omega arith))
  | then-width-gt8-via-else-width-gt8+else-s-width+then-s-width-2 w ↦ field-none _ _ _ (inr (omega arith))
]
