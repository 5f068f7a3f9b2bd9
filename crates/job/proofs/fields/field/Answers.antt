-- `job::fields::field` meets its contract. Assumes nothing.
use mathlib.Core.Path.{◌∙◌}
use Rattle.records.proofs.Numbers.{field_is}
use Rattle.job.proofs.fields.field.Goals as goal

pub returns : goal.returns
returns c =
    let p = c.requires in
    (c.field.ensures.0 ∙ field_is _ _ _ p.1 p.0, c.field.ensures.1)
