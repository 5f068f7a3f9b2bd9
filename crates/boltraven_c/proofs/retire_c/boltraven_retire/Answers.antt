-- `boltraven_c::retire_c::boltraven_retire` meets its contract. Assumes nothing.
use Rattle.std.specs.Prelude.{Result, Ok}
use Rattle.paper.specs.declared.Refusal.{Refusal}
use Rattle.retire.specs.declared.Retiring.{Retiring}
use mathlib.Core.Path.{sym, ap, ◌∙◌}
use Rattle.boltraven_c.specs.Retiring.{retiring_number, retiring_told}
use borrow.Author.Rules.{rules}
use Rattle.boltraven_c.proofs.retire_c.boltraven_retire.Goals as goal

pub retire-requires : goal.retire-requires
retire-requires c = search rules

pub three_numbers-requires : goal.three_numbers-requires
three_numbers-requires c = search rules

pub refusal_number-requires : goal.refusal_number-requires
refusal_number-requires c = search rules

pub shape_of-starts-in-Ok-Retired : goal.shape_of-starts-in-Ok-Retired
shape_of-starts-in-Ok-Retired c = search rules

pub shape_of-ends-in-Ok-Retired : goal.shape_of-ends-in-Ok-Retired
shape_of-ends-in-Ok-Retired c = search rules

pub shape_of-avail-in-Ok-Retired : goal.shape_of-avail-in-Ok-Retired
shape_of-avail-in-Ok-Retired c = search rules

pub shape_of-unit_starts-in-Ok-Retired : goal.shape_of-unit_starts-in-Ok-Retired
shape_of-unit_starts-in-Ok-Retired c = search rules

pub shape_of-frozen-in-Ok-Retired : goal.shape_of-frozen-in-Ok-Retired
shape_of-frozen-in-Ok-Retired c = search rules

pub shape_of-owners-in-Ok-Retired : goal.shape_of-owners-in-Ok-Retired
shape_of-owners-in-Ok-Retired c = search rules

pub shape_of-sets-in-Ok-Retired : goal.shape_of-sets-in-Ok-Retired
shape_of-sets-in-Ok-Retired c = search rules

pub shape_of-minutes-in-Ok-Retired : goal.shape_of-minutes-in-Ok-Retired
shape_of-minutes-in-Ok-Retired c = search rules

pub shape_of-totals-in-Ok-Retired : goal.shape_of-totals-in-Ok-Retired
shape_of-totals-in-Ok-Retired c = search rules

pub shape_of-priors-in-Ok-Retired : goal.shape_of-priors-in-Ok-Retired
shape_of-priors-in-Ok-Retired c = search rules

pub shape_of-retired-in-Ok-Retired : goal.shape_of-retired-in-Ok-Retired
shape_of-retired-in-Ok-Retired c = search rules

pub returns-in-Ok-Retired : goal.returns-in-Ok-Retired
returns-in-Ok-Retired c =
    let E = c.retire.ensures in
    let e = sym E.said ∙ c.in-Ok-Retired.is ∙ ap {B = Result Retiring Refusal} Ok c.in-Ok-Retired.field-0-is in
    record { number = sym (ap retiring_number e); left = E.left; told = c.three_numbers.ensures ∙ sym (ap (retiring_told _) e) }

pub shape_of-starts-in-Ok-Nothing : goal.shape_of-starts-in-Ok-Nothing
shape_of-starts-in-Ok-Nothing c = search rules

pub shape_of-ends-in-Ok-Nothing : goal.shape_of-ends-in-Ok-Nothing
shape_of-ends-in-Ok-Nothing c = search rules

pub shape_of-avail-in-Ok-Nothing : goal.shape_of-avail-in-Ok-Nothing
shape_of-avail-in-Ok-Nothing c = search rules

pub shape_of-unit_starts-in-Ok-Nothing : goal.shape_of-unit_starts-in-Ok-Nothing
shape_of-unit_starts-in-Ok-Nothing c = search rules

pub shape_of-frozen-in-Ok-Nothing : goal.shape_of-frozen-in-Ok-Nothing
shape_of-frozen-in-Ok-Nothing c = search rules

pub shape_of-owners-in-Ok-Nothing : goal.shape_of-owners-in-Ok-Nothing
shape_of-owners-in-Ok-Nothing c = search rules

pub shape_of-sets-in-Ok-Nothing : goal.shape_of-sets-in-Ok-Nothing
shape_of-sets-in-Ok-Nothing c = search rules

pub shape_of-minutes-in-Ok-Nothing : goal.shape_of-minutes-in-Ok-Nothing
shape_of-minutes-in-Ok-Nothing c = search rules

pub shape_of-totals-in-Ok-Nothing : goal.shape_of-totals-in-Ok-Nothing
shape_of-totals-in-Ok-Nothing c = search rules

pub shape_of-priors-in-Ok-Nothing : goal.shape_of-priors-in-Ok-Nothing
shape_of-priors-in-Ok-Nothing c = search rules

pub shape_of-retired-in-Ok-Nothing : goal.shape_of-retired-in-Ok-Nothing
shape_of-retired-in-Ok-Nothing c = search rules

pub returns-in-Ok-Nothing : goal.returns-in-Ok-Nothing
returns-in-Ok-Nothing c =
    let E = c.retire.ensures in
    let e = sym E.said ∙ c.in-Ok-Nothing.is ∙ ap {B = Result Retiring Refusal} Ok c.in-Ok-Nothing.field-0-is in
    record { number = sym (ap retiring_number e); left = E.left; told = sym (ap (retiring_told _) e) }

pub shape_of-starts-in-Ok-Everything : goal.shape_of-starts-in-Ok-Everything
shape_of-starts-in-Ok-Everything c = search rules

pub shape_of-ends-in-Ok-Everything : goal.shape_of-ends-in-Ok-Everything
shape_of-ends-in-Ok-Everything c = search rules

pub shape_of-avail-in-Ok-Everything : goal.shape_of-avail-in-Ok-Everything
shape_of-avail-in-Ok-Everything c = search rules

pub shape_of-unit_starts-in-Ok-Everything : goal.shape_of-unit_starts-in-Ok-Everything
shape_of-unit_starts-in-Ok-Everything c = search rules

pub shape_of-frozen-in-Ok-Everything : goal.shape_of-frozen-in-Ok-Everything
shape_of-frozen-in-Ok-Everything c = search rules

pub shape_of-owners-in-Ok-Everything : goal.shape_of-owners-in-Ok-Everything
shape_of-owners-in-Ok-Everything c = search rules

pub shape_of-sets-in-Ok-Everything : goal.shape_of-sets-in-Ok-Everything
shape_of-sets-in-Ok-Everything c = search rules

pub shape_of-minutes-in-Ok-Everything : goal.shape_of-minutes-in-Ok-Everything
shape_of-minutes-in-Ok-Everything c = search rules

pub shape_of-totals-in-Ok-Everything : goal.shape_of-totals-in-Ok-Everything
shape_of-totals-in-Ok-Everything c = search rules

pub shape_of-priors-in-Ok-Everything : goal.shape_of-priors-in-Ok-Everything
shape_of-priors-in-Ok-Everything c = search rules

pub shape_of-retired-in-Ok-Everything : goal.shape_of-retired-in-Ok-Everything
shape_of-retired-in-Ok-Everything c = search rules

pub returns-in-Ok-Everything : goal.returns-in-Ok-Everything
returns-in-Ok-Everything c =
    let E = c.retire.ensures in
    let e = sym E.said ∙ c.in-Ok-Everything.is ∙ ap {B = Result Retiring Refusal} Ok c.in-Ok-Everything.field-0-is in
    record { number = sym (ap retiring_number e); left = E.left; told = sym (ap (retiring_told _) e) }

pub shape_of-starts-in-Err : goal.shape_of-starts-in-Err
shape_of-starts-in-Err c = search rules

pub shape_of-ends-in-Err : goal.shape_of-ends-in-Err
shape_of-ends-in-Err c = search rules

pub shape_of-avail-in-Err : goal.shape_of-avail-in-Err
shape_of-avail-in-Err c = search rules

pub shape_of-unit_starts-in-Err : goal.shape_of-unit_starts-in-Err
shape_of-unit_starts-in-Err c = search rules

pub shape_of-frozen-in-Err : goal.shape_of-frozen-in-Err
shape_of-frozen-in-Err c = search rules

pub shape_of-owners-in-Err : goal.shape_of-owners-in-Err
shape_of-owners-in-Err c = search rules

pub shape_of-sets-in-Err : goal.shape_of-sets-in-Err
shape_of-sets-in-Err c = search rules

pub shape_of-minutes-in-Err : goal.shape_of-minutes-in-Err
shape_of-minutes-in-Err c = search rules

pub shape_of-totals-in-Err : goal.shape_of-totals-in-Err
shape_of-totals-in-Err c = search rules

pub shape_of-priors-in-Err : goal.shape_of-priors-in-Err
shape_of-priors-in-Err c = search rules

pub shape_of-retired-in-Err : goal.shape_of-retired-in-Err
shape_of-retired-in-Err c = search rules

pub returns-in-Err : goal.returns-in-Err
returns-in-Err c =
    let E = c.retire.ensures in
    let e = sym E.said ∙ c.in-Err.is in
    record { number = c.refusal_number.ensures ∙ sym (ap retiring_number e); left = E.left; told = sym (ap (retiring_told _) e) }
