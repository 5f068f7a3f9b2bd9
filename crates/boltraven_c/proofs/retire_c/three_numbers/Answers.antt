-- `boltraven_c::retire_c::three_numbers` meets its contract. Assumes nothing.
use mathlib.Core.Path.{refl}
use Rattle.boltraven_c.specs.Retiring.{three_numbers}
use borrow.Author.Rules.{rules}
use Rattle.boltraven_c.proofs.retire_c.three_numbers.Goals as goal

pub overflow_mul-result : goal.overflow_mul-result
overflow_mul-result c = search rules

pub overflow_add-result : goal.overflow_add-result
overflow_add-result c = search rules

pub overflow_mul-result-2 : goal.overflow_mul-result-2
overflow_mul-result-2 c = search rules

pub overflow_add-result-2 : goal.overflow_add-result-2
overflow_add-result-2 c = search rules

pub returns : goal.returns
unfolding three_numbers
returns c = refl
