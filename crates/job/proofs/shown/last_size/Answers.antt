-- `job::shown::last_size` meets its contract. Assumes nothing.
use borrow.Author.Rules.{rules}
use native.Mathlib.Omega.{arith}
use mathlib.Core.Path.{sym, ap, ◌∙◌}
use Rattle.job.specs.declared.Ending.{Ending}
use lib.ListN.{length}
use Rattle.job.specs.Shown.{last_line}
use Rattle.job.proofs.Shows.{differ-length}
use Rattle.job.proofs.shown.last_size.Goals as goal

pub enum_told-1 : goal.enum_told-1
enum_told-1 c = search rules

pub enum_known-end : goal.enum_known-end
enum_known-end c = search rules

pub digit_count-requires : goal.digit_count-requires
digit_count-requires c = search rules

pub digit_count-requires-in-Differs : goal.digit_count-requires-in-Differs
digit_count-requires-in-Differs c = search rules

pub overflow_add-result : goal.overflow_add-result
overflow_add-result c = search rules

pub overflow_add-result-in-Differs : goal.overflow_add-result-in-Differs
overflow_add-result-in-Differs c = search rules

pub enum_known-end-in-Refused-1 : goal.enum_known-end-in-Refused-1
enum_known-end-in-Refused-1 c = search rules

pub refused_size-requires : goal.refused_size-requires
refused_size-requires c = search rules

pub returns-in-Agrees : goal.returns-in-Agrees
returns-in-Agrees c = search rules

pub returns-in-Differs : goal.returns-in-Differs
returns-in-Differs c =
    let e = c.in-Differs.is in
    omega (
      arith,
      c.digit_count.ensures.0,
      c.digit_count-in-Differs.ensures.0,
      differ-length c.in-Differs.block c.in-Differs.place,
      ap (λ (z : Ending). length (last_line z)) e,
    )

pub returns-in-Refused : goal.returns-in-Refused
returns-in-Refused c = c.refused_size.ensures ∙ sym (ap (λ (z : Ending). length (last_line z)) c.in-Refused.is)
