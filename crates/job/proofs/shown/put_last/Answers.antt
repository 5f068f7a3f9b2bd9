-- `job::shown::put_last` meets its contract. Assumes nothing.
use borrow.Author.Rules.{rules}
use native.Mathlib.Omega.{arith}
use mathlib.Core.Path.{sym, ap}
use Rattle.job.specs.declared.Ending.{Ending}
use lib.ListN.{length}
use Rattle.job.specs.Shown.{last_line}
use Rattle.records.proofs.Puts.{wrote-both, wrote-same, wrote-length}
use Rattle.job.proofs.shown.put_last.Goals as goal

pub enum_told-1 : goal.enum_told-1
enum_told-1 c = search rules

pub put_byte-next-requires : goal.put_byte-next-requires
put_byte-next-requires c = omega (arith, c.requires, ap (λ (z : Ending). length (last_line z)) c.in-Agrees.is)

pub put_byte-requires : goal.put_byte-requires
put_byte-requires c =
    omega (
      arith,
      c.requires,
      ap (λ (z : Ending). length (last_line z)) c.in-Agrees.is,
      c.put_byte-next.ensures.ends,
      wrote-length c.put_byte-next.ensures
          (omega (
            arith,
            c.requires,
            ap (λ (z : Ending). length (last_line z))
                c.in-Agrees.is,
          )),
    )

pub enum_known-end : goal.enum_known-end
enum_known-end c = search rules

pub put_difference-requires : goal.put_difference-requires
put_difference-requires c = omega (arith, c.requires, ap (λ (z : Ending). length (last_line z)) c.in-Differs.is)

pub enum_known-end-in-Refused-1 : goal.enum_known-end-in-Refused-1
enum_known-end-in-Refused-1 c = search rules

pub put_refused-requires : goal.put_refused-requires
put_refused-requires c = omega (arith, c.requires, ap (λ (z : Ending). length (last_line z)) c.in-Refused.is)

pub shape_of-out-in-Agrees : goal.shape_of-out-in-Agrees
shape_of-out-in-Agrees c = search rules

pub returns-in-Agrees : goal.returns-in-Agrees
returns-in-Agrees c =
    let e = c.in-Agrees.is in
    wrote-same (sym (ap last_line e))
    (wrote-both c.put_byte-next.ensures c.put_byte.ensures
    (omega (arith, c.requires, ap (λ (z : Ending). length (last_line z)) e)))

pub shape_of-out-in-Differs : goal.shape_of-out-in-Differs
shape_of-out-in-Differs c = search rules

pub returns-in-Differs : goal.returns-in-Differs
returns-in-Differs c = wrote-same (sym (ap last_line c.in-Differs.is)) c.put_difference.ensures

pub shape_of-out-in-Refused : goal.shape_of-out-in-Refused
shape_of-out-in-Refused c = search rules

pub returns-in-Refused : goal.returns-in-Refused
returns-in-Refused c = wrote-same (sym (ap last_line c.in-Refused.is)) c.put_refused.ensures
