-- `job::listing::refusal_size` meets its contract. Assumes nothing.
use native.Mathlib.Omega.{arith}
use Rattle.job.proofs.Texts.{plain-length, placed-length}
use Rattle.job.proofs.listing.refusal_size.Goals as goal

pub returns-then-part-eq0 : goal.returns-then-part-eq0
returns-then-part-eq0 c =
    let a = c.args in
    omega (arith, plain-length a.part a.place a.second a.number c.if-part-eq0.true, c.digit_count-size.ensures.0)

pub returns : goal.returns
returns c =
    let a = c.args in
    omega (
      arith,
      placed-length a.part a.place a.second a.number c.if-part-eq0.false,
      c.digit_count-size.ensures.0,
      c.digit_count.ensures.0,
      c.place_size.ensures.0,
    )
