-- `job::listing::place_size` meets its contract. Assumes nothing.
use native.Mathlib.Omega.{arith}
use Rattle.job.proofs.Texts.{two-length, one-length}
use Rattle.job.proofs.listing.place_size.Goals as goal

pub returns-then-part-eq4 : goal.returns-then-part-eq4
returns-then-part-eq4 c =
    let a = c.args in
    let l = two-length a.part a.place a.second c.if-part-eq4.true in
    let x = c.digit_count-size.ensures in
    let y = c.digit_count.ensures in
    (omega (arith, l, x.0, y.0), omega (arith, x.1, y.1))

pub returns : goal.returns
returns c =
    let a = c.args in
    let l = one-length a.part a.place a.second c.if-part-eq4.false in
    let x = c.digit_count-size.ensures in
    (omega (arith, l, x.0), omega (arith, x.1))
