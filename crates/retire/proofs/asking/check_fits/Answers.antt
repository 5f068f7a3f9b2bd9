-- `retire::asking::check_fits` meets its contract. Assumes nothing.
use native.Mathlib.Omega.{arith}
use Rattle.paper.proofs.Rows.{skipped, renamed}
use Rattle.retire.proofs.News.{fresh_some, fresh_none, fits_by, fits_never}
use Rattle.retire.proofs.asking.check_fits.Goals as goal

pub fresh_slots-requires : goal.fresh_slots-requires
fresh_slots-requires c = c.requires.1 c.if-before-ne0.false

pub overflow_add-fits : goal.overflow_add-fits
overflow_add-fits c =
    let W = (fresh_some _ _ _ _ c.fresh_slots.ensures c.in-Some.is).0 in
    omega (arith, c.requires.0, W.few, W.number)

pub returns : goal.returns
returns c = renamed _ 5 c.check-2.ensures (fits_by c.args.fault c.args.kept _ _ _ (fresh_some _ _ _ _ c.fresh_slots.ensures c.in-Some.is).0)

pub returns-in_default : goal.returns-in_default
returns-in_default c = renamed _ 5 c.check.ensures (fits_never c.args.fault c.args.kept _ (fresh_none _ _ _ c.fresh_slots.ensures c.in_default.is))

pub returns-then-before-ne0 : goal.returns-then-before-ne0
returns-then-before-ne0 c = skipped _ _ c.if-before-ne0.true
