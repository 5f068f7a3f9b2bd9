-- `job::play::list` meets its contract. Assumes nothing.
use borrow.Author.Rules.{rules}
use mathlib.Core.Path.{sym}
use native.Mathlib.Omega.{arith}
use Rattle.job.proofs.play.list.Goals as goal

pub slice_bounds-put_listing-end-5 : goal.slice_bounds-put_listing-end-5
slice_bounds-put_listing-end-5 c =
    sym c.requires.starts_len.2

pub bounds-totals-0 : goal.bounds-totals-0
bounds-totals-0 c = search rules

pub put_listing-requires : goal.put_listing-requires
put_listing-requires c =
    let at_pre = c.requires in
    let f = at_pre.slots_bound in
    let p = at_pre.starts_len in
    let y = at_pre.owners_len in record { slots_bound = f; slots_in_bounds = (omega (arith, f.0, p.0), omega (arith, f.0, p.1), omega (arith, f.0, y.0)); people_in_bounds = (omega (arith, f.1, y.1), omega (arith, f.1, p.2), omega (arith, f.2, y.3)); by_index = at_pre.by_index }

pub returns : goal.returns
returns c = c.put_listing.ensures
