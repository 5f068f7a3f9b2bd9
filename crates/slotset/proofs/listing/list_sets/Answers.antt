-- `slotset::listing::list_sets` meets its contract. Assumes nothing.
use borrow.Author.Rules.{rules}
use native.Mathlib.Omega.{arith}
use Rattle.slotset.proofs.Columns.{everybody-starts, everybody-long, everybody-room, everybody-more, person-few, everybody-end}
use Rattle.slotset.proofs.listing.list_sets.Goals as goal

pub loop-p-init : goal.loop-p-init
loop-p-init c =
    let s = c in
    (s.requires.people_bound, (s.requires.len_in_bounds, (search rules, everybody-starts _ _ _ _ _)))

pub overflow_mul-p : goal.overflow_mul-p
overflow_mul-p c = omega (arith, c.loop-p.invariant.0.0.0, c.loop-p-test.true)

pub list_set-next-requires : goal.list_set-next-requires
list_set-next-requires c =
    let t = c.loop-p-test.true in
    let i = c.loop-p.invariant in
    let g = everybody-long _ _ _ _ _ _ _ _ _ _ i.1.1.1 in
    let r = everybody-room _ _ _ _ _ _ _ _ _ _ i.1.1.1 _ t in record { base_in_bounds = (omega (arith, t, i.0.1.0), i.0.0.1); len_in_bounds = (omega (arith, r, g.1, i.1.0.0), omega (arith, r, g.2, i.1.0.1)) }

pub overflow_sub-counts : goal.overflow_sub-counts
overflow_sub-counts c = omega (arith, c.list_set-next.ensures.0)

pub overflow_cast-counts : goal.overflow_cast-counts
overflow_cast-counts c =
    let q = c in
    let i = q.loop-p.invariant in
    record { fits = omega (arith, person-few _ _ _ _ _ _ _ _ _ _ i.1.1.1 _ _ _ q.list_set-next.ensures, i.0.0.1) }

pub bounds-counts-p : goal.bounds-counts-p
bounds-counts-p c =
    let q = c in
    let i = q.loop-p.invariant in
    omega (arith, (everybody-long _ _ _ _ _ _ _ _ _ _ i.1.1.1).0, i.0.1.1, q.loop-p-test.true)

pub loop-p-preserved : goal.loop-p-preserved
loop-p-preserved c =
    let q = c in
    let i = q.loop-p.invariant in
    let t = q.loop-p-test.true in
    (i.0, (i.1.0, (omega (arith, t), everybody-more _ _ _ _ _ _ _ _ _ _ i.1.1.1 _ _ _ q.list_set-next.ensures)))

pub shape_of-counts : goal.shape_of-counts
shape_of-counts c = (everybody-long _ _ _ _ _ _ _ _ _ _ c.loop-p.invariant.1.1.1).0

pub shape_of-firsts : goal.shape_of-firsts
shape_of-firsts c = (everybody-long _ _ _ _ _ _ _ _ _ _ c.loop-p.invariant.1.1.1).1

pub shape_of-lasts : goal.shape_of-lasts
shape_of-lasts c = (everybody-long _ _ _ _ _ _ _ _ _ _ c.loop-p.invariant.1.1.1).2

pub returns : goal.returns
returns c =
    let i = c.loop-p.invariant in
    everybody-end _ _ _ _ _ _ _ _ _ _ i.1.1.1 _ (omega (arith, i.1.1.0, c.loop-p-test.false))
