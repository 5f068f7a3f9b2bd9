-- `job::listing::put_slots` meets its contract. The invariant: the lines of the first k slots are written. Assumes nothing.
use native.Mathlib.Omega.{arith}
use Rattle.job.specs.Listing.{slot_at}
use Rattle.job.proofs.Texts.{going_start, going-room, going_more, going_end}
use Rattle.job.proofs.listing.put_slots.Goals as goal

pub loop-k-init : goal.loop-k-init
loop-k-init c = (going_start _ _ _, omega arith)

pub bounds-starts-k : goal.bounds-starts-k
bounds-starts-k c = omega (arith, c.requires.n_in_bounds)

pub bounds-ends-k : goal.bounds-ends-k
bounds-ends-k c = omega (arith, c.requires.n_in_bounds)

pub bounds-owners-k : goal.bounds-owners-k
bounds-owners-k c = omega (arith, c.requires.n_in_bounds)

pub put_slot-next-requires : goal.put_slot-next-requires
unfolding slot_at
put_slot-next-requires c =
    going-room c.loop-k.invariant.0 c.args.n (omega arith) c.requires.n_in_bounds_2

pub loop-k-preserved : goal.loop-k-preserved
unfolding slot_at
loop-k-preserved c =
    (going_more c.loop-k.invariant.0 c.put_slot-next.ensures c.args.n (omega arith) c.requires.n_in_bounds_2, omega arith)

pub shape_of-out : goal.shape_of-out
shape_of-out c = c.loop-k.invariant.0.same

pub returns : goal.returns
returns c =
    going_end c.loop-k.invariant.0 c.args.n (omega arith)
