-- `job::listing::put_draws` meets its contract. The invariant: the lines of the first k draws are written. Assumes nothing.
use native.Mathlib.Omega.{arith}
use Rattle.job.specs.Listing.{draw_at}
use Rattle.job.proofs.Texts.{going_start, going-room, going_more, going_end}
use Rattle.job.proofs.listing.put_draws.Goals as goal

pub loop-k-init : goal.loop-k-init
loop-k-init c = (going_start _ _ _, omega arith)

pub bounds-answers-k : goal.bounds-answers-k
bounds-answers-k c = omega (arith, c.requires.n_in_bounds)

pub put_draw-next-requires : goal.put_draw-next-requires
unfolding draw_at
put_draw-next-requires c =
    going-room c.loop-k.invariant.0 c.args.n (omega arith) c.requires.n_in_bounds_2

pub loop-k-preserved : goal.loop-k-preserved
unfolding draw_at
loop-k-preserved c =
    (going_more c.loop-k.invariant.0 c.put_draw-next.ensures c.args.n (omega arith) c.requires.n_in_bounds_2, omega arith)

pub shape_of-out : goal.shape_of-out
shape_of-out c = c.loop-k.invariant.0.same

pub returns : goal.returns
returns c =
    going_end c.loop-k.invariant.0 c.args.n (omega arith)
