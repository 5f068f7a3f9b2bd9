-- `job::listing::put_people` meets its contract. The invariant: the lines of the first k people are written. Assumes nothing.
use borrow.Author.Rules.{rules}
use native.Mathlib.Omega.{arith}
use lib.ListN.{length, get_or}
use lib.IntN.{ℤ, pos}
use mathlib.Core.Path.{ap}
use mir.Syntax.{w64}
use mir.Val.{SFits}
use mir.ValLaws.{to_z-of_z}
use Rattle.job.specs.Listing.{person_line, person_at}
use Rattle.records.proofs.Puts.{wrote-same}
use Rattle.job.proofs.Texts.{going_start, going-room, going_more, going_end}
use Rattle.job.proofs.listing.put_people.Goals as goal

pub loop-k-init : goal.loop-k-init
loop-k-init c = (going_start _ _ _, omega arith)

pub offset_bounds-targets-k : goal.offset_bounds-targets-k
offset_bounds-targets-k c = omega (arith, c.requires.n_in_bounds)

pub bounds-targets-k : goal.bounds-targets-k
bounds-targets-k c = omega (arith, c.requires.n_in_bounds)

pub offset_bounds-minutes-k : goal.offset_bounds-minutes-k
offset_bounds-minutes-k c = omega (arith, c.requires.n_in_bounds)

pub bounds-minutes-k : goal.bounds-minutes-k
bounds-minutes-k c = omega (arith, c.requires.n_in_bounds)

pub put_person-next-requires : goal.put_person-next-requires
unfolding person_at
put_person-next-requires c =
    let k = c.loop-k.k in
    let z = get_or c.args.targets.now k (pos 0) in
    let f : SFits w64 (get_or c.args.targets.now k (pos 0)) = search rules in
    let r = going-room c.loop-k.invariant.0 c.args.n (omega arith) c.requires.n_in_bounds_2 in
    omega (arith, r, ap (λ (y : ℤ). length (person_line k (get_or c.args.minutes.now k 0) y)) (to_z-of_z w64 z f))

pub loop-k-preserved : goal.loop-k-preserved
unfolding person_at
loop-k-preserved c =
    let k = c.loop-k.k in
    let z = get_or c.args.targets.now k (pos 0) in
    let f : SFits w64 (get_or c.args.targets.now k (pos 0)) = search rules in (
      going_more c.loop-k.invariant.0 (wrote-same (ap (person_line k (get_or c.args.minutes.now k 0)) (to_z-of_z w64 z f))
          c.put_person-next.ensures)
          c.args.n (omega arith) c.requires.n_in_bounds_2,
      omega arith,
    )

pub shape_of-out : goal.shape_of-out
shape_of-out c = c.loop-k.invariant.0.same

pub returns : goal.returns
returns c =
    going_end c.loop-k.invariant.0 c.args.n (omega arith)
