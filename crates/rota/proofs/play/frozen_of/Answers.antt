-- `rota::play::frozen_of` meets its contract. Assumes nothing.
use native.Mathlib.Omega.{arith}
use borrow.Author.Rules.{rules}
use lib.ListN.{length-set}
use Rattle.rota.proofs.Readied.{marks-none, marks-more, marks-done}
use Rattle.rota.proofs.play.frozen_of.Goals as goal

pub loop-u-init : goal.loop-u-init
loop-u-init c = (search rules, marks-none c.args.slots c.args.units c.args.begins.now c.args.frozen.now 1024)

pub mark_of-requires : goal.mark_of-requires
mark_of-requires c =
    let p = c.requires in
    (omega (arith, c.unit_end-e.ensures, p.unit_room.within c.loop-u.u c.loop-u-test.true, p.slots_bound.0), p.slots_bound.2)

pub loop-u-preserved : goal.loop-u-preserved
loop-u-preserved c =
    let so = c.loop-u.invariant in (
      simp length-set so.0,
      marks-more c.args.slots c.args.units c.args.begins.now c.args.frozen.now _ _ _ _ _ (omega (arith, so.0, c.requires.slots_bound.1))
          c.start_of-a.ensures c.unit_end-e.ensures c.mark_of.ensures so.1,
    )

pub returns : goal.returns
returns c =
    marks-done c.args.slots c.args.units c.args.begins.now c.args.frozen.now _ c.loop-u.u (omega arith)
    c.loop-u.invariant.1
