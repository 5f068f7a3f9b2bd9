-- `slots::avail::fill_row` meets its contract. Assumes nothing.
use mathlib.Core.Path.{refl, sym}
use native.Mathlib.Omega.{arith}
use lib.ListN.{take}
use Rattle.paper.proofs.Logic.{people-says}
use Rattle.slotset.proofs.Puts.{puts_none}
use Rattle.slots.proofs.AvailLaws.{covered-by, row_done, row-turn}
use Rattle.slots.proofs.avail.fill_row.Goals as goal

pub overflow_mul-base : goal.overflow_mul-base
overflow_mul-base c = omega (arith, (people-says _ c.requires.people_value.0).1, c.requires.people_value.2)

pub loop-k-init : goal.loop-k-init
loop-k-init c = (refl, sym (puts_none _ _ _ _), omega arith, λ j h i a b. absurd (omega arith))

pub overflow_add-base : goal.overflow_add-base
overflow_add-base c =
    let T = c.requires.slots_bound.1 in
    let h = c.loop-k-test.true in
    omega (arith, (people-says _ c.requires.people_value.0).1, T.ordered _ h, T.capped _ h)

pub overflow_add-base-in-loop-k : goal.overflow_add-base-in-loop-k
overflow_add-base-in-loop-k c =
    omega (arith, (people-says _ c.requires.people_value.0).1, c.requires.slots_bound.1.capped _ c.loop-k-test.true)

pub loop-k-preserved : goal.loop-k-preserved
loop-k-preserved c =
    let args = c.args in
    let n = c.requires.n_bound in
    let people = c.requires.people_value in
    let T = c.requires.slots_bound.1 in
    let loop = c.loop-k in
    let inv = loop.invariant in
    let h = c.loop-k-test.true in
    let opened = c.opened_by_from-opened.ensures in
    let order = T.ordered loop.k h in (
      inv.0,
      row-turn (take args.n args.keys.now) args.starts.now args.ends.now _ _ _ _ _ _ _ _ _ people.0 c.requires.slots_bound.0
          people.2 people.1 inv.0 inv.1 h
          (covered-by args.keys.now args.n n.1 n.2 _ _ _ opened (omega (arith, order)) _ c.reaches-want.ensures)
          c.put_stretch.ensures.1,
      opened.few,
      λ j g i a b. omega (arith, opened.by j g, T.ascending loop.k i (omega arith) b, order),
    )

pub returns : goal.returns
returns c = row_done _ _ _ _ _ _ c.loop-k.invariant.1 (omega arith) c.loop-k-test.false
