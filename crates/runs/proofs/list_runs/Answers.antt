-- `runs::list_runs` meets its contract. Assumes nothing.
use Rattle.std.specs.Prelude.{Ok}
use mathlib.Core.Path.{ap, ◌∙◌}
use Prim.Native.Nat.{◌*◌}
use native.Mathlib.Omega.{arith}
use Rattle.slotset.specs.Answers.{row_slots}
use Rattle.slotset.proofs.Puts.{slot_lt}
use Rattle.slotset.proofs.Refusals.{row-says}
use Rattle.runs.proofs.Listing.{listing-starts, listing-given, listing-more, listing-past, listing-done}
use Rattle.runs.proofs.Listing.{listing-refused, answered}
use Rattle.runs.proofs.list_runs.Goals as goal

pub overflow_cast-firsts : goal.overflow_cast-firsts
overflow_cast-firsts c =
    let i = c.loop-at.invariant in
    let e = answered _ _ _ _ _ _ i.0 c.run_from.ensures (c.in-Ok-Some.is ∙ ap Ok c.in-Ok-Some.field-0-is) in
    let g = listing-given _ (slot_lt _ _) _ _ _ _ _ _ _ i.1.1 c.loop-at-test.true _ _ _ e in
    record { fits = omega (arith, g.to, g.fits, (row-says _ _ _ _ i.0).short) }

pub overflow_cast-lasts : goal.overflow_cast-lasts
overflow_cast-lasts c =
    let i = c.loop-at.invariant in
    let e = answered _ _ _ _ _ _ i.0 c.run_from.ensures (c.in-Ok-Some.is ∙ ap Ok c.in-Ok-Some.field-0-is) in
    let g = listing-given _ (slot_lt _ _) _ _ _ _ _ _ _ i.1.1 c.loop-at-test.true _ _ _ e in
    record { fits = omega (arith, g.fits, (row-says _ _ _ _ i.0).short) }

pub loop-at-init : goal.loop-at-init
loop-at-init c =
    let a = c.args in
    let f = row_slots a.words.now a.person in
    (c.requires.len_value, (c.requires.len_in_bounds, listing-starts f (slot_lt a.words.now (16 * a.person)) a.len a.firsts.now a.lasts.now))

pub loop-at-smaller : goal.loop-at-smaller
loop-at-smaller c =
    let i = c.loop-at.invariant in
    let e = answered _ _ _ _ _ _ i.0 c.run_from.ensures (c.in-Ok-Some.is ∙ ap Ok c.in-Ok-Some.field-0-is) in
    let g = listing-given _ (slot_lt _ _) _ _ _ _ _ _ _ i.1.1 c.loop-at-test.true _ _ _ e in
    omega (arith, g.from, g.to, g.past, c.loop-at-test.true)

pub loop-at-preserved : goal.loop-at-preserved
loop-at-preserved c =
    let i = c.loop-at.invariant in
    let e = answered _ _ _ _ _ _ i.0 c.run_from.ensures (c.in-Ok-Some.is ∙ ap Ok c.in-Ok-Some.field-0-is) in
    let m = listing-more _ (slot_lt _ _) _ _ _ _ _ _ _ i.1.1 c.loop-at-test.true _ _ _ e in
    (i.0, (i.1.0, m))

pub returns-in-Ok-None : goal.returns-in-Ok-None
returns-in-Ok-None c =
    let i = c.loop-at.invariant in
    let e = answered _ _ _ _ _ _ i.0 c.run_from.ensures (c.in-Ok-None.is ∙ ap Ok c.in-Ok-None.field-0-is) in
    listing-done _ (slot_lt _ _) _ _ _ _ _ _ _ i.1.1 e

pub returns-in-Err : goal.returns-in-Err
returns-in-Err c =
    let i = c.loop-at.invariant in
    let e = answered _ _ _ _ _ _ i.0 c.run_from.ensures c.in-Err.is in
    listing-refused _ (slot_lt _ _) _ _ _ _ _ _ _ i.1.1 _ e

pub returns : goal.returns
returns c =
    listing-past _ (slot_lt _ _) _ _ _ _ _ _ _ c.loop-at.invariant.1.1 c.loop-at-test.false
