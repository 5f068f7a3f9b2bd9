-- `wayback::writing::write_draws` meets its contract. Assumes nothing.
use native.Mathlib.Omega.{arith}
use borrow.Author.Rules.{rules}
use Rattle.wayback.proofs.Written.{wrote_none, wrote-out, wrote-in, wrote-end, changed-no, changed-yes, place-by, number_fits}
use Rattle.wayback.proofs.Written.{draws-there, firsts-there, seconds-there}
use Rattle.wayback.proofs.writing.write_draws.Goals as goal
use Rattle.wayback.proofs.writing.write_draws.Goals.{then-was-owner_of, else-was-owner_of}

pub bounds-draws-n : goal.bounds-draws-n
bounds-draws-n c = draws-there _ _ _ _ _ _ _ _ _ _ _ _ c.loop-u.invariant _ c.requires (omega arith) c.loop-u-test.true

pub bounds-firsts-n : goal.bounds-firsts-n
bounds-firsts-n c = firsts-there _ _ _ _ _ _ _ _ _ _ _ _ c.loop-u.invariant _ c.requires (omega arith) c.loop-u-test.true

pub bounds-seconds-n : goal.bounds-seconds-n
bounds-seconds-n c = seconds-there _ _ _ _ _ _ _ _ _ _ _ _ c.loop-u.invariant _ c.requires (omega arith) c.loop-u-test.true

pub overflow_add-n : goal.overflow_add-n
overflow_add-n c =
    let few = number_fits _ _ _ _ _ _ _ _ _ _ _ _ c.loop-u.invariant _ c.requires (omega arith) c.loop-u-test.true in
    omega arith

pub loop-u-init : goal.loop-u-init
loop-u-init c = wrote_none _ _ _ _ _ _ _

pub offset_bounds-draws-n : goal.offset_bounds-draws-n
offset_bounds-draws-n c =
    let few = number_fits _ _ _ _ _ _ _ _ _ _ _ _ c.loop-u.invariant _ c.requires (omega arith) c.loop-u-test.true in
    search rules

pub offset_bounds-firsts-n : goal.offset_bounds-firsts-n
offset_bounds-firsts-n c =
    let few = number_fits _ _ _ _ _ _ _ _ _ _ _ _ c.loop-u.invariant _ c.requires (omega arith) c.loop-u-test.true in
    search rules

pub offset_bounds-seconds-n : goal.offset_bounds-seconds-n
offset_bounds-seconds-n c =
    let few = number_fits _ _ _ _ _ _ _ _ _ _ _ _ c.loop-u.invariant _ c.requires (omega arith) c.loop-u-test.true in
    search rules

pub loop-u-preserved : goal.loop-u-preserved
loop-u-preserved c =
    let so = c.loop-u.invariant in
    let was = c.owner_of-was.ensures in
    elim c.if-was-owner_of.branch [
      | then-was-owner_of w ↦
          rw (w.n-is, w.draws-is, w.firsts-is, w.seconds-is) (wrote-in _ _ _ _ _ _ _ _ _ _ _ _ so _ c.requires c.loop-u-test.true
          (changed-yes _ _ _ _ _ _ was c.owner_of.ensures w.if-was-owner_of.true) _ (place-by _ _ _ _ _ _ w.place_in.ensures was))
      | else-was-owner_of w ↦
          rw (w.n-is, w.draws-is, w.firsts-is, w.seconds-is) (wrote-out _ _ _ _ _ _ _ _ _ _ _ _ so
          (changed-no _ _ _ _ _ _ was c.owner_of.ensures w.if-was-owner_of.false))
    ]

pub returns : goal.returns
returns c = wrote-end _ _ _ _ _ _ _ _ _ _ _ _ c.loop-u.invariant _ (omega arith) c.loop-u-test.false
