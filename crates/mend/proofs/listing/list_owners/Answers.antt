-- `mend::listing::list_owners` meets its contract. Assumes nothing.
use mathlib.Core.Path.{◌∙◌}
use native.Mathlib.Omega.{arith}
use Rattle.mend.specs.Repairs.{flag_of}
use Rattle.mend.proofs.ListLaws.{differs-no, differs-yes, repair-is}
use Rattle.mend.proofs.ListLaws.{reached-none, reached-out, reached-room, reached-in, reached-end}
use Rattle.mend.proofs.listing.list_owners.Goals as goal
use Rattle.mend.proofs.listing.list_owners.Goals.{then-was-is, else-was-is}

pub loop-k-init : goal.loop-k-init
loop-k-init c = reached-none _ _ _ _ _ _ _

pub write_repair-requires : goal.write_repair-requires
write_repair-requires c =
    reached-room _ _ _ _ _ _ _ _ _ _ c.loop-k.invariant c.loop-k-test.true
    (differs-yes _ _ _ _ _ c.owner_at-was.ensures c.owner_at-is.ensures c.if-was-is.true) c.requires

pub overflow_add-done : goal.overflow_add-done
overflow_add-done c =
    let room = reached-room _ _ _ _ _ _ _ _ _ _ c.loop-k.invariant c.loop-k-test.true
    (differs-yes _ _ _ _ _ c.owner_at-was.ensures c.owner_at-is.ensures c.if-was-is.true) c.requires in
    omega arith

pub loop-k-preserved : goal.loop-k-preserved
loop-k-preserved c =
    let a = c.args in
    let was = c.owner_at-was.ensures in
    let is = c.owner_at-is.ensures in
    elim c.if-was-is.branch [
      | then-was-is w ↦ rw (w.done-is, w.list-is)
          (reached-in _ _ _ _ _ _ _ _ _ _ c.loop-k.invariant c.loop-k-test.true (differs-yes _ _ _ _ _ was is w.if-was-is.true) _
          (repair-is 0 (flag_of a.frozen.now 0) a.old.now a.new.now _ _ _ _ (w.from.ensures ∙ was) (w.from-then-was-is.ensures ∙ is)
          w.flag_of.ensures) _ w.write_repair.auto.list w.write_repair.ensures)
      | else-was-is w ↦ rw (w.done-is, w.list-is)
          (reached-out _ _ _ _ _ _ _ _ _ _ c.loop-k.invariant c.loop-k-test.true (differs-no _ _ _ _ _ was is w.if-was-is.false))
    ]

pub returns : goal.returns
returns c = reached-end _ _ _ _ _ _ _ _ _ _ c.loop-k.invariant c.loop-k-test.false
