-- `mend::listing::list_words` meets its contract. Assumes nothing.
use mathlib.Core.Path.{refl}
use native.Mathlib.Omega.{arith}
use Rattle.mend.proofs.ListLaws.{differs-no, differs-yes, repair-is}
use Rattle.mend.proofs.ListLaws.{reached-none, reached-out, reached-room, reached-in, reached-end}
use Rattle.mend.proofs.listing.list_words.Goals as goal
use Rattle.mend.proofs.listing.list_words.Goals.{then-was-is, else-was-is}

pub loop-k-init : goal.loop-k-init
loop-k-init c = reached-none _ _ _ _ _ _ _

pub write_repair-requires : goal.write_repair-requires
write_repair-requires c =
    reached-room _ _ _ _ _ _ _ _ _ _ c.loop-k.invariant c.loop-k-test.true
    (differs-yes _ _ _ _ _ c.word_at-was.ensures c.word_at-is.ensures c.if-was-is.true) c.requires

pub overflow_add-done : goal.overflow_add-done
overflow_add-done c =
    let room = reached-room _ _ _ _ _ _ _ _ _ _ c.loop-k.invariant c.loop-k-test.true
    (differs-yes _ _ _ _ _ c.word_at-was.ensures c.word_at-is.ensures c.if-was-is.true) c.requires in
    omega arith

pub loop-k-preserved : goal.loop-k-preserved
loop-k-preserved c =
    let a = c.args in
    let was = c.word_at-was.ensures in
    let is = c.word_at-is.ensures in
    elim c.if-was-is.branch [
      | then-was-is w ↦ rw (w.done-is, w.list-is)
          (reached-in _ _ _ _ _ _ _ _ _ _ c.loop-k.invariant c.loop-k-test.true (differs-yes _ _ _ _ _ was is w.if-was-is.true) _
          (repair-is a.part (λ _. 0) a.old.now a.new.now _ _ _ _ was is refl) _ w.write_repair.auto.list w.write_repair.ensures)
      | else-was-is w ↦ rw (w.done-is, w.list-is)
          (reached-out _ _ _ _ _ _ _ _ _ _ c.loop-k.invariant c.loop-k-test.true (differs-no _ _ _ _ _ was is w.if-was-is.false))
    ]

pub returns : goal.returns
returns c = reached-end _ _ _ _ _ _ _ _ _ _ c.loop-k.invariant c.loop-k-test.false
