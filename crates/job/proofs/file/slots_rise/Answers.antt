-- `job::file::slots_rise` meets its contract. The invariant: the slots rise up to record k. Assumes nothing.
use native.Mathlib.Omega.{arith}
use Rattle.paper.proofs.Count.{all_none}
use Rattle.job.proofs.Files.{rise-more, rise-fails, rise-done}
use Rattle.job.proofs.file.slots_rise.Goals as goal

pub loop-k-init : goal.loop-k-init
loop-k-init c = (all_none _, omega arith)

pub loop-k-preserved : goal.loop-k-preserved
loop-k-preserved c =
    let inv = c.loop-k.invariant in (
      rise-more _ _ _ _ _ c.owner_slot.ensures c.owner_slot-in-loop-k.ensures c.if-owner_slot.false inv.0,
      omega arith,
    )

pub returns-then-owner_slot : goal.returns-then-owner_slot
returns-then-owner_slot c =
    rise-fails _ _ _ _ _ _ (omega arith) c.owner_slot.ensures c.owner_slot-in-loop-k.ensures c.if-owner_slot.true

pub returns : goal.returns
returns c = rise-done _ _ _ _ c.loop-k.invariant.1 (omega arith) c.loop-k.invariant.0
