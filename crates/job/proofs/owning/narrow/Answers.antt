-- `job::owning::narrow` meets its contract. The invariant: the first k owners are bytes. Assumes nothing.
use mathlib.Core.Path.{sym, ap, ◌∙◌}
use native.Mathlib.Omega.{arith}
use Rattle.paper.proofs.Count.{over_none}
use Rattle.job.specs.Stages.{byte_of, narrowed}
use Rattle.records.proofs.Walks.{over-turn, over_done}
use Rattle.job.proofs.Prepares.{byte_small, byte-large}
use Rattle.job.proofs.owning.narrow.Goals as goal
use Rattle.job.proofs.owning.narrow.Goals.{then-owner-lt256, else-owner-lt256}

pub loop-k-init : goal.loop-k-init
loop-k-init c = (sym (over_none _ _), omega arith)

pub loop-k-preserved : goal.loop-k-preserved
loop-k-preserved c =
    let inv = c.loop-k.invariant in
    let owner-is = ap byte_of c.entry16-owner.ensures in
    elim c.if-owner-lt256.branch [
      | then-owner-lt256 w ↦ rw w.out-is (over-turn _ _ _ _ _ inv.0 (byte_small _ w.if-owner-lt256.true ∙ owner-is), omega arith)
      | else-owner-lt256 w ↦ rw w.out-is (over-turn _ _ _ _ _ inv.0 (byte-large _ w.if-owner-lt256.false ∙ owner-is), omega arith)
    ]

pub returns : goal.returns
unfolding narrowed
returns c = over_done _ _ _ _ _ (omega arith) c.loop-k.invariant.0
