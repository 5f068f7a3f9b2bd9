-- `retire::asking::lifted_ok` meets its contract. Assumes nothing.
use Rattle.retire.proofs.asking.lifted_ok.Goals as goal

pub figures_then_ok-requires : goal.figures_then_ok-requires
figures_then_ok-requires c =
    let pre = c.requires in (pre.0, pre.1 c.if-fault-ne0.false)
