-- `mend::mending::write_out` meets its contract. Assumes nothing.
use native.Mathlib.Omega.{arith}
use Rattle.mend.proofs.ListLaws.{many-fits}
use Rattle.mend.proofs.Ending.{wrote-all, wrote_none}
use Rattle.mend.proofs.mending.write_out.Goals as goal

pub overflow_mul-n : goal.overflow_mul-n
overflow_mul-n c =
    let few = many-fits _ _ _ _ _ _ _ _ _ _ _ c.count_repairs-n.ensures c.requires.people_bound.0 c.requires.people_bound.1 in
    omega arith

pub returns-then-n-list : goal.returns-then-n-list
returns-then-n-list c =
    wrote-all _ _ _ _ _ _ _ c.count_repairs-n.ensures c.if-n-list.true _ _ c.take_over.ensures c.list_repairs.ensures

pub returns : goal.returns
returns c = wrote_none _ _ _ _ _ _ _ c.count_repairs-n.ensures c.if-n-list.false
