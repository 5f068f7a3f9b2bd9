-- `store::walk::walk` meets its contract. The invariant: `count` right records stand between the first byte and `at`. Assumes nothing.
use Rattle.store.proofs.Counted.{Walking}
use Rattle.store.proofs.walk.walk.Given as goal

abbrev pub invariant-loop-count : goal.invariant-loop-count
invariant-loop-count l = Walking l.s l.most l.count l.at
