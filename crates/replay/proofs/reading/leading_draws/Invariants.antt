-- `replay::reading::leading_draws` meets its contract. Assumes nothing.
use Rattle.replay.proofs.Records.{Leading}
use Rattle.replay.proofs.reading.leading_draws.Given as goal

abbrev pub invariant-loop-n : goal.invariant-loop-n
invariant-loop-n l = Leading l.t l.blocks l.n
