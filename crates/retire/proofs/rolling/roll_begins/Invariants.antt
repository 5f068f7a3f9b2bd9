-- `retire::rolling::roll_begins` meets its contract. Assumes nothing.
use mathlib.Core.Path.{◌≡◌}
use Rattle.paper.specs.Count.{over}
use Rattle.retire.specs.Rolled.{begin_then}
use Rattle.retire.proofs.rolling.roll_begins.Given as goal

abbrev pub invariant-loop-k : goal.invariant-loop-k
invariant-loop-k l =
    l.begins ≡ over (begin_then l.gone l.kept l.less l.more l.initial.begins l.fresh) l.k l.initial.begins
