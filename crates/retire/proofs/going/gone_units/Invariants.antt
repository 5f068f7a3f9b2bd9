-- `retire::going::gone_units` meets its contract. Assumes nothing.
use mathlib.Core.Path.{◌≡◌}
use mathlib.Core.Bool.{true}
use Rattle.paper.specs.Count.{all}
use Rattle.retire.specs.Going.{frozen_whole}
use Rattle.retire.proofs.going.gone_units.Given as goal

abbrev pub invariant-loop-u : goal.invariant-loop-u
invariant-loop-u l = all l.u (frozen_whole l.slots l.units l.begins l.frozen) ≡ true
