-- `rota::moves::is_movable` meets its contract. Assumes nothing.
use mathlib.Core.Path.{◌≡◌}
use mathlib.Core.Bool.{not}
use Rattle.paper.specs.Count.{all_in}
use Rattle.rota.specs.Ready.{frozen_by}
use Rattle.rota.proofs.moves.is_movable.Given as goal

abbrev pub invariant-loop-u : goal.invariant-loop-u
invariant-loop-u l = all_in l.a l.u (λ v. not (frozen_by l.flags v)) ≡ l.movable
