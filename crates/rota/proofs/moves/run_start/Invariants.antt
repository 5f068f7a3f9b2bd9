-- `rota::moves::run_start` meets its contract. Assumes nothing.
use mathlib.Core.Path.{◌≡◌}
use Prim.Native.Nat.{ℕ, ◌-◌}
use lib.ListN.{get_or}
use Rattle.units.specs.Units.{unit_start}
use Rattle.rota.specs.Board.{run_start}
use Rattle.rota.proofs.moves.run_start.Given as goal

-- the run of `unit` starts where that of the unit n before it does, and that one has the same owner
abbrev pub invariant-loop-n : goal.invariant-loop-n
invariant-loop-n l =
    let w = λ (u : ℕ). get_or l.owners (unit_start l.begins u) 0 in
    (run_start w l.unit ≡ run_start w (l.unit - l.n)) × (l.owner ≡ w (l.unit - l.n))
