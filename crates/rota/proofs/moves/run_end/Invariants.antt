-- `rota::moves::run_end` meets its contract. Assumes nothing.
use mathlib.Core.Path.{◌≡◌}
use Prim.Native.Nat.{ℕ, ◌-◌}
use lib.ListN.{get_or}
use Rattle.units.specs.Units.{unit_start}
use Rattle.rota.specs.Board.{run_end}
use Rattle.rota.proofs.moves.run_end.Given as goal

-- the run of `unit` ends where that of the unit before u does, and that one has the same owner
abbrev pub invariant-loop-u : goal.invariant-loop-u
invariant-loop-u l =
    let w = λ (u : ℕ). get_or l.owners (unit_start l.begins u) 0 in
    (run_end l.units w l.unit ≡ run_end l.units w (l.u - 1)) × (l.owner ≡ w (l.u - 1))
