-- `rota::play::frozen_of` meets its contract. Assumes nothing.
use mathlib.Core.Path.{◌≡◌}
use mathlib.Core.Bool.{◌&&◌}
use Prim.Native.Nat.{ℕ}
use lib.Dec.{ltb}
use lib.ListN.{length}
use Rattle.rota.specs.Ready.{frozen_by}
use Rattle.units.specs.Domains.{unit_frozen}
use Rattle.rota.proofs.play.frozen_of.Given as goal

abbrev pub invariant-loop-u : goal.invariant-loop-u
invariant-loop-u l =
    (length l.flags ≡ 1024) × ((v : ℕ) → frozen_by l.flags v ≡ ltb v l.u && unit_frozen l.frozen l.slots l.units l.begins v)
