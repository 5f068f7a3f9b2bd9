-- `units::dates::listed` meets its contract. Assumes nothing.
use native.Mathlib.Omega.{arith}
use mathlib.Core.Path.{ap}
use Rattle.units.specs.Dates.{weekday_of, listed}
use lib.Dec.{eqb}
use Prim.Native.Nat.{ℕ, ◌/◌, ◌%◌, ◌^◌}
use Rattle.paper.specs.Bits.{bit_of}
use Rattle.units.proofs.dates.listed.Goals as goal

pub overflow_cast-result : goal.overflow_cast-result
unfolding weekday_of
overflow_cast-result c = omega (arith, c.weekday_of-day.ensures)

pub overflow_shr-result : goal.overflow_shr-result
unfolding weekday_of
overflow_shr-result c = omega (arith, c.weekday_of-day.ensures)

pub returns : goal.returns
unfolding listed bit_of
returns c = ap (λ (k : ℕ). eqb (c.args.mask / 2 ^ k % 2) 1) c.weekday_of-day.ensures
