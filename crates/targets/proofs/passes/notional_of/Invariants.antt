-- `targets::passes::notional_of` meets its contract. Assumes nothing.
use Rattle.std.proofs.Common.{◌≡◌, ◌+◌, ◌*◌, ◌≤◌, drop}
use mathlib.Core.List.{foldl}
use Rattle.targets.specs.Passes.{with_prior, notional}
use Rattle.targets.proofs.passes.notional_of.Given as goal

abbrev pub invariant-loop-l : goal.invariant-loop-l
invariant-loop-l l =
    (l.l-index ≤ 32) × (l.n ≤ 4294967295 * (l.l-index + 1))
    × (foldl with_prior l.n (drop l.l-index l.l-items) ≡ notional l.demand l.l-items)
