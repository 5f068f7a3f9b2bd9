-- `rota::moves::all_first` meets its contract. Assumes nothing.
use mathlib.Core.Path.{sym, ap, ◌∙◌}
use Prim.Native.Nat.{ℕ, ◌-◌, ◌%◌}
use native.Mathlib.Omega.{arith}
use lib.Pow.{pow_pos}
use Rattle.paper.proofs.Count.{all_none}
use Rattle.rota.proofs.Judged.{one_shl, all-stand}
use Rattle.rota.proofs.moves.all_first.Goals as goal

pub nonzero_rem-mask : goal.nonzero_rem-mask
nonzero_rem-mask c =
    let a = c.args in
    omega (arith, one_shl a.k (omega (arith, c.requires, c.if-k-people.true)), pow_pos a.k)

pub returns-then-mask-bound : goal.returns-then-mask-bound
returns-then-mask-bound c =
    let a = c.args in
    let e = one_shl a.k (omega (arith, c.requires, c.if-k-people.true)) in (
      omega (arith, c.if-k-people.true),
      omega arith,
      all-stand _ _ (ap (λ (x : ℕ). a.mask % x) (sym e) ∙ c.if-mask-bound.true ∙ ap (λ (x : ℕ). x - 1) e),
    )

pub returns-then-k-people : goal.returns-then-k-people
returns-then-k-people c = (omega arith, omega arith, all_none _)

pub returns : goal.returns
returns c = (omega arith, omega arith, all_none _)
