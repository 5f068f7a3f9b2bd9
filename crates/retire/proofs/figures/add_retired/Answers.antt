-- `retire::figures::add_retired` meets its contract. Assumes nothing.
use mathlib.Core.Path.{refl}
use native.Mathlib.Omega.{arith}
use Rattle.retire.proofs.Figured.{retired-by, retired-done}
use Rattle.retire.proofs.figures.add_retired.Goals as goal

pub overflow_add-retired : goal.overflow_add-retired
overflow_add-retired c =
    let args = c.args in
    omega (
      arith,
      retired-by args.people args.gone _ _ _ args.retired.now _ _ refl c.minutes_gone-more.ensures,
      c.requires.gone_bound_2,
    )

pub returns : goal.returns
returns c =
    let args = c.args in
    retired-done args.people args.gone _ _ _ _ _ (retired-by args.people args.gone _ _ _ _ _ _ refl c.minutes_gone-more.ensures)
