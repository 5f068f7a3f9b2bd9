-- `rota::moves::fits_unit` meets its contract. Assumes nothing.
use mathlib.Core.Path.{ap, ◌∙◌}
use Prim.Native.Nat.{ℕ}
use Rattle.units.specs.Domains.{in_mask}
use Rattle.rota.specs.Ready.{fits_by}
use Rattle.rota.proofs.moves.fits_unit.Goals as goal

pub returns : goal.returns
unfolding fits_by
returns c =
    let at-args = c.args in
    let at-mask-of = c.mask_of in
    c.in_mask.ensures ∙ ap (λ (m : ℕ). in_mask m at-args.person) at-mask-of.ensures
