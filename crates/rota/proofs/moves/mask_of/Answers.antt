-- `rota::moves::mask_of` meets its contract. Assumes nothing.
use mathlib.Core.Path.{sym}
use lib.ListN.{get_or-eq_default}
use Rattle.rota.proofs.moves.mask_of.Goals as goal

pub returns-else-unit-fits : goal.returns-else-unit-fits
returns-else-unit-fits c = sym (get_or-eq_default c.args.fits.now 0 c.if-unit-fits.false)
