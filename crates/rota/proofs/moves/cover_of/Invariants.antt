-- `rota::moves::cover_of` meets its contract. Assumes nothing.
use Rattle.rota.specs.Ready.{Cover}
use Rattle.rota.proofs.moves.cover_of.Given as goal

abbrev pub invariant-loop-u : goal.invariant-loop-u
invariant-loop-u l = Cover l.fits l.a l.u l.mask
