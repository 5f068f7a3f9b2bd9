-- `rota::moves::is_other` meets its contract. Assumes nothing.
use borrow.Author.Tests.{eq-eqb, ne_eqb}
use Rattle.paper.specs.Bits.{bit_of}
use Rattle.units.specs.Domains.{in_mask}
use Rattle.rota.proofs.moves.is_other.Goals as goal

pub returns-then-person-skip : goal.returns-then-person-skip
unfolding in_mask bit_of
returns-then-person-skip c = simp (ne_eqb _ _ c.if-person-skip.true)

pub returns-else-person-skip : goal.returns-else-person-skip
returns-else-person-skip c = simp (eq-eqb _ _ c.if-person-skip.false)
