-- `wayback::writing::in_mask` meets its contract. Assumes nothing.
use mathlib.Core.Path.{refl, ◌∙◌}
use borrow.Author.Tests.{le-ltb}
use Prim.Native.Nat.{◌^◌, ◌<◌}
use native.Mathlib.Omega.{arith}
use Rattle.paper.specs.Bits.{bit_of}
use Rattle.units.specs.Domains.{in_mask}
use Rattle.rota.proofs.Judged.{mask-past}
use Rattle.wayback.proofs.writing.in_mask.Goals as goal

pub returns-then-person-lt32 : goal.returns-then-person-lt32
unfolding in_mask bit_of
returns-then-person-lt32 c = refl

pub returns-else-person-lt32 : goal.returns-else-person-lt32
returns-else-person-lt32 c =
    le-ltb _ _ c.if-person-lt32.false ∙ mask-past _ _ (let f : c.args.mask < 2 ^ 32 = omega arith in f) c.if-person-lt32.false
