-- `mend::listing::flag_of` meets its contract. Assumes nothing.
use mathlib.Core.Path.{◌≡◌, refl, ap, ◌∙◌}
use Prim.Native.Nat.{ℕ, zero, suc, ◌<◌}
use native.Mathlib.Omega.{arith}
use mir.Val.{bool_byte}
use lib.Dec.{eqb}
use Rattle.slotset.proofs.Puts.{slot_lt}
use Rattle.mend.specs.Repairs.{flag_of}
use Rattle.mend.proofs.listing.flag_of.Goals as goal

-- a bit is what its test says
as-bit : (x : ℕ) → x < 2 → bool_byte (eqb x 1) ≡ x
as-bit zero h = refl
as-bit (suc zero) h = refl
as-bit (suc (suc x)) h = absurd (omega arith)

pub returns : goal.returns
unfolding flag_of
returns c = c.from.ensures ∙ ap bool_byte c.holds.ensures ∙ as-bit _ (slot_lt _ _ _)
