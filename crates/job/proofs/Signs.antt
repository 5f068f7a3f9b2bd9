-- Laws of a signed number's size. Assumes nothing.
use mathlib.Core.Path.{◌≡◌, refl, sym, ap, ◌∙◌}
use mathlib.Core.Bool.{true, false, true≢false}
use mathlib.Core.List.{◌∷◌}
use Prim.Native.Nat.{ℕ}
use native.Mathlib.Omega.{arith}
use borrow.Author.Tests.{ltb-true}
use lib.IntN.{ℤ, pos, negsuc, nat_abs}
use lib.Signed.{lt_z}
use mir.Syntax.{w64}
use mir.Val.{SFits, of_z, to_z}
use mir.ValLaws.{to_z-of_z}
use Rattle.job.specs.Listing.{digits, signed}

-- a number below 0
record Below (z : ℤ) : Type 0 where
  size : ℕ
  is : z ≡ negsuc size

below_of : (z : ℤ) → lt_z z (pos 0) ≡ true → Below z
below_of (pos n) e = absurd (omega (arith, ltb-true n 0 e))
below_of (negsuc n) e = record { size = n; is = refl }

-- a number that is not below 0 is its own size
whole_is : (z : ℤ) → lt_z z (pos 0) ≡ false → z ≡ pos (nat_abs z)
whole_is (pos n) h = refl
whole_is (negsuc n) h = absurd (true≢false h)

module _ (z : ℤ) (f : SFits w64 z) (whole : lt_z (to_z w64 (of_z w64 z)) (pos 0) ≡ false) where
  own-size : z ≡ pos (nat_abs z)
  own-size = whole_is z (ap (λ (x : ℤ). lt_z x (pos 0)) (sym (to_z-of_z w64 z f)) ∙ whole)

  -- the text of such a number, and of one below 0
  pub signed_above : (n : ℕ) → n ≡ nat_abs (to_z w64 (of_z w64 z)) → signed z ≡ digits n
  unfolding signed
  signed_above n e = ap signed own-size ∙ ap digits (sym (e ∙ ap nat_abs (to_z-of_z w64 z f)))

pub signed_below : (z : ℤ) (f : SFits w64 z) (lower : lt_z (to_z w64 (of_z w64 z)) (pos 0) ≡ true) (n : ℕ) → n ≡ nat_abs (to_z w64 (of_z w64 z))
    → signed z ≡ 45 ∷ digits n
unfolding signed
signed_below z f lower n e =
    let is = (below_of z (ap (λ (x : ℤ). lt_z x (pos 0)) (sym (to_z-of_z w64 z f)) ∙ lower)).is in
    ap signed is ∙ ap (λ (k : ℕ). 45 ∷ digits k) (sym (e ∙ ap nat_abs (to_z-of_z w64 z f ∙ is)))
