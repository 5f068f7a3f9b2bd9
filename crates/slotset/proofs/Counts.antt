-- Counts of members. Assumes nothing.
use mathlib.Core.Path.{◌≡◌, ap, ap₂, ◌∙◌}
use mathlib.Core.List.{List}
use Prim.Native.Nat.{ℕ, zero, suc, ◌+◌, ◌*◌, ◌/◌, ◌%◌, ◌≤◌}
use native.Mathlib.Omega.{arith}
use lib.ListN.{get_or}
use Rattle.paper.specs.Bits.{bit_of}
use Rattle.paper.specs.Count.{sum}
use Rattle.slotset.specs.Slots.{slot, size}
use Rattle.slotset.specs.Inside.{ones_below}

-- the slots below word j, and those of its k lowest bits
pub count_add : (ws : List ℕ) (b j k : ℕ) → k ≤ 64
    → size (slot ws b) (j * 64 + k) ≡ ones_below (get_or ws (b + j) 0) k + size (slot ws b) (j * 64)
unfolding size sum ones_below slot
count_add ws b j zero g = let e : j * 64 + 0 ≡ j * 64 = omega arith in ap (size (slot ws b)) e ∙ omega arith
count_add ws b j (suc k) g =
    let e : j * 64 + suc k ≡ suc (j * 64 + k) = omega arith in
    let q : (j * 64 + k) / 64 ≡ j = omega arith in
    let m : (j * 64 + k) % 64 ≡ k = omega arith in
    let s : slot ws b (j * 64 + k) ≡ bit_of (get_or ws (b + j) 0) k = ap₂ (λ (x y : ℕ). bit_of (get_or ws (b + x) 0) y) q m in
    ap (size (slot ws b)) e ∙ omega (arith, s, count_add ws b j k (omega arith))
