-- Laws of the single bits of numbers: what each operation on words does to a bit. Assumes nothing.
use mathlib.Core.Path.{◌≡◌, refl, sym, ap, ◌∙◌}
use Prim.Native.Nat.{ℕ, zero, suc, ◌+◌, ◌-◌, ◌*◌, ◌/◌, ◌%◌, ◌^◌, ◌≤◌, ◌<◌, min, max}
use native.Mathlib.Nat.{mod-lt, mul_assoc, pow-suc, div-one, div-eq_of_lt, lt_of_lt_of_le, sub-zero}
use native.Mathlib.Omega.{arith}
use lib.Dec.{lit<}
use lib.Bits.{bit_and, bit_or, and_step, or_step}
use lib.Pow.{field, mod-mod-pow, shr-shr, shl-shr, pow_pos, pow_mono}
use lib.Count.{count_trailing_zeros, under}
use Rattle.paper.specs.Bits.{bit_of}

pub bit-lt : (w k : ℕ) → bit_of w k < 2
unfolding bit_of
bit-lt w k = mod-lt _ (lit< tt)

-- the lowest bit, and the next bit is the bit of the half: every law below goes by these two
pub bit-zero : (n : ℕ) → bit_of n zero ≡ n % 2
unfolding bit_of
bit-zero n = ap (λ (x : ℕ). x % 2) (div-one n)

pub bit-suc : (n k : ℕ) → bit_of n (suc k) ≡ bit_of (n / 2) k
unfolding bit_of
bit-suc n k = let e : suc k ≡ 1 + k = omega arith in ap (λ (x : ℕ). n / 2 ^ x % 2) e ∙ ap (λ (x : ℕ). x % 2) (sym (shr-shr n 1 k))

-- and: the least of the two bits
pub bit-and : (a b k : ℕ) → bit_of (bit_and a b) k ≡ min (bit_of a k) (bit_of b k)
bit-and a b zero = simp bit-zero (omega (arith, and_step a b))
bit-and a b (suc k) =
    let h : bit_and a b / 2 ≡ bit_and (a / 2) (b / 2) = omega (arith, and_step a b) in
    simp (bit-suc, h, bit-and (a / 2) (b / 2) k)

-- or: the greater of the two bits
pub bit-or : (a b k : ℕ) → bit_of (bit_or a b) k ≡ max (bit_of a k) (bit_of b k)
bit-or a b zero = simp bit-zero (omega (arith, or_step a b))
bit-or a b (suc k) =
    let h : bit_or a b / 2 ≡ bit_or (a / 2) (b / 2) = omega (arith, or_step a b) in
    simp (bit-suc, h, bit-or (a / 2) (b / 2) k)

-- a bit below m is not changed by dropping the bits from m on
pub bit-mod : (n m k : ℕ) → k < m → bit_of (n % 2 ^ m) k ≡ bit_of n k
unfolding bit_of
bit-mod n m k h =
    let e : m ≡ (m - suc k + 1) + k = omega arith in
    ap (λ (x : ℕ). n % 2 ^ x / 2 ^ k % 2) e ∙ ap (λ (x : ℕ). x % 2) (field n (m - suc k + 1) k) ∙ mod-mod-pow (n / 2 ^ k) (m - suc k) 1

-- a shift up
pub shift_suc : (a s : ℕ) → a * 2 ^ suc s ≡ a * 2 ^ s * 2
shift_suc a s = ap (λ (x : ℕ). a * x) (pow-suc 2 s) ∙ sym (mul_assoc a (2 ^ s) 2)

pub bit-shl-low : (a s k : ℕ) → k < s → bit_of (a * 2 ^ s) k ≡ 0
bit-shl-low a zero k h = omega arith
bit-shl-low a (suc s) zero h = simp (bit-zero, shift_suc a s) (omega arith)
bit-shl-low a (suc s) (suc k) h =
    let e : a * 2 ^ suc s / 2 ≡ a * 2 ^ s = omega (arith, shift_suc a s) in
    simp (bit-suc, e) (bit-shl-low a s k (omega arith))

pub bit-shl-high : (a s k : ℕ) → s ≤ k → bit_of (a * 2 ^ s) k ≡ bit_of a (k - s)
unfolding bit_of
bit-shl-high a s k h =
    let e : k ≡ s + (k - s) = omega arith in
    ap (λ (x : ℕ). a * 2 ^ s / 2 ^ x % 2) e ∙ ap (λ (x : ℕ). x % 2) (sym (shr-shr (a * 2 ^ s) s (k - s)))
    ∙ ap (λ (x : ℕ). x / 2 ^ (k - s) % 2) (shl-shr a s)

-- a number below 2 ^ m has no bit from m on, so 0 has none
pub top-clear : (a m k : ℕ) → a < 2 ^ m → m ≤ k → bit_of a k ≡ 0
unfolding bit_of
top-clear a m k h g = ap (λ (x : ℕ). x % 2) (div-eq_of_lt (lt_of_lt_of_le h (pow_mono g)))

pub bit-none : (k : ℕ) → bit_of 0 k ≡ 0
bit-none k = top-clear 0 0 k (lit< tt) (omega arith)

-- the complement in m bits, and all ones: the complement of 0
pub bit_not : (m a k : ℕ) → a < 2 ^ m → k < m → bit_of (2 ^ m - 1 - a) k ≡ 1 - bit_of a k
bit_not zero a k ha hk = omega arith
bit_not (suc m) a zero ha hk = simp bit-zero (omega (arith, pow-suc 2 m))
bit_not (suc m) a (suc k) ha hk =
    let e : (2 ^ suc m - 1 - a) / 2 ≡ 2 ^ m - 1 - a / 2 = omega (arith, pow-suc 2 m) in
    simp (bit-suc, e) (bit_not m (a / 2) k (omega (arith, pow-suc 2 m)) (omega arith))

pub bit-ones : (m k : ℕ) → k < m → bit_of (2 ^ m - 1) k ≡ 1
bit-ones m k h = omega (arith, ap (λ (x : ℕ). bit_of x k) (sub-zero (2 ^ m - 1)), bit_not m 0 k (pow_pos m) h, bit-none k)

-- the place of the lowest set bit: below it all is clear
low_clear : (n t d : ℕ) → n % 2 ≡ d → ((k : ℕ) → k < t → bit_of (n / 2) k ≡ 0) → (k : ℕ) → k < under d t → bit_of n k ≡ 0
low_clear n t zero e ih zero h = bit-zero n ∙ e
low_clear n t zero e ih (suc k) h = bit-suc n k ∙ ih k (omega arith)
low_clear n t (suc d) e ih k h = omega arith

pub trailing-clear : (m n k : ℕ) → k < count_trailing_zeros m n → bit_of n k ≡ 0
unfolding count_trailing_zeros
trailing-clear zero n k h = omega arith
trailing-clear (suc m) n k h = low_clear n (count_trailing_zeros m (n / 2)) (n % 2) refl (trailing-clear m (n / 2)) k h

low-set : (n t d m : ℕ) → n % 2 ≡ d → (t < m → bit_of (n / 2) t ≡ 1) → under d t < suc m → bit_of n (under d t) ≡ 1
low-set n t zero m e ih h = bit-suc n t ∙ ih (omega arith)
low-set n t (suc d) m e ih h = bit-zero n ∙ omega arith

pub trailing-set : (m n : ℕ) → count_trailing_zeros m n < m → bit_of n (count_trailing_zeros m n) ≡ 1
unfolding count_trailing_zeros
trailing-set zero n h = omega arith
trailing-set (suc m) n h = low-set n (count_trailing_zeros m (n / 2)) (n % 2) m refl (trailing-set m (n / 2)) h

-- a number of m + 1 digits has its bit m
pub top_set : (a m : ℕ) → a < 2 ^ suc m → 2 ^ m ≤ a → bit_of a m ≡ 1
top_set a zero h g = bit-zero a ∙ omega arith
top_set a (suc m) h g = bit-suc a m ∙ top_set (a / 2) m (omega (arith, pow-suc 2 m, pow-suc 2 (suc m))) (omega (arith, pow-suc 2 m))

-- the mask of the bits from s on
pub bit-from : (s k : ℕ) → s ≤ k → k < 64 → bit_of ((2 ^ 64 - 1) * 2 ^ s % 2 ^ 64) k ≡ 1
bit-from s k h g = bit-mod _ 64 k g ∙ bit-shl-high (2 ^ 64 - 1) s k h ∙ bit-ones 64 (k - s) (omega arith)

pub bit-before : (s k : ℕ) → k < s → k < 64 → bit_of ((2 ^ 64 - 1) * 2 ^ s % 2 ^ 64) k ≡ 0
bit-before s k h g = bit-mod _ 64 k g ∙ bit-shl-low (2 ^ 64 - 1) s k h

-- a shift down, and the mask of the bits up to s
pub bit-shr : (n d k : ℕ) → bit_of (n / 2 ^ d) k ≡ bit_of n (d + k)
unfolding bit_of
bit-shr n d k = ap (λ (x : ℕ). x % 2) (shr-shr n d k)

pub bit-upto : (s k : ℕ) → s < 64 → k ≤ s → bit_of ((2 ^ 64 - 1) / 2 ^ (63 - s)) k ≡ 1
bit-upto s k h g = bit-shr (2 ^ 64 - 1) (63 - s) k ∙ bit-ones 64 (63 - s + k) (omega arith)

pub bit_past : (s k : ℕ) → s < k → bit_of ((2 ^ 64 - 1) / 2 ^ (63 - s)) k ≡ 0
bit_past s k h = bit-shr (2 ^ 64 - 1) (63 - s) k ∙ top-clear (2 ^ 64 - 1) 64 (63 - s + k) (lit< tt) (omega arith)

-- the bit below the length of a number
pub length-set-bit : (a r : ℕ) → 0 < r → a < 2 ^ r → 2 ^ r ≤ 2 * a + 1 → bit_of a (r - 1) ≡ 1
length-set-bit a zero p h g = omega arith
length-set-bit a (suc m) p h g = let e : suc m - 1 ≡ m = omega arith in rw e (top_set a m h (omega (arith, pow-suc 2 m)))

-- two numbers below 2 ^ m with the same m bits are equal
pub bit-ext : (m a b : ℕ) → a < 2 ^ m → b < 2 ^ m → ((k : ℕ) → k < m → bit_of a k ≡ bit_of b k) → a ≡ b
bit-ext zero a b ha hb f = omega arith
bit-ext (suc m) a b ha hb f =
    let h = bit-ext m (a / 2) (b / 2) (omega (arith, pow-suc 2 m)) (omega (arith, pow-suc 2 m))
    (λ k g. sym (bit-suc a k) ∙ f (suc k) (omega arith) ∙ bit-suc b k) in
    omega (arith, h, sym (bit-zero a) ∙ f zero (omega arith) ∙ bit-zero b)
