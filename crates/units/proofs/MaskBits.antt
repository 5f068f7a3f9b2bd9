-- Masks of people: what each bit of one is. Assumes nothing.
use mathlib.Core.Path.{◌≡◌, refl, sym, ap, ◌∙◌}
use mathlib.Core.Logic.{⊎_elim}
use mathlib.Core.Bool.{Bool, true, false, ◌&&◌, cond}
use Prim.Native.Nat.{ℕ, zero, suc, ◌+◌, ◌-◌, ◌*◌, ◌/◌, ◌%◌, ◌^◌, ◌≤◌, ◌<◌}
use native.Mathlib.Nat.{pow-suc, mod-eq_of_lt}
use native.Mathlib.Omega.{arith}
use borrow.Author.Tests.{eqb-true, eqb-false, lt-ltb, le-ltb}
use lib.Dec.{eqb, ltb, lit<}
use lib.Pow.{pow_pos, pow-lt, low, high, ones_split, ones_lt}
use Rattle.paper.specs.Bits.{bit_of}
use Rattle.paper.specs.Count.{sum}
use Rattle.paper.proofs.Logic.{by-test, lt-or-ge}
use Rattle.paper.proofs.Bits.{bit-lt, bit-mod, bit-ext, top-clear, top_set}
use Rattle.paper.proofs.Count.{sum_same}
use Rattle.units.specs.Domains.{mask_of, in_mask}

-- bit p of a mask is 1 exactly where person p is below `people` and passes q
pub record MaskOf (q : ℕ → Bool) (people mask : ℕ) : Type 0 where
  pub each : (p : ℕ) → in_mask mask p ≡ ltb p people && q p

-- one person more
mask-suc : (q : ℕ → Bool) (n : ℕ) → mask_of q (suc n) ≡ mask_of q n + cond (q n) (2 ^ n) 0
unfolding mask_of sum
mask-suc q n = refl

pub mask_lt : (q : ℕ → Bool) (n : ℕ) → mask_of q n < 2 ^ n
unfolding mask_of sum
mask_lt q zero = lit< tt
mask_lt q (suc n) =
    by-test (q n) _
    (λ t. omega (arith, mask_lt q n, mask-suc q n, ap (λ (b : Bool). cond b (2 ^ n) 0) t, pow-suc 2 n))
    (λ f. omega (arith, mask_lt q n, mask-suc q n, ap (λ (b : Bool). cond b (2 ^ n) 0) f, pow-suc 2 n))

-- a power of two above a number changes no bit below it, and sets its own
add_low : (a n k : ℕ) → a < 2 ^ n → k < n → bit_of (a + 2 ^ n) k ≡ bit_of a k
add_low a n k h g =
    let e : 1 * 2 ^ n + a ≡ a + 2 ^ n = omega arith in
    sym (bit-mod (a + 2 ^ n) n k g) ∙ ap (λ (x : ℕ). bit_of (x % 2 ^ n) k) (sym e) ∙ ap (λ (x : ℕ). bit_of x k) (low 1 n h)

add-own : (a n : ℕ) → a < 2 ^ n → bit_of (a + 2 ^ n) n ≡ 1
add-own a n h = top_set (a + 2 ^ n) n (omega (arith, pow-suc 2 n)) (omega arith)

pub mask-bit : (q : ℕ → Bool) (n k : ℕ) → bit_of (mask_of q n) k ≡ cond (ltb k n && q k) 1 0
mask-bit q zero k =
    top-clear (mask_of q 0) 0 k (mask_lt q 0) (omega arith) ∙ sym (ap (λ (b : Bool). cond (b && q k) 1 0) (le-ltb k 0 (omega arith)))
mask-bit q (suc n) k =
    ⊎_elim
    (λ (h : k < n).
    before h ∙ mask-bit q n k ∙ ap (λ (b : Bool). cond (b && q k) 1 0) (lt-ltb k n h ∙ sym (lt-ltb k (suc n) (omega arith))))
    (λ (h : n ≤ k).
    ⊎_elim
    (λ (g : n < k).
    top-clear (mask_of q (suc n)) (suc n) k (mask_lt q (suc n)) g
    ∙ sym (ap (λ (b : Bool). cond (b && q k) 1 0) (le-ltb k (suc n) g)))
    (λ (g : k ≤ n).
    let e : k ≡ n = omega arith in
    ap (bit_of (mask_of q (suc n))) e ∙ own ∙ ap (λ (b : Bool). cond b 1 0) (ap q (sym e))
    ∙ sym (ap (λ (b : Bool). cond (b && q k) 1 0) (lt-ltb k (suc n) (omega arith))))
    (lt-or-ge n k))
    (lt-or-ge k n)
  where
    in-mask : q n ≡ true → mask_of q (suc n) ≡ mask_of q n + 2 ^ n
    in-mask t = mask-suc q n ∙ ap (λ (b : Bool). mask_of q n + cond b (2 ^ n) 0) t

    out-mask : q n ≡ false → mask_of q (suc n) ≡ mask_of q n
    out-mask f = omega (arith, mask-suc q n, ap (λ (b : Bool). cond b (2 ^ n) 0) f)

    before : k < n → bit_of (mask_of q (suc n)) k ≡ bit_of (mask_of q n) k
    before h =
        by-test (q n) _ (λ t. ap (λ (x : ℕ). bit_of x k) (in-mask t) ∙ add_low (mask_of q n) n k (mask_lt q n) h)
        (λ f. ap (λ (x : ℕ). bit_of x k) (out-mask f))

    own : bit_of (mask_of q (suc n)) n ≡ cond (q n) 1 0
    own =
        by-test (q n) _
        (λ t. ap (λ (x : ℕ). bit_of x n) (in-mask t) ∙ add-own (mask_of q n) n (mask_lt q n) ∙ sym (ap (λ (b : Bool). cond b 1 0) t))
        (λ f.
        ap (λ (x : ℕ). bit_of x n) (out-mask f) ∙ top-clear (mask_of q n) n n (mask_lt q n) (omega arith)
        ∙ sym (ap (λ (b : Bool). cond b 1 0) f))

-- so the mask has exactly the people who pass, and no other number has
bit_test : (b : Bool) → eqb (cond b 1 0) 1 ≡ b
bit_test true = refl
bit_test false = refl

pub mask_is : (q : ℕ → Bool) (n : ℕ) → MaskOf q n (mask_of q n)
unfolding in_mask
mask_is q n = record { each = λ p. ap (λ (x : ℕ). eqb x 1) (mask-bit q n p) ∙ bit_test (ltb p n && q p) }

below_power : (n : ℕ) → n < 2 ^ n
below_power zero = lit< tt
below_power (suc n) = omega (arith, below_power n, pow-suc 2 n, pow_pos n)

test_bit : (a b : ℕ) → a < 2 → b < 2 → eqb a 1 ≡ eqb b 1 → a ≡ b
test_bit a b h g e =
    by-test (eqb a 1) _
    (λ t. omega (arith, eqb-true a 1 t, eqb-true b 1 (sym e ∙ t)))
    (λ f.
    let x = eqb-false a 1 f in
    let y = eqb-false b 1 (sym e ∙ f) in
    omega arith)

pub mask-only : (q : ℕ → Bool) (n m : ℕ) → MaskOf q n m → m ≡ mask_of q n
unfolding in_mask
mask-only q n m M =
    let r = mask_of q n in
    bit-ext (m + r) m r (wide m r) (omega (arith, wide r m, swap m r))
    (λ k h. test_bit (bit_of m k) (bit_of r k) (bit-lt m k) (bit-lt r k) (M.each k ∙ sym ((mask_is q n).each k)))
  where
    wide : (a b : ℕ) → a < 2 ^ (a + b)
    wide a b = omega (arith, below_power (a + b))

    swap : (a b : ℕ) → 2 ^ (a + b) ≡ 2 ^ (b + a)
    swap a b = let e : a + b ≡ b + a = omega arith in ap (λ (x : ℕ). 2 ^ x) e

-- everybody
all-mask : (n : ℕ) → mask_of (λ _. true) n ≡ 2 ^ n - 1
unfolding mask_of sum
all-mask zero = refl
all-mask (suc n) = omega (arith, all-mask n, pow-suc 2 n, pow_pos n)

pub everybody-mask : (n : ℕ) → n ≤ 32 → (2 ^ 32 - 1) / 2 ^ (32 - n) ≡ mask_of (λ _. true) n
everybody-mask n h =
    let e : 32 ≡ n + (32 - n) = omega arith in
    let s : 2 ^ 32 - 1 ≡ (2 ^ n - 1) * 2 ^ (32 - n) + (2 ^ (32 - n) - 1)
    = ap (λ (x : ℕ). 2 ^ x - 1) e ∙ ones_split n (32 - n) in
    ap (λ (x : ℕ). x / 2 ^ (32 - n)) s ∙ high (2 ^ n - 1) (32 - n) (ones_lt (32 - n)) ∙ sym (all-mask n)

-- one person's bit
pub one_bit : (p people : ℕ) → p < people → people ≤ 32 → 1 * 2 ^ p % 4294967296 ≡ 2 ^ p
one_bit p people h few =
    let e : 1 * 2 ^ p ≡ 2 ^ p = omega arith in
    let l : p < 32 = omega arith in
    ap (λ (x : ℕ). x % 4294967296) e ∙ mod-eq_of_lt (pow-lt l)

-- masks of tests that agree
pub mask-same : (f g : ℕ → Bool) (n : ℕ) → ((q : ℕ) → q < n → f q ≡ g q) → mask_of f n ≡ mask_of g n
unfolding mask_of
mask-same f g n e = sum_same n _ _ (λ q h. ap (λ (b : Bool). cond b (2 ^ q) 0) (e q h))
