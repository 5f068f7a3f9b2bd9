-- Laws of numbers in bytes, each over any width. Assumes nothing.
use mathlib.Core.Path.{◌≡◌, refl, sym, ap, ap₂, ◌∙◌}
use mathlib.Core.Logic.{◌⊎◌, ⊎_elim}
use mathlib.Core.List.{List, [], ◌∷◌, ◌++◌}
use Prim.Native.Nat.{ℕ, zero, suc, ◌+◌, ◌-◌, ◌*◌, ◌/◌, ◌%◌, ◌^◌, ◌≤◌, ◌<◌}
use native.Mathlib.Nat.{pow-suc, pow-le-pow_right, lt_of_lt_of_le}
use native.Mathlib.Omega.{arith}
use borrow.Author.Tests.{le-leb, lt-leb}
use lib.Dec.{lit<}
use lib.ListN.{length, get_or, take, drop, get_or-append}
use lib.Seq.{drop-cons, get_or-append-add}
use Rattle.paper.proofs.Logic.{lt-or-ge}
use Rattle.records.specs.Fields.{le, le_bytes, Bytes, field_at}

-- one byte more below a number of n bytes
pub wider : (v b n : ℕ) → v < 256 ^ n → b < 256 → v * 256 + b < 256 ^ suc n
wider v b n h g = omega (arith, pow-suc 256 n)

-- what is below a power of b is below a higher one
pub below_power : (b v n m : ℕ) → 0 < b → v < b ^ n → n ≤ m → v < b ^ m
below_power b v n m z h g = lt_of_lt_of_le h (pow-le-pow_right z g)

-- the number of n bytes is below 256 ^ n
pub le-lt : (n : ℕ) (s : List ℕ) (at : ℕ) → Bytes s → le n s at < 256 ^ n
unfolding le
le-lt zero s at b = lit< tt
le-lt (suc n) s at b = omega (arith, wider (le n s (suc at)) (get_or s at 0) n (le-lt n s (suc at) b) (b at))

-- nothing read yet
pub le-none : (n : ℕ) (s : List ℕ) (at : ℕ) → n ≡ 0 → le n s at ≡ 0
unfolding le
le-none n s at e = ap (λ (k : ℕ). le k s at) e

-- the turn of a loop that reads from the last byte down
pub le-turn : (w left at : ℕ) (s : List ℕ) (v : ℕ) → 0 < left → left ≤ w → v ≡ le (w - left) s (at + left)
    → v * 256 + get_or s (at + (left - 1)) 0 ≡ le (w - (left - 1)) s (at + (left - 1))
unfolding le
le-turn w left at s v h g e =
    let p : w - (left - 1) ≡ suc (w - left) = omega arith in
    let q : suc (at + (left - 1)) ≡ at + left = omega arith in
    let r : le (w - (left - 1)) s (at + (left - 1)) ≡ le (suc (w - left)) s (at + (left - 1)) = ap
    (λ (n : ℕ). le n s (at + (left - 1))) p in
    let t : le (w - left) s (suc (at + (left - 1))) ≡ v = ap (le (w - left) s) q ∙ sym e in
    omega (arith, r, t)

-- a field within the first part of a file, and within the second
pub le-front : (n : ℕ) (a b : List ℕ) (at : ℕ) → at + n ≤ length a → le n (a ++ b) at ≡ le n a at
unfolding le
le-front zero a b at h = refl
le-front (suc n) a b at h =
    ap₂ (λ (x y : ℕ). x + 256 * y) (get_or-append a b 0 at (omega arith)) (le-front n a b (suc at) (omega arith))

pub le-back : (n : ℕ) (a b : List ℕ) (at : ℕ) → le n (a ++ b) (length a + at) ≡ le n b at
unfolding le
le-back zero a b at = refl
le-back (suc n) a b at =
    let q : suc (length a + at) ≡ length a + suc at = omega arith in
    ap₂ (λ (x y : ℕ). x + 256 * y) (get_or-append-add a b at 0) (ap (le n (a ++ b)) q ∙ le-back n a b (suc at))

-- what was written is read
pub length-bytes : (n v : ℕ) → length (le_bytes n v) ≡ n
unfolding le_bytes
length-bytes zero v = refl
length-bytes (suc n) v = ap suc (length-bytes n (v / 256))

pub le-written : (n v : ℕ) (b : List ℕ) → v < 256 ^ n → le n (le_bytes n v ++ b) 0 ≡ v
unfolding le le_bytes
le-written zero v b h = omega arith
le-written (suc n) v b h =
    let r : le n (le_bytes (suc n) v ++ b) 1 ≡ v / 256 =
    le-back n (v % 256 ∷ []) (le_bytes n (v / 256) ++ b) 0 ∙ le-written n (v / 256) b (omega (arith, pow-suc 256 n)) in
    omega (arith, r)

-- what is read can be written again
pub written-le : (n : ℕ) (s : List ℕ) (at : ℕ) → Bytes s → at + n ≤ length s
    → take n (drop at s) ≡ le_bytes n (le n s at)
unfolding le le_bytes
written-le zero s at b h = refl
written-le (suc n) s at b h =
    let lo : get_or s at 0 ≡ (get_or s at 0 + 256 * le n s (suc at)) % 256 = omega (arith, b at) in
    let hi : le n s (suc at) ≡ (get_or s at 0 + 256 * le n s (suc at)) / 256 = omega (arith, b at) in
    ap (take (suc n)) (drop-cons s at 0 (omega arith))
    ∙ ap₂ ◌∷◌ lo (written-le n s (suc at) b (omega arith) ∙ ap (le_bytes n) hi)

-- ---- a field of a buffer

field-wide : (n : ℕ) (s : List ℕ) (at : ℕ) → 8 < n → 0 ≡ field_at n s at
unfolding field_at
field-wide n s at h = sym (simp (lt-leb n 8 h))

pub field-none : (n : ℕ) (s : List ℕ) (at : ℕ) → (8 < n) ⊎ (length s < at + n) → (0 ≡ field_at n s at) × (0 < 256 ^ n)
unfolding field_at
field-none n s at h = (
  ⊎_elim (field-wide n s at)
      (λ (l : length s < at + n). ⊎_elim (field-wide n s at) (λ (w : n ≤ 8). sym (simp (le-leb n 8 w, lt-leb _ _ l))) (lt-or-ge 8 n)) h,
  below_power 256 0 0 n (lit< tt) (lit< tt) (omega arith),
)

pub field_is : (n : ℕ) (s : List ℕ) (at : ℕ) → n ≤ 8 → at + n ≤ length s → field_at n s at ≡ le n s at
unfolding field_at
field_is n s at w h = simp (le-leb n 8 w, le-leb _ _ h)
