-- What one word answers: the first and the last wanted bit by the counts of zeros, ones below a bit, two words merged. Assumes nothing.
use mathlib.Core.Path.{◌≡◌, refl, ap, ap₂, ◌∙◌}
use mathlib.Core.Bool.{Bool, true, false, ◌&&◌, cond}
use mathlib.Core.Logic.{⊎_elim}
use Prim.Native.Nat.{ℕ, zero, suc, ◌+◌, ◌-◌, ◌*◌, ◌/◌, ◌%◌, ◌^◌, ◌≤◌, ◌<◌, min, max}
use native.Mathlib.Nat.{mod-lt, mod-one, one-mul, lt_of_le_of_lt}
use native.Mathlib.Omega.{arith}
use borrow.Author.Tests.{lt-ltb, le-ltb, le-leb, lt-leb, eq-eqb, eqb-true}
use lib.Bits.{bit_and, bit_or, and_mask, and_lt}
use lib.Count.{ones, ones_cat, count_trailing_zeros, trailing_le}
use lib.Dec.{lit<, eqb, leb, ltb}
use lib.Pow.{pow_pos, mod-pow-add, shl_exact, shr_le}
use Rattle.paper.specs.Bits.{bit_of}
use Rattle.paper.specs.Count.{all}
use Rattle.paper.proofs.Bits.{bit-lt, bit-and, bit-or, bit_not, bit-from, bit-before, bit-upto, bit_past}
use Rattle.paper.proofs.Bits.{trailing-clear, trailing-set, top-clear, length-set-bit, bit-ext}
use Rattle.paper.proofs.Count.{all-each, each_all}
use Rattle.paper.proofs.Logic.{lt-or-ge, same_test}
use Rattle.slotset.specs.Inside.{Wanted, FirstBit, LastBit, ones_below, Merged}

abbrev from-mask : ℕ → ℕ
from-mask s = (2 ^ 64 - 1) * 2 ^ s % 2 ^ 64

abbrev upto-mask : ℕ → ℕ
upto-mask s = (2 ^ 64 - 1) / 2 ^ (63 - s)

pub first-law : (v w x s : ℕ) → Wanted v w x → s < 64 → FirstBit v w s (count_trailing_zeros 64 (bit_and x ((2 ^ 64 - 1) * 2 ^ s % 2 ^ 64)))
first-law v w x s hw hs =
    let n = bit_and x (from-mask s) in
    let t = count_trailing_zeros 64 n in
    record {
      from = ⊎_elim
          (λ (h : t < s). omega (arith, trailing-set 64 n (omega arith), bit-and x (from-mask s) t, bit-before s t h (omega arith)))
          (λ (h : s ≤ t). h) (lt-or-ge t s);
      to = trailing_le 64 n;
      clear = λ k a b e. omega (
        arith,
        trailing_le 64 n,
        trailing-clear 64 n k b,
        bit-and x (from-mask s) k,
        bit-from s k a (omega (arith, trailing_le 64 n)),
        (hw k
            (omega (arith, trailing_le 64 n))).1 e,
      );
      hit = λ h. (hw t h).0 (omega (arith, trailing-set 64 n h, bit-and x (from-mask s) t, bit-lt x t));
    }

pub last-law : (v w x s r : ℕ) → Wanted v w x → s < 64 → bit_and x ((2 ^ 64 - 1) / 2 ^ (63 - s)) < 2 ^ r → 2 ^ r ≤ 2 * bit_and x
    ((2 ^ 64 - 1) / 2 ^ (63 - s)) + 1 → LastBit v w s r
last-law v w x s r hw hs lo hi =
    let n = bit_and x (upto-mask s) in
    let short : r ≤ s + 1 =
    ⊎_elim (λ (h : s + 1 < r). omega
    (arith, length-set-bit n r (omega arith) lo hi, bit-and x (upto-mask s) (r - 1), bit_past s (r - 1) (omega arith)))
    (λ (h : r ≤ s + 1). h)
    (lt-or-ge (s + 1) r) in
    record {
      to = short;
      clear = λ k a b e. omega (arith, top-clear n r k lo a, bit-and x (upto-mask s) k, bit-upto s k hs b, (hw k (omega arith)).1 e);
      hit = λ h. (hw (r - 1) (omega arith)).0 (omega (arith, length-set-bit n r h lo hi, bit-and x (upto-mask s) (r - 1), bit-lt x (r - 1)));
    }

ones_small : (b : ℕ) → b < 2 → ones b ≡ b
unfolding ones
ones_small zero h = refl
ones_small (suc zero) h = refl
ones_small (suc (suc b)) h = let z : ⊥ = omega arith in absurd z

pub ones-mod : (w k : ℕ) → ones (w % 2 ^ k) ≡ ones_below w k
unfolding ones_below bit_of
ones-mod w zero = ap ones (mod-one w) ∙ ones_small 0 (lit< tt)
ones-mod w (suc k) =
    let e : suc k ≡ 1 + k = omega arith in
    ap (λ (x : ℕ). ones (w % 2 ^ x)) e ∙ ap ones (mod-pow-add w 1 k)
    ∙ ones_cat k (w / 2 ^ k % 2) (w % 2 ^ k) (mod-lt w (pow_pos k))
    ∙ ap₂ (λ (x y : ℕ). x + y) (ones_small _ (mod-lt _ (lit< tt))) (ones-mod w k)

pub one_shl : (k : ℕ) → k < 64 → 1 * 2 ^ k % 2 ^ 64 ≡ 2 ^ k
one_shl k h = shl_exact {a = 1} 1 k 64 (lit< tt) (omega arith) ∙ one-mul (2 ^ k)

pub ones-masked : (w k : ℕ) → k < 64 → ones (bit_and w (1 * 2 ^ k % 2 ^ 64 - 1)) ≡ ones_below w k
ones-masked w k h = ap (λ (x : ℕ). ones (bit_and w (x - 1))) (one_shl k h) ∙ ap ones (and_mask w k) ∙ ones-mod w k

pub bits-le : (w k : ℕ) → ones_below w k ≤ k
unfolding ones_below
bits-le w zero = omega arith
bits-le w (suc k) = omega (arith, bit-lt w k, bits-le w k)

-- the mask of the bits from s up to e
mask-bit : (s e k : ℕ) → s < e → e ≤ 64 → k < 64
    → bit_of (bit_and (from-mask s) ((2 ^ 64 - 1) / 2 ^ (64 - e))) k ≡ cond (leb s k && ltb k e) 1 0
mask-bit s e k h g l =
    let d : 64 - e ≡ 63 - (e - 1) = omega arith in
    let up : bit_of ((2 ^ 64 - 1) / 2 ^ (64 - e)) k ≡ bit_of (upto-mask (e - 1)) k =
    ap (λ (x : ℕ). bit_of ((2 ^ 64 - 1) / 2 ^ x) k) d in
    bit-and (from-mask s) ((2 ^ 64 - 1) / 2 ^ (64 - e)) k
    ∙ ⊎_elim
    (λ (x : k < s). simp (lt-leb s k x) (omega (arith, bit-before s k x l)))
    (λ (x : s ≤ k).
    ⊎_elim
    (λ (y : k < e).
    simp (le-leb s k x, lt-ltb k e y)
    (omega (arith, up, bit-from s k x l, bit-upto (e - 1) k (omega arith) (omega arith))))
    (λ (y : e ≤ k).
    simp (le-leb s k x, le-ltb k e y) (omega (arith, up, bit-from s k x l, bit_past (e - 1) k (omega arith))))
    (lt-or-ge k e))
    (lt-or-ge k s)

merge-pick : (b : Bool) (x w m : ℕ) → x < 2 → w < 2 → m ≡ cond b 1 0 → max (min w (1 - m)) (min x m) ≡ cond b x w
merge-pick true x w m hx hw e = omega arith
merge-pick false x w m hx hw e = omega arith

-- the bits of w outside a mask and those of x inside it
pub merge-law : (w x s e : ℕ) → s < e → e ≤ 64
    → let m = bit_and ((2 ^ 64 - 1) * 2 ^ s % 2 ^ 64) ((2 ^ 64 - 1) / 2 ^ (64 - e)) in
    Merged w x s e (bit_or (bit_and w (2 ^ 64 - 1 - m)) (bit_and x m))
merge-law w x s e h g k l =
    let m = bit_and (from-mask s) ((2 ^ 64 - 1) / 2 ^ (64 - e)) in
    let small : m < 2 ^ 64 =
    and_lt 64 (from-mask s) _ (mod-lt ((2 ^ 64 - 1) * 2 ^ s) (pow_pos 64)) (lt_of_le_of_lt (shr_le (2 ^ 64 - 1) (64 - e)) (lit< tt)) in
    bit-or (bit_and w (2 ^ 64 - 1 - m)) (bit_and x m) k
    ∙ ap₂ (λ (a b : ℕ). max a b) (bit-and w (2 ^ 64 - 1 - m) k ∙ ap (λ (a : ℕ). min (bit_of w k) a) (bit_not 64 m k small l)) (bit-and x m k)
    ∙ merge-pick (leb s k && ltb k e) (bit_of x k) (bit_of w k) (bit_of m k) (bit-lt x k) (bit-lt w k) (mask-bit s e k h g l)

-- the lowest bits of two words, by the words under a mask
module _ (a b k : ℕ) (some : 0 < k) (few : k ≤ 64) (ha : a < 2 ^ 64) (hb : b < 2 ^ 64) where
  low-in : (i : ℕ) → i < k → bit_of ((2 ^ 64 - 1) / 2 ^ (64 - k)) i ≡ 1
  low-in i h =
      let d : 64 - k ≡ 63 - (k - 1) = omega arith in
      ap (λ (x : ℕ). bit_of ((2 ^ 64 - 1) / 2 ^ x) i) d ∙ bit-upto (k - 1) i (omega arith) (omega arith)

  low-out : (i : ℕ) → k ≤ i → bit_of ((2 ^ 64 - 1) / 2 ^ (64 - k)) i ≡ 0
  low-out i h =
      let d : 64 - k ≡ 63 - (k - 1) = omega arith in
      ap (λ (x : ℕ). bit_of ((2 ^ 64 - 1) / 2 ^ x) i) d ∙ bit_past (k - 1) i (omega arith)

  pub same-law : eqb (bit_and a ((2 ^ 64 - 1) / 2 ^ (64 - k))) (bit_and b ((2 ^ 64 - 1) / 2 ^ (64 - k)))
      ≡ all k (λ i. eqb (bit_of a i) (bit_of b i))
  same-law =
      let m = (2 ^ 64 - 1) / 2 ^ (64 - k) in
      let small : m < 2 ^ 64 = lt_of_le_of_lt (shr_le (2 ^ 64 - 1) (64 - k)) (lit< tt) in
      same_test _ _
      (λ t.
      let q : bit_and a m ≡ bit_and b m = eqb-true (bit_and a m) (bit_and b m) t in
      each_all k (λ i. eqb (bit_of a i) (bit_of b i)) (λ i h. eq-eqb (bit_of a i) (bit_of b i) (omega (
        arith,
        bit-and a m i,
        bit-and b m i,
        low-in i h,
        ap (λ (x : ℕ). bit_of x i) q,
        bit-lt a i,
        bit-lt b i,
      ))))
      (λ t. eq-eqb (bit_and a m) (bit_and b m) (bit-ext 64 (bit_and a m) (bit_and b m) (and_lt 64 a m ha small) (and_lt 64 b m hb small) (λ i h.
      ⊎_elim
      (λ (x : i < k).
      let same = eqb-true (bit_of a i) (bit_of b i) (all-each k (λ i. eqb (bit_of a i) (bit_of b i)) t i x) in
      omega (arith, bit-and a m i, bit-and b m i))
      (λ (x : k ≤ i). omega (arith, bit-and a m i, bit-and b m i, low-out i x))
      (lt-or-ge i k))))
