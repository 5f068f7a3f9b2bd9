-- Rounding to whole minutes by way of 2x: x + x is exact, its whole part is that of 2x, and half of that plus one is x rounded, halves up.
-- Assumes nothing.
use Rattle.std.proofs.Common.{◌≡◌, ℕ, zero, suc, ◌+◌, ◌-◌, ◌*◌, ◌/◌, ◌%◌, ◌^◌, ◌<◌, ◌≤◌, min, Bool, true, false, not, ◌&&◌, T, eqb, ltb, leb, ℤ, pos, negsuc, sym, refl, ap, ◌∙◌, subst, true≢false, le_trans, le_of_eq, lt_of_lt_of_le, le_of_suc-le-suc, lt_of_le_of_lt, mul-le-mul_right, mod-lt, mul_assoc, mul_comm, div-lt_iff_lt-mul, le_antisymm, lt_of_mul-lt-mul_right, mul-lt-mul_of_pos_right, mul-pos, one-mul, lt_of_not-le, div-add-mod', zero-mul, mul-one, mul_right_comm, not-le_of_lt, mul_left_comm, arith, lit≤, eqb→eq, ltb→lt, lt→ltb, leb→le, nltb→le, pow_pos, pow-add, ltb-true, lt-ltb}
use mathlib.Core.Bool.{and-true}
use native.Mathlib.Nat.{eq_of_mul-eq-mul_right}
use native.Mathlib.Nat.{add-div_right, div-div-eq-div-mul, zero-div}
use lib.Pow.{pow-lt}
use lib.Ieee.{Float, nan, inf, fin, binary64, add, sum, round, lt, fits, up, down, to_unsigned}
use lib.Ieee.Exact.{HasValue, round_exact}
use lib.Ieee.Fits.{up_pos, down_pos, and_l, and_r}
use lib.Ieee.Nearest.{div_same}
use lib.Ieee.Scale.{round_same}
use Rattle.targets.specs.Figures.{zero_f}
use Rattle.targets.specs.Passes.{rounded, within, NearestWhole}

pub held : {b : Bool} → b ≡ true → T b
held w = subst T (sym w) tt

-- ---- the guard

-- x is below 2 ^ 40 in size
pub under : (s : Bool) (m : ℕ) (e : ℤ) → within (fin s m e) ≡ true → m * up e < 1099511627776 * down e
unfolding within
under s m e w = ltb-true (m * up e) (1099511627776 * down e) w

-- the guard is two comparisons
pub guard_test : (x : Float) → lt (fin true 1 (pos 40)) x && lt x (fin false 1 (pos 40)) ≡ within x
unfolding lt within
guard_test nan = refl
guard_test (inf true) = refl
guard_test (inf false) = refl
guard_test (fin true m e) =
    let x = m * up e in
    let d = 1099511627776 * down e in
    rw (mul-one x, lt-ltb 0 (x + d) (omega (arith, down_pos e))) (and-true (ltb x d))
guard_test (fin false m e) =
    let x = m * up e in
    let d = 1099511627776 * down e in
    rw (mul-one x, lt-ltb 0 (d + x) (omega (arith, down_pos e)))

-- ---- the nearest whole number: `rounded` is one, and there is only one

near_div : (x d : ℕ) → 0 < d → let r = (x * 2 + d) / (d * 2) in (r * 2 * d ≤ x * 2 + d) × (x * 2 < (r * 2 + 1) * d)
near_div x d D =
    let n = x * 2 + d in
    let r = n / (d * 2) in
    let P : 0 < d * 2 = omega arith in
    let a : r * (d * 2) + n % (d * 2) ≡ n = div-add-mod' n (d * 2) in
    let b : n % (d * 2) < d * 2 = mod-lt n P in
    let c : r * (d * 2) ≡ r * 2 * d = simp (mul_assoc, mul_comm, mul_left_comm) in
    let e : (r * 2 + 1) * d ≡ r * 2 * d + d = simp (native.Mathlib.Nat.add-mul, one-mul) in
    (omega arith, omega arith)

pub rounded-nearest : (s : Bool) (m : ℕ) (e : ℤ) → NearestWhole (fin s m e) (rounded (fin s m e))
unfolding rounded
rounded-nearest s m e = near_div (m * up e) (down e) (down_pos e)

not-apart : (a b x d : ℕ) → b * 2 * d ≤ x * 2 + d → x * 2 < (a * 2 + 1) * d → b ≤ a
not-apart a b x d h k =
    let e : (a * 2 + 1) * d ≡ a * 2 * d + d = simp (native.Mathlib.Nat.add-mul, one-mul) in
    let f : (a + 1) * 2 * d ≡ a * 2 * d + d + d = simp (native.Mathlib.Nat.add-mul, one-mul) (omega arith) in
    let l : b * 2 * d < (a + 1) * 2 * d = omega arith in
    let g : b * 2 < (a + 1) * 2 = lt_of_mul-lt-mul_right d l in
    omega arith

pub nearest-one : (x : Float) (a b : ℕ) → NearestWhole x a → NearestWhole x b → a ≡ b
nearest-one nan a b h k = absurd h
nearest-one (inf s) a b h k = absurd h
nearest-one (fin s m e) a b h k =
    le_antisymm (not-apart b a (m * up e) (down e) h.0 k.1) (not-apart a b (m * up e) (down e) k.0 h.1)

-- ---- halves

-- half of the whole part of 2x, plus one
halves : (x d : ℕ) → 0 < d → (x * 2 / d + 1) / 2 ≡ (x * 2 + d) / (d * 2)
halves x d D = ap (λ (z : ℕ). z / 2) (sym (add-div_right (x * 2) D)) ∙ div-div-eq-div-mul (x * 2 + d) d 2

capped : (x y : ℕ) → x ≡ y → y < 2199023255552 → min x 18446744073709551615 ≡ y
capped x y q l = omega arith

-- x / d is a / c, and a is 0
pub no_part : (x c a d : ℕ) → 0 < c → x * c ≡ a * d → a ≡ 0 → x ≡ 0
no_part x c a d C h z = eq_of_mul-eq-mul_right c C x 0 (h ∙ ap (λ (k : ℕ). k * d) z ∙ zero-mul d ∙ sym (zero-mul c))

-- ---- what has the value a / c, below 2 ^ 41 and not below zero

module _ (s : Bool) (a c : ℕ) (C : 0 < c) (small : a < 2199023255552 * c) (sign : s ≡ true → a ≡ 0) where
  bound : (m : ℕ) (e : ℤ) → m * up e * c ≡ a * down e → m * up e < 2199023255552 * down e
  bound m e h =
      lt_of_mul-lt-mul_right c
      (lt_of_le_of_lt (le_of_eq h)
      (lt_of_lt_of_le (mul-lt-mul_of_pos_right small (down_pos e)) (le_of_eq (mul_right_comm 2199023255552 c (down e)))))

  above : (y : Float) → HasValue y s a c → T (lt (fin true 1 (pos 0)) y)
  unfolding lt
  above nan v = absurd v
  above (inf t) v = absurd v
  above (fin true m e) v =
      lt→ltb (m * up e * 1) (1 * down e) (omega (arith, no_part (m * up e) c a (down e) C v.1 (sign (sym v.0)), down_pos e))
  above (fin false m e) v = lt→ltb 0 (1 * down e + m * up e * 1) (omega (arith, down_pos e))

  below : (y : Float) → HasValue y s a c → T (lt y (fin false 1 (pos 64)))
  unfolding lt
  below nan v = absurd v
  below (inf t) v = absurd v
  below (fin true m e) v = lt→ltb 0 (m * up e * 1 + 18446744073709551616 * down e) (omega (arith, down_pos e))
  below (fin false m e) v = lt→ltb (m * up e * 1) (18446744073709551616 * down e) (omega (arith, bound m e v.1))

  cut : (y : Float) → HasValue y s a c → to_unsigned 64 y ≡ a / c
  unfolding to_unsigned
  cut nan v = absurd v
  cut (inf t) v = absurd v
  cut (fin true m e) v = sym (ap (λ (z : ℕ). z / c) (sign (sym v.0)) ∙ zero-div c)
  cut (fin false m e) v =
      let q : m * up e / down e ≡ a / c = div_same (m * up e) (down e) a c (down_pos e) C v.1 in
      let l : a / c < 2199023255552 = (div-lt_iff_lt-mul C).1 small in
      capped (m * up e / down e) (a / c) q l

-- ---- what fits, and twice it, is exact

one_apart : (a b : ℕ) → 0 < a → a * b ≡ 1 → b ≤ 1
one_apart a b A h = le_trans (le_of_eq (sym (one-mul b))) (le_trans (mul-le-mul_right b A) (le_of_eq h))

-- what fits: m has at most 53 digits, the exponent is -1074 at least, and the size is below 2 ^ 1024
pub record Fitting (m : ℕ) (e : ℤ) : Type 0 where
  pub digits : m < 2 ^ 53
  pub reach : down e ≤ 2 ^ 1074
  pub top : m * up e < 2 ^ 1024 * down e

pub fits-says : (s : Bool) (m : ℕ) (e : ℤ) → T (fits binary64 (fin s m e)) → Fitting m e
unfolding fits
fits-says s zero e f = record {
  digits = pow_pos 53;
  reach = le_trans (one_apart (up e) (down e) (up_pos e) (eqb→eq (up e * down e) 1 f)) (pow_pos 1074);
  top = lt_of_le_of_lt (le_of_eq (zero-mul (up e))) (mul-pos (pow_pos 1024) (down_pos e));
}
fits-says s (suc m) e f =
    let o = eqb (suc m % 2) 1 in
    let p = ltb (suc m) (2 ^ 53) in
    let q = leb (down e) (2 ^ 1074) in
    let r = ltb (suc m * up e) (2 ^ 1024 * down e) in
    let x = and_l (o && p && q) r f in
    record {
      digits = ltb→lt (suc m) (2 ^ 53) (and_r o p (and_l (o && p) q x));
      reach = leb→le (down e) (2 ^ 1074) (and_r (o && p) q x);
      top = ltb→lt (suc m * up e) (2 ^ 1024 * down e) (and_r (o && p && q) r f);
    }

pub exponent : (k l : ℕ) → 2 ^ suc k ≤ 2 ^ l → k < l
exponent k l h = le_of_suc-le-suc (lt_of_not-le (λ (g : suc l ≤ suc k). not-le_of_lt (pow-lt g) h))

-- m / 2 ^ (k + 1), in parts of 2 ^ -l
pub parts-down : (m k l : ℕ) → k < l → m * 1 * 2 ^ l ≡ m * 2 ^ (l - suc k) * 2 ^ suc k
parts-down m k l h =
    let e : suc k + (l - suc k) ≡ l = omega arith in
    subst (λ (z : ℕ). m * 1 * 2 ^ z ≡ m * 2 ^ (l - suc k) * 2 ^ suc k) e (by_parts m k (l - suc k))
  where
    by_parts : (m k t : ℕ) → m * 1 * 2 ^ (suc k + t) ≡ m * 2 ^ t * 2 ^ suc k
    by_parts m k t = simp (mul-one, pow-add, mul_assoc, mul_comm)

-- a / c is t parts of 2 ^ -1074, and below 2 ^ 1024
below_top : (a c t : ℕ) → a * 2 ^ 1074 ≡ t * c → a < 2 ^ 1024 * c → t < 2 ^ (1074 + 1024)
below_top a c t q h =
    lt_of_mul-lt-mul_right c
    (lt_of_le_of_lt (le_of_eq (sym q))
    (lt_of_lt_of_le (mul-lt-mul_of_pos_right h (pow_pos 1074))
    (le_of_eq
    (mul_right_comm (2 ^ 1024) c (2 ^ 1074) ∙ ap (λ (z : ℕ). z * c) (mul_comm (2 ^ 1024) (2 ^ 1074) ∙ sym (pow-add 2 1074 1024))))))

-- x is m * 2 ^ j at the exponent e
pub exact : (s : Bool) (m : ℕ) (e : ℤ) (j x : ℕ) → x ≡ m * up e * 2 ^ j → Fitting m e → x < 2 ^ 1024 * down e
    → HasValue (round binary64 s x (down e)) s x (down e)
exact s m (pos k) j x X o h =
    let q : x * 2 ^ 1074 ≡ m * 2 ^ (k + j + 1074) * 1 = ap (λ (z : ℕ). z * 2 ^ 1074) X ∙ simp (mul-one, pow-add, mul_assoc) in
    round_exact binary64 s x 1 m (k + j + 1074) (pow_pos 0) o.digits (below_top x 1 (m * 2 ^ (k + j + 1074)) q h) q
exact s m (negsuc k) j x X o h =
    let l = 1074 - suc k in
    let q : x * 2 ^ 1074 ≡ m * 2 ^ (j + l) * 2 ^ suc k
    = ap (λ (z : ℕ). z * 2 ^ 1074) (X ∙ mul_right_comm m 1 (2 ^ j))
    ∙ parts-down (m * 2 ^ j) k 1074 (exponent k 1074 o.reach)
    ∙ ap (λ (z : ℕ). z * 2 ^ suc k) (mul_assoc m (2 ^ j) (2 ^ l) ∙ ap (λ (z : ℕ). m * z) (sym (pow-add 2 j l))) in
    round_exact binary64 s x (2 ^ suc k) m (j + l) (pow_pos (suc k)) o.digits (below_top x (2 ^ suc k) (m * 2 ^ (j + l)) q h) q

same_sign : (s : Bool) (a c : ℕ) → sum binary64 s a s a c ≡ round binary64 s (a + a) c
unfolding sum
same_sign true a c = refl
same_sign false a c = refl

doubled : (s : Bool) (m : ℕ) (e : ℤ) → T (fits binary64 (fin s m e)) → m * up e < 1099511627776 * down e
    → HasValue (add binary64 (fin s m e) (fin s m e)) s (m * up e * 2) (down e)
unfolding add
doubled s m e f h =
    let x = m * up e in
    let d = down e in
    let q : round binary64 s (x * d + x * d) (d * d) ≡ round binary64 s (x * 2) d
    = round_same binary64 s (x * d + x * d) (d * d) (x * 2) d (mul-pos (down_pos e) (down_pos e)) (down_pos e) (twice x d) in
    let l : x * 2 < 2199023255552 * d = omega (arith, h) in
    subst (λ (z : Float). HasValue z s (x * 2) d) (sym (same_sign s (x * d) (d * d) ∙ q))
    (exact s m e 1 (x * 2) refl (fits-says s m e f)
    (lt_of_lt_of_le l (mul-le-mul_right d (lit≤ {m = 2199023255552} {n = 2 ^ 1024} tt))))
  where
    twice : (x d : ℕ) → (x * d + x * d) * d ≡ x * 2 * (d * d)
    twice x d = ap (λ (z : ℕ). z * d) (sym (mul-two x d)) ∙ mul_assoc (x * 2) d d
      where
        mul-two : (x d : ℕ) → x * 2 * d ≡ x * d + x * d
        mul-two x d = mul_right_comm x 2 d ∙ omega arith

-- ---- of an x that fits, is not below zero and is in the guard: what the cast asks, and what half of its result plus one is

-- it is 0 if it has the sign
pub no_sign : (s : Bool) (m : ℕ) (e : ℤ) → lt (fin s m e) zero_f ≡ false → s ≡ true → m * up e * 2 ≡ 0
unfolding lt
no_sign true m e z t = omega (arith, nltb→le 0 (m * up e * 1 + 0 * down e) (held (ap not z)))
no_sign false m e z t = absurd (true≢false (sym t))

-- 2x can be cast, and half of that plus one is x rounded
pub record Nearest (x : Float) : Type 0 where
  pub low : T (lt (fin true 1 (pos 0)) (add binary64 x x))
  pub high : T (lt (add binary64 x x) (fin false 1 (pos 64)))
  pub is : (to_unsigned 64 (add binary64 x x) + 1) / 2 ≡ rounded x
  pub small : to_unsigned 64 (add binary64 x x) < 2199023255552

pub nearest-of : (x : Float) → T (fits binary64 x) → lt x zero_f ≡ false → within x ≡ true → Nearest x
unfolding lt rounded within
nearest-of nan f z w = absurd (held w)
nearest-of (inf true) f z w = absurd (held w)
nearest-of (inf false) f z w = absurd (held w)
nearest-of (fin s m e) f z w =
    let u = under s m e w in
    let v = doubled s m e f u in
    let D = down_pos e in
    let b : m * up e * 2 < 2199023255552 * down e = omega arith in
    let n = no_sign s m e z in
    let x = add binary64 (fin s m e) (fin s m e) in
    let q = cut s (m * up e * 2) (down e) D b n x v in
    record {
      low = above s (m * up e * 2) (down e) D b n x v;
      high = below s (m * up e * 2) (down e) D b n x v;
      is = ap (λ (k : ℕ). (k + 1) / 2) q ∙ halves (m * up e) (down e) D;
      small = lt_of_le_of_lt (le_of_eq q) ((div-lt_iff_lt-mul D).1 b);
    }
