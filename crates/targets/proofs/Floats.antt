-- Floats that are bounded: what rounding, quotient, product, difference and sum keep of a bound. Assumes nothing.
use Rattle.std.proofs.Common.{◌≡◌, ℕ, zero, suc, ◌+◌, ◌-◌, ◌*◌, ◌^◌, ◌<◌, ◌≤◌, Bool, true, false, cond, ◌&&◌, ◌||◌, T, eqb, ltb, ℤ, sym, refl, ap, ◌∙◌, subst, true≢false, le_trans, le_of_eq, le_refl, lt_of_le_of_lt, le_of_lt, add-le-add, lt_irrefl, mul-le-mul_right, zero-lt-suc, mul_assoc, mul_comm, add-mul, mul-le-mul_left, mul-lt-mul_of_pos_right, mul-pos, one-mul, zero-mul, mul-one, arith, eqb→eq, ltb→lt, pow_pos, lt-ltb}
use lib.Dec.{eqb-suc-zero}
use lib.Ieee.{Float, nan, inf, fin, Format, binary64, add, sub, mul, div, neg, le, fits, up, down, low, emax, prec}
use lib.Ieee.{sum, round, units, odd, unlike}
use lib.Ieee.Exact.{HasValue}
use lib.Ieee.Fits.{up_pos, down_pos, and_l}
use lib.Ieee.Back.{round_whole}
use lib.Ieee.Order.{round_mono}
use lib.Ieee.Positive.{through}
use Rattle.targets.specs.Passes.{within}
use Rattle.targets.proofs.Nearest.{fits-says, exact}

-- ---- the size of a float: x is finite, and at most a / c in size
abbrev pub Most : Float → ℕ → ℕ → Type 0
Most nan a c = ⊥
Most (inf s) a c = ⊥
Most (fin s m e) a c = m * up e * c ≤ a * down e

-- what `round` gives with no sign has none
abbrev pub Plain : Float → Type 0
Plain nan = ⊥
Plain (inf s) = s ≡ false
Plain (fin s m e) = s ≡ false

odd-plain : (d q k l : ℕ) → Plain (odd d false q k l)
unfolding odd
odd-plain d zero k l = refl
odd-plain d (suc q) k l = refl

units-plain : (f : Format) (q k : ℕ) → Plain (units f false q k)
unfolding units
units-plain f q k = go (ltb (q * 2 ^ k) (2 ^ (low f + suc (emax f))))
  where
    go : (b : Bool) → Plain (cond b (odd (suc (prec f)) false q k (low f)) (inf false))
    go true = odd-plain (suc (prec f)) q k (low f)
    go false = refl

pub round-plain : (f : Format) (a b : ℕ) → Plain (round f false a b)
unfolding round
round-plain f a b = units-plain f _ _

-- with the sign it is the same but for the sign
units-neg : (f : Format) (q k : ℕ) → units f true q k ≡ neg (units f false q k)
unfolding units odd neg
units-neg f q k = go (ltb (q * 2 ^ k) (2 ^ (low f + suc (emax f)))) q
  where
    go : (b : Bool) (q : ℕ) → cond b (odd (suc (prec f)) true q k (low f)) (inf true)
        ≡ neg (cond b (odd (suc (prec f)) false q k (low f)) (inf false))
    go true zero = refl
    go true (suc q) = refl
    go false q = refl

pub round-neg : (f : Format) (a b : ℕ) → round f true a b ≡ neg (round f false a b)
unfolding round
round-neg f a b = units-neg f _ _

most-neg : (x : Float) (a c : ℕ) → Most x a c → Most (neg x) a c
unfolding neg
most-neg nan a c h = h
most-neg (inf s) a c h = h
most-neg (fin s m e) a c h = h

-- ---- rounding keeps a bound that is a float itself
or_split : (a b : Bool) {P : Type 0} → (T a → P) → (T b → P) → T (a || b) → P
or_split true b f g t = f tt
or_split false b f g t = g t

pub le-cross : (m n : ℕ) (e d : ℤ) → T (le (fin false m e) (fin false n d)) → m * up e * down d ≤ n * up d * down e
unfolding le
le-cross m n e d t = or_split (ltb (m * up e * down d) (n * up d * down e)) (eqb (m * up e * down d) (n * up d * down e) && true)
    (λ h. le_of_lt (ltb→lt (m * up e * down d) (n * up d * down e) h))
    (λ h. le_of_eq (eqb→eq (m * up e * down d) (n * up d * down e) (and_l (eqb (m * up e * down d) (n * up d * down e)) true h))) t

le-most : (y z : Float) (a c : ℕ) → Plain y → T (le y z) → HasValue z false a c → Most y a c
unfolding le
le-most nan z a c p t v = absurd p
le-most (inf true) z a c p t v = absurd (true≢false p)
le-most (inf false) nan a c p t v = absurd v
le-most (inf false) (inf s) a c p t v = absurd v
le-most (inf false) (fin s n d) a c p t v = absurd t
le-most (fin true m e) z a c p t v = absurd (true≢false p)
le-most (fin false m e) nan a c p t v = absurd v
le-most (fin false m e) (inf s) a c p t v = absurd v
le-most (fin false m e) (fin true n d) a c p t v = absurd (true≢false v.0)
le-most (fin false m e) (fin false n d) a c p t v =
    through (m * up e) (n * up d) a (down e) (down d) c (down_pos d) (le-cross m n e d t) (le_of_eq v.1)

-- a / b is at most k, a whole number that binary64 holds
plain-most : (a b k : ℕ) → 0 < b → k ≤ 2 ^ 53 → a ≤ k * b → Most (round binary64 false a b) k 1
plain-most a b k B K h =
    le-most (round binary64 false a b) (round binary64 false k 1) k 1 (round-plain binary64 a b)
    (round_mono binary64 a b k 1 B (zero-lt-suc 0) (le_trans (le_of_eq (mul-one a)) h)) (round_whole binary64 false k K)

pub round-most : (s : Bool) (a b k : ℕ) → 0 < b → k ≤ 2 ^ 53 → a ≤ k * b → Most (round binary64 s a b) k 1
round-most false a b k B K h = plain-most a b k B K h
round-most true a b k B K h =
    subst (λ (x : Float). Most x k 1) (sym (round-neg binary64 a b))
    (most-neg (round binary64 false a b) k 1 (plain-most a b k B K h))

-- ---- one person, where the raw share is at most the sum, and the sum is above 0

-- r / s is at most 1 in size
pub quotient : (t : Bool) (m : ℕ) (e : ℤ) (n : ℕ) (d : ℤ) → 0 < n → m * up e * down d ≤ n * up d * down e
    → Most (div binary64 (fin t m e) (fin false n d)) 1 1
unfolding div
quotient t m e zero d N h = absurd (lt_irrefl 0 N)
quotient t m e (suc n) d N h =
    let den = suc n * up d * down e in
    rw (eqb-suc-zero n)
    (round-most (unlike t false) (m * up e * down d) den 1 (mul-pos (mul-pos N (up_pos d)) (down_pos e)) (pow_pos 53)
    (le_trans h (le_of_eq (sym (one-mul den)))))

-- x is k, q is at most 1 in size: their product is at most k in size
pub product : (x q : Float) (k : ℕ) → HasValue x false k 1 → k ≤ 2 ^ 53 → Most q 1 1 → Most (mul binary64 x q) k 1
unfolding mul
product nan q k v K h = absurd v
product (inf s) q k v K h = absurd v
product (fin s p g) nan k v K h = absurd h
product (fin s p g) (inf t) k v K h = absurd h
product (fin s p g) (fin t m e) k v K h =
    round-most (unlike s t) (p * up g * (m * up e)) (down g * down e) k (mul-pos (down_pos g) (down_pos e)) K
    (le_trans (le_of_eq (ap (λ (z : ℕ). z * (m * up e)) (sym (mul-one (p * up g)) ∙ v.1)))
    (le_trans (mul-le-mul_left (k * down g) (le_trans (le_of_eq (sym (mul-one (m * up e)))) (le_trans h (le_of_eq (one-mul (down e))))))
    (le_of_eq (mul_assoc k (down g) (down e)))))

-- x / e or x / d is at most w: the same over the denominator e * d
pub over-left : (x w e d : ℕ) → x * 1 ≤ w * e → x * d ≤ w * (e * d)
over-left x w e d h = le_trans (mul-le-mul_right d (le_trans (le_of_eq (sym (mul-one x))) h)) (le_of_eq (mul_assoc w e d))

pub over-right : (x w e d : ℕ) → x * 1 ≤ w * d → x * e ≤ w * (e * d)
over-right x w e d h = le_trans (over-left x w d e h) (le_of_eq (ap (λ (z : ℕ). w * z) (mul_comm d e)))

-- x at most k in size, less p: at most k + p in size
minus-part : (a c w : ℕ) → 0 < c → w ≤ 2 ^ 53 → (s : Bool) (x : ℕ) → x + a ≤ w * c → Most (sum binary64 s x true a c) w 1
unfolding sum
minus-part a c w C W true x h = round-most true (x + a) c w C W h
minus-part a c w C W false x h = go (ltb x a)
  where
    go : (t : Bool) → Most (cond t (round binary64 true (a - x) c) (round binary64 (false && ltb a x) (x - a) c)) w 1
    go true = round-most true (a - x) c w C W (omega arith)
    go false = round-most false (x - a) c w C W (omega arith)

pub difference : (x p : Float) (k w : ℕ) → Most x k 1 → HasValue p false w 1 → k + w ≤ 2 ^ 53 → Most (sub binary64 x p) (k + w) 1
unfolding sub add neg
difference nan p k w h v W = absurd h
difference (inf s) p k w h v W = absurd h
difference (fin s m e) nan k w h v W = absurd v
difference (fin s m e) (inf t) k w h v W = absurd v
difference (fin s m e) (fin true n d) k w h v W = absurd (true≢false v.0)
difference (fin s m e) (fin false n d) k w h v W =
    minus-part (n * up d * down e) (down e * down d) (k + w) (mul-pos (down_pos e) (down_pos d)) W s (m * up e * down d)
    (le_trans (add-le-add (over-left (m * up e) k (down e) (down d) h) (over-right (n * up d) w (down e) (down d) (le_of_eq v.1)))
    (le_of_eq (sym (add-mul k w (down e * down d)))))

-- below 2 ^ 40 in size: inside the guard
pub inside : (x : Float) (k : ℕ) → Most x k 1 → k < 1099511627776 → within x ≡ true
unfolding within
inside nan k h K = absurd h
inside (inf s) k h K = absurd h
inside (fin s m e) k h K =
    lt-ltb (m * up e) (1099511627776 * down e)
    (lt_of_le_of_lt (le_trans (le_of_eq (sym (mul-one (m * up e)))) h) (mul-lt-mul_of_pos_right K (down_pos e)))

-- ---- the sum of the raw shares is at least each of them

-- x is finite, fits, and is not below zero
abbrev pub Share : Float → Type 0
Share nan = ⊥
Share (inf s) = ⊥
Share (fin s m e) = T (fits binary64 (fin s m e)) × (s ≡ true → m ≡ 0)

-- x is at most y, both finite
abbrev pub Under : Float → Float → Type 0
Under (fin s m e) (fin t n d) = m * up e * down d ≤ n * up d * down e
Under nan y = ⊥
Under (inf s) y = ⊥
Under (fin s m e) nan = ⊥
Under (fin s m e) (inf t) = ⊥

-- a float's own value is rounded to itself
own : (s : Bool) (m : ℕ) (e : ℤ) → T (fits binary64 (fin s m e))
    → HasValue (round binary64 false (m * up e) (down e)) false (m * up e) (down e)
own s m e f =
    let o = fits-says s m e f in
    exact false m e 0 (m * up e) (sym (mul-one (m * up e))) o o.top

-- x at most a / b: at most a / b rounded, if that is finite
value-le : (z y : Float) (a c : ℕ) → 0 < c → HasValue z false a c → T (le z y) → Plain y → (k : ℕ) → Most y k 1
    → (s : Bool) (m : ℕ) (e : ℤ) → a ≡ m * up e → c ≡ down e → Under (fin s m e) y
unfolding le
value-le nan y a c C v t p k h s m e A B = absurd v
value-le (inf w) y a c C v t p k h s m e A B = absurd v
value-le (fin w n d) nan a c C v t p k h s m e A B = absurd p
value-le (fin w n d) (inf u) a c C v t p k h s m e A B = absurd h
value-le (fin true n d) (fin u r g) a c C v t p k h s m e A B = absurd (true≢false v.0)
value-le (fin false n d) (fin true r g) a c C v t p k h s m e A B = absurd (true≢false p)
value-le (fin false n d) (fin false r g) a c C v t p k h s m e A B =
    through (m * up e) (n * up d) (r * up g) (down e) (down d) (down g) (down_pos d)
    (le_of_eq (sym (ap (λ (z : ℕ). n * up d * z) (sym B) ∙ v.1 ∙ ap (λ (z : ℕ). z * down d) A)))
    (le-cross n r d g t)

pub under-round : (s : Bool) (m : ℕ) (e : ℤ) (a b k : ℕ) → T (fits binary64 (fin s m e)) → 0 < b → m * up e * b ≤ a * down e
    → Most (round binary64 false a b) k 1 → Under (fin s m e) (round binary64 false a b)
under-round s m e a b k f B h K =
    value-le (round binary64 false (m * up e) (down e)) (round binary64 false a b) (m * up e) (down e) (down_pos e) (own s m e f)
    (round_mono binary64 (m * up e) (down e) a b (down_pos e) B h) (round-plain binary64 a b) k K s m e refl refl

pub under-refl : (x : Float) (k c : ℕ) → Most x k c → Under x x
under-refl nan k c h = h
under-refl (inf s) k c h = h
under-refl (fin s m e) k c h = le_refl (m * up e * down e)

pub under-trans : (x y z : Float) → Under x y → Under y z → Under x z
under-trans nan y z h k = h
under-trans (inf s) y z h k = h
under-trans (fin s m e) nan z h k = absurd h
under-trans (fin s m e) (inf t) z h k = absurd h
under-trans (fin s m e) (fin t n d) nan h k = k
under-trans (fin s m e) (fin t n d) (inf u) h k = k
under-trans (fin s m e) (fin t n d) (fin u r g) h k = through (m * up e) (n * up d) (r * up g) (down e) (down d) (down g) (down_pos d) h k

-- one addition: of a float that is not below zero
plus-zero : (a b c : ℕ) → b ≡ 0 → sum binary64 false a true b c ≡ round binary64 false (a + b) c
unfolding sum
plus-zero a b c z = go (ltb a b) (ltb→lt a b)
  where
    go : (t : Bool) → (T t → a < b)
        → cond t (round binary64 true (b - a) c) (round binary64 (false && ltb b a) (a - b) c) ≡ round binary64 false (a + b) c
    go true h = absurd (no (h tt) z)
      where
        no : a < b → b ≡ 0 → ⊥
        no l q = omega arith
    go false h = ap (λ (k : ℕ). round binary64 false k c) (diff z)
      where
        diff : b ≡ 0 → a - b ≡ a + b
        diff q = omega arith

pub add-plain : (m : ℕ) (e : ℤ) (t : Bool) (n : ℕ) (d : ℤ) → (t ≡ true → n ≡ 0)
    → add binary64 (fin false m e) (fin t n d) ≡ round binary64 false (m * up e * down d + n * up d * down e) (down e * down d)
unfolding add sum
add-plain m e false n d h = refl
add-plain m e true n d h =
    plus-zero (m * up e * down d) (n * up d * down e) (down e * down d)
    (ap (λ (k : ℕ). k * up d * down e) (h refl) ∙ ap (λ (k : ℕ). k * down e) (zero-mul (up d)) ∙ zero-mul (down e))
