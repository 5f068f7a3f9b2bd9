-- The digits of a number have that number as their value, and no 0 stands before them. Assumes nothing.
use mathlib.Core.Path.{◌≡◌, refl, sym, ap, ap₂, ◌∙◌}
use mathlib.Core.Logic.{⊎_elim}
use mathlib.Core.Bool.{Bool, cond}
use mathlib.Core.List.{List, [], ◌∷◌, ◌++◌}
use Prim.Native.Nat.{ℕ, zero, suc, ◌+◌, ◌-◌, ◌*◌, ◌/◌, ◌%◌, ◌^◌, ◌≤◌, ◌<◌}
use native.Mathlib.Nat.{pow-suc}
use native.Mathlib.Omega.{arith}
use borrow.Author.Tests.{ne_eqb}
use lib.IntN.{ℤ, pos, negsuc, neg_ℤ, nat_abs}
use lib.ListN.{length, get_or, take, length-append, get_or-append}
use lib.Seq.{get_or-append_seam, get_or-take, take-suc, take-length, length-take-le}
use Rattle.paper.proofs.Logic.{lt-or-ge}
use Rattle.job.specs.Listing.{decimal, digits, signed}
use Rattle.job.specs.Digits.{read_from, read_digits, read_signed, Decimal}
use Rattle.job.proofs.Texts.{decimal-one, decimal-next}

-- ---- one digit, and one more

read_more : (v : ℕ) (l : List ℕ) (b : ℕ) → read_from v (l ++ (b ∷ [])) ≡ read_from v l * 10 + (b - 48)
unfolding read_from
read_more v [] b = refl
read_more v (c ∷ l) b = read_more (v * 10 + (c - 48)) l b

-- ---- the value

one_value : (n : ℕ) → n < 10 → read_digits ((48 + n) ∷ []) ≡ n
unfolding read_from
one_value n h = omega arith

decimal-value : (f n : ℕ) → n < 10 ^ suc f → read_digits (decimal f n) ≡ n
decimal-value zero n h = ap read_digits (decimal-one 0 n (omega arith)) ∙ one_value n (omega arith)
decimal-value (suc f) n h =
    ⊎_elim (λ (l : n < 10). ap read_digits (decimal-one (suc f) n l) ∙ one_value n l)
    (λ (g : 10 ≤ n).
    let e = ap read_digits (decimal-next f n g) ∙ read_more 0 (decimal f (n / 10)) (48 + n % 10) in
    omega (arith, e, decimal-value f (n / 10) (omega (arith, pow-suc 10 (suc f)))))
    (lt-or-ge n 10)

-- ---- the form

one-decimal : (n : ℕ) → n < 10 → Decimal ((48 + n) ∷ [])
one-decimal n h = record {
  some = omega arith;
  each = λ k l.
      let z : k ≡ 0 = omega arith in
      let e : get_or ((48 + n) ∷ []) k 0 ≡ 48 + n = ap (λ (j : ℕ). get_or ((48 + n) ∷ []) j 0) z in
      (omega arith, omega arith);
  lead = λ l e. omega arith;
}

-- a digit after a number that is not 0
more-decimal : (l : List ℕ) (b : ℕ) → Decimal l → (get_or l 0 0 ≡ 48 → ⊥) → 48 ≤ b → b ≤ 57 → Decimal (l ++ (b ∷ []))
more-decimal l b D n p q = record {
  some = omega (arith, length-append l (b ∷ []));
  each = λ k h.
      ⊎_elim (λ (g : k < length l). let e = get_or-append l (b ∷ []) 0 k g in let d = D.each k g in (omega arith, omega arith))
      (λ (g : length l ≤ k).
      let z : k ≡ length l = omega (arith, length-append l (b ∷ [])) in
      let e : get_or (l ++ (b ∷ [])) k 0 ≡ b = ap (λ (j : ℕ). get_or (l ++ (b ∷ [])) j 0) z ∙ get_or-append_seam l b [] 0 in
      (omega arith, omega arith))
      (lt-or-ge k (length l));
  lead = λ h e. n (sym (get_or-append l (b ∷ []) 0 0 D.some) ∙ e);
}

decimal-form : (f n : ℕ) → n < 10 ^ suc f → Decimal (decimal f n) × (0 < n → get_or (decimal f n) 0 0 ≡ 48 → ⊥)
decimal-form zero n h = rw (decimal-one 0 n (omega arith)) (one-decimal n (omega arith), λ z e. omega arith)
decimal-form (suc f) n h =
    ⊎_elim (λ (l : n < 10). rw (decimal-one (suc f) n l) (one-decimal n l, λ z e. omega arith))
    (λ (g : 10 ≤ n).
    let r = decimal-form f (n / 10) (omega (arith, pow-suc 10 (suc f))) in
    let lead = r.1 (omega arith) in
    rw (decimal-next f n g) (
      more-decimal (decimal f (n / 10)) (48 + n % 10) r.0 lead (omega arith) (omega arith),
      λ z e. lead (sym (get_or-append (decimal f (n / 10)) ((48 + n % 10) ∷ []) 0 0 r.0.some) ∙ e),
    ))
    (lt-or-ge n 10)

-- ---- no other text has that value and that form

read_below : (v : ℕ) (l : List ℕ) → v ≤ read_from v l
unfolding read_from
read_below v [] = omega arith
read_below v (b ∷ l) = omega (arith, read_below (v * 10 + (b - 48)) l)

-- digits that don't begin with 0 stand for a number above 0
read_some : (l : List ℕ) → Decimal l → (get_or l 0 0 ≡ 48 → ⊥) → 1 ≤ read_digits l
unfolding read_from
read_some [] D n = absurd (omega (arith, D.some))
read_some (b ∷ l) D n =
    let d = D.each 0 (omega arith) in
    ⊎_elim (λ (h : 48 < b). omega (arith, read_below (0 * 10 + (b - 48)) l)) (λ (h : b ≤ 48). absurd (n (omega arith))) (lt-or-ge 48 b)

one_only : (f : ℕ) (l : List ℕ) → Decimal l → length l ≡ 1 → decimal f (read_digits l) ≡ l
unfolding read_from
one_only f [] D e = absurd (omega arith)
one_only f (b ∷ []) D e =
    let d = D.each 0 (omega arith) in
    let z : 48 + (0 * 10 + (b - 48)) ≡ b = omega arith in
    decimal-one f (0 * 10 + (b - 48)) (omega arith) ∙ ap (λ (k : ℕ). k ∷ []) z
one_only f (b ∷ (c ∷ l)) D e = absurd (omega arith)

-- all digits but the last are decimal too
front-decimal : (l : List ℕ) (k : ℕ) → Decimal l → length l ≡ suc k → 1 ≤ k → Decimal (take k l)
front-decimal l k D e h =
    let n = length-take-le k l (omega arith) in
    record {
      some = omega arith;
      each = λ j g. let q = get_or-take k l j 0 (omega arith) in let d = D.each j (omega arith) in (omega arith, omega arith);
      lead = λ g q. D.lead (omega arith) (sym (get_or-take k l 0 0 (omega arith)) ∙ q);
    }

decimal-only : (f : ℕ) (l : List ℕ) → Decimal l → length l ≤ suc f → decimal f (read_digits l) ≡ l
decimal-only zero l D h = one_only 0 l D (omega (arith, D.some))
decimal-only (suc f) l D h =
    ⊎_elim (λ (g : length l < 2). one_only (suc f) l D (omega (arith, D.some)))
    (λ (g : 2 ≤ length l).
    let k = length l - 1 in
    let w : length l ≡ suc k = omega arith in
    let m = take k l in
    let b = get_or l k 0 in
    let e : l ≡ m ++ (b ∷ []) = sym (ap (λ (j : ℕ). take j l) (sym w) ∙ take-length l) ∙ take-suc l k 0 (omega arith) in
    let M = front-decimal l k D w (omega arith) in
    let n = length-take-le k l (omega arith) in
    let v = read_some m M (λ q. D.lead (omega arith) (sym (get_or-take k l 0 0 (omega arith)) ∙ q)) in
    let r : read_digits l ≡ read_digits m * 10 + (b - 48) = ap read_digits e ∙ read_more 0 m b in
    let d = D.each k (omega arith) in
    let q : read_digits l / 10 ≡ read_digits m = omega arith in
    let t : 48 + read_digits l % 10 ≡ b = omega arith in
    decimal-next f (read_digits l) (omega arith)
    ∙ ap₂ (λ (x : List ℕ) (y : ℕ). x ++ (y ∷ [])) (ap (decimal f) q ∙ decimal-only f m M (omega arith)) t ∙ sym e)
    (lt-or-ge (length l) 2)

-- ---- digits

-- reading the digits of n gives n back
pub digits_value : (n : ℕ) → n < 10 ^ 20 → read_digits (digits n) ≡ n
unfolding digits
digits_value n h = decimal-value 19 n h

-- they are decimal digits, with no 0 before them but that of 0 itself
pub digits_decimal : (n : ℕ) → n < 10 ^ 20 → Decimal (digits n)
unfolding digits
digits_decimal n h = (decimal-form 19 n h).0

-- and the only ones of that value
pub digits-only : (l : List ℕ) → Decimal l → length l ≤ 20 → digits (read_digits l) ≡ l
unfolding digits
digits-only l D h = decimal-only 19 l D h

-- two numbers with the same digits are equal
pub digits-one : (n m : ℕ) → n < 10 ^ 20 → m < 10 ^ 20 → digits n ≡ digits m → n ≡ m
digits-one n m h g e = sym (digits_value n h) ∙ ap read_digits e ∙ digits_value m g

-- ---- with a sign

read-minus : (l : List ℕ) → read_signed (45 ∷ l) ≡ neg_ℤ (pos (read_digits l))
unfolding read_signed
read-minus l = refl

read_plain : (l : List ℕ) → Decimal l → read_signed l ≡ pos (read_digits l)
unfolding read_signed
read_plain [] D = absurd (omega (arith, D.some))
read_plain (b ∷ l) D =
    let d = D.each 0 (omega arith) in
    ap (λ (t : Bool). cond t (neg_ℤ (pos (read_digits l))) (pos (read_digits (b ∷ l)))) (ne_eqb b 45 (λ e. omega arith))

pub signed-value : (z : ℤ) → nat_abs z < 10 ^ 20 → read_signed (signed z) ≡ z
unfolding signed
signed-value (pos n) h = read_plain (digits n) (digits_decimal n h) ∙ ap pos (digits_value n h)
signed-value (negsuc n) h = read-minus (digits (suc n)) ∙ ap (λ (k : ℕ). neg_ℤ (pos k)) (digits_value (suc n) (omega arith))

pub signed-one : (x z : ℤ) → nat_abs x < 10 ^ 20 → nat_abs z < 10 ^ 20 → signed x ≡ signed z → x ≡ z
signed-one x z h g e = sym (signed-value x h) ∙ ap read_signed e ∙ signed-value z g
