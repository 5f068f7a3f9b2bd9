-- Laws of what is listed: decimal digits, lines. Assumes nothing.
use mathlib.Core.Path.{◌≡◌, refl, sym, ap, ◌∙◌}
use mathlib.Core.Logic.{⊎_elim}
use mathlib.Core.Bool.{Bool, cond}
use mathlib.Core.List.{List, [], ◌∷◌, ◌++◌}
use Prim.Native.Nat.{ℕ, zero, suc, ◌+◌, ◌/◌, ◌%◌, ◌^◌, ◌≤◌, ◌<◌}
use native.Mathlib.Nat.{pow-suc}
use native.Mathlib.Numerals.{add-one}
use native.Mathlib.Omega.{arith}
use borrow.Author.Tests.{lt-ltb, le-ltb, eq-eqb, ne_eqb}
use lib.Dec.{eqb, lit<}
use lib.ListN.{length, length-append}
use Rattle.paper.proofs.Logic.{below_suc, lt-or-ge}
use Rattle.records.specs.Puts.{Wrote}
use Rattle.job.specs.Listing.{decimal, digits, owner_text, answer_letter, head_text, place_text, part_text, refusal_line, lines}
use Rattle.records.proofs.Numbers.{below_power}
use Rattle.records.proofs.Puts.{wrote-length, wrote_none, wrote_then, wrote-same}

-- ---- decimal digits

-- decimal f n is one digit, or digits and one more
pub decimal-one : (f n : ℕ) → n < 10 → decimal f n ≡ (48 + n) ∷ []
unfolding decimal
decimal-one zero n h = refl
decimal-one (suc f) n h = ap (λ (b : Bool). cond b ((48 + n) ∷ []) (decimal f (n / 10) ++ ((48 + n % 10) ∷ []))) (lt-ltb n 10 h)

pub decimal-next : (f n : ℕ) → 10 ≤ n → decimal (suc f) n ≡ decimal f (n / 10) ++ ((48 + n % 10) ∷ [])
unfolding decimal
decimal-next f n h = ap (λ (b : Bool). cond b ((48 + n) ∷ []) (decimal f (n / 10) ++ ((48 + n % 10) ∷ []))) (le-ltb n 10 h)

-- more room for digits changes nothing
decimal-fuel : (f g n : ℕ) → n < 10 ^ suc f → n < 10 ^ suc g → decimal f n ≡ decimal g n
decimal-fuel zero g n h k = decimal-one 0 n h ∙ sym (decimal-one g n h)
decimal-fuel (suc f) zero n h k = decimal-one (suc f) n k ∙ sym (decimal-one 0 n k)
decimal-fuel (suc f) (suc g) n h k =
    ⊎_elim
    (λ (l : n < 10). decimal-one (suc f) n l ∙ sym (decimal-one (suc g) n l))
    (λ (m : 10 ≤ n).
    decimal-next f n m
    ∙ ap (λ (l : List ℕ). l ++ ((48 + n % 10) ∷ []))
    (decimal-fuel f g (n / 10) (omega (arith, pow-suc 10 (suc f))) (omega (arith, pow-suc 10 (suc g))))
    ∙ sym (decimal-next g n m))
    (lt-or-ge n 10)

pub digits-small : (n : ℕ) → n < 10 → digits n ≡ (48 + n) ∷ []
unfolding digits
digits-small n h = decimal-one 19 n h

pub digits_more : (n : ℕ) → 10 ≤ n → n < 10 ^ 20 → digits n ≡ digits (n / 10) ++ ((48 + n % 10) ∷ [])
unfolding digits
digits_more n h k =
    decimal-next 18 n h ∙ ap (λ (l : List ℕ). l ++ ((48 + n % 10) ∷ [])) (decimal-fuel 18 19 (n / 10) (omega arith) (omega arith))

decimal-le : (f n : ℕ) → length (decimal f n) ≤ suc f
unfolding decimal
decimal-le zero n = omega arith
decimal-le (suc f) n =
    ⊎_elim
    (λ (l : n < 10). omega (arith, ap length (decimal-one (suc f) n l)))
    (λ (g : 10 ≤ n). omega (
      arith,
      ap length (decimal-next f n g),
      length-append (decimal f (n / 10)) ((48 + n % 10) ∷ []),
      decimal-le f (n / 10),
    ))
    (lt-or-ge n 10)

-- a number below 10 ^ (k + 1) has at most k + 1 digits
pub digits_le : (k n : ℕ) → n < 10 ^ suc k → k ≤ 19 → length (digits n) ≤ suc k
unfolding digits
digits_le k n h g =
    omega (arith, decimal-le k n, ap length (decimal-fuel 19 k n (below_power 10 n (suc k) 20 (lit< tt) h (omega arith)) h))

-- ---- owners

pub owner-none : (w : ℕ) → w ≡ 255 → owner_text w ≡ 45 ∷ []
unfolding owner_text
owner-none w e = ap (λ (b : Bool). cond b (45 ∷ []) (digits w)) (eq-eqb w 255 e)

pub owner-some : (w : ℕ) → (w ≡ 255 → ⊥) → owner_text w ≡ digits w
unfolding owner_text
owner-some w e = ap (λ (b : Bool). cond b (45 ∷ []) (digits w)) (ne_eqb w 255 e)

-- the letters of the answers
pub letter-acted : (a : ℕ) → a ≡ 0 → 65 ≡ answer_letter a
unfolding answer_letter
letter-acted a e = sym (ap (λ (b : Bool). cond b 65 (cond (eqb a 1) 78 67)) (eq-eqb a 0 e))

pub letter-none : (a : ℕ) → (a ≡ 0 → ⊥) → a ≡ 1 → 78 ≡ answer_letter a
unfolding answer_letter
letter-none a n e = sym (ap (λ (b : Bool). cond b 65 (cond (eqb a 1) 78 67)) (ne_eqb a 0 n)
    ∙ ap (λ (b : Bool). cond b 78 67) (eq-eqb a 1 e))

pub letter-outside : (a : ℕ) → (a ≡ 0 → ⊥) → (a ≡ 1 → ⊥) → 67 ≡ answer_letter a
unfolding answer_letter
letter-outside a n e = sym (ap (λ (b : Bool). cond b 65 (cond (eqb a 1) 78 67)) (ne_eqb a 0 n)
    ∙ ap (λ (b : Bool). cond b 78 67) (ne_eqb a 1 e))

-- ---- a loop that writes the lines of f

pub record Going (f : ℕ → List ℕ) (at : ℕ) (x : List ℕ) (k next : ℕ) (y : List ℕ) : Type 0 where
  pub wrote : Wrote (lines f k) at x next y
  pub same : length y ≡ length x

pub going_start : (f : ℕ → List ℕ) (at : ℕ) (x : List ℕ) → Going f at x 0 at x
unfolding lines
going_start f at x = record { wrote = wrote_none at x; same = refl }

-- the lines up to one of them are a part of all
lines-part : (f : ℕ → List ℕ) (k n : ℕ) → k < n → length (lines f k) + length (f k) ≤ length (lines f n)
unfolding lines
lines-part f k zero h = absurd (omega arith)
lines-part f k (suc n) h =
    let e = length-append (lines f n) (f n) in
    below_suc _ h (λ q. omega (arith, e, ap (λ (j : ℕ). length (lines f j)) q, ap (λ (j : ℕ). length (f j)) q))
    (λ l. omega (arith, e, lines-part f k n l))

-- where there is room for all lines, there is room for the next one
pub going-room : {f : ℕ → List ℕ} {at : ℕ} {x : List ℕ} {k next : ℕ} {y : List ℕ} → Going f at x k next y → (n : ℕ) → k < n
    → at + length (lines f n) ≤ length x → next + length (f k) ≤ length y
going-room {f} {k = k} g n h r = omega (arith, g.wrote.ends, g.same, lines-part f k n h)

pub going_more : {f : ℕ → List ℕ} {at : ℕ} {x : List ℕ} {k next : ℕ} {y : List ℕ} {end : ℕ} {z : List ℕ} → Going f at x k next y
    → Wrote (f k) next y end z → (n : ℕ) → k < n → at + length (lines f n) ≤ length x → Going f at x (k + 1) end z
unfolding lines
going_more {f} {at} {x} {k} g w n h r =
    let e : lines f k ++ f k ≡ lines f (k + 1) = ap (lines f) (sym (add-one k)) in
    record {
      wrote = wrote-same e (wrote_then g.wrote w (omega (arith, lines-part f k n h)));
      same = wrote-length w (going-room g n h r) ∙ g.same;
    }

pub going_end : {f : ℕ → List ℕ} {at : ℕ} {x : List ℕ} {k next : ℕ} {y : List ℕ} → Going f at x k next y → (n : ℕ) → k ≡ n
    → Wrote (lines f n) at x next y
going_end {f} g n e = wrote-same (ap (lines f) e) g.wrote

-- ---- the line of a refusal

pub head-length : (letter n last : ℕ) → length (head_text letter n last) ≡ 3 + length (digits n)
unfolding head_text
head-length letter n last = omega (arith, length-append (digits n) (last ∷ []))

module _ (part place second : ℕ) where
  pub place-two : part ≡ 4 → digits place ++ (32 ∷ []) ++ (digits second ++ (10 ∷ [])) ≡ place_text part place second
  unfolding place_text
  place-two e =
      sym (ap (λ (b : Bool). cond b (digits place ++ (32 ∷ []) ++ (digits second ++ (10 ∷ []))) (digits place ++ (10 ∷ []))) (eq-eqb part 4 e))

  pub place-one : (part ≡ 4 → ⊥) → digits place ++ (10 ∷ []) ≡ place_text part place second
  unfolding place_text
  place-one n =
      sym (ap (λ (b : Bool). cond b (digits place ++ (32 ∷ []) ++ (digits second ++ (10 ∷ []))) (digits place ++ (10 ∷ []))) (ne_eqb part 4 n))

  pub two-length : part ≡ 4 → length (digits place) + 1 + length (digits second) + 1 ≡ length (place_text part place second)
  two-length e =
      omega (
        arith,
        ap length (place-two e),
        length-append (digits place ++ (32 ∷ [])) (digits second ++ (10 ∷ [])),
        length-append (digits place) (32 ∷ []),
        length-append (digits second) (10 ∷ []),
      )

  pub one-length : (part ≡ 4 → ⊥) → length (digits place) + 1 ≡ length (place_text part place second)
  one-length n = omega (arith, ap length (place-one n), length-append (digits place) (10 ∷ []))

  part_length : length (part_text part place second) ≡ length (digits part) + 1 + length (place_text part place second)
  unfolding part_text
  part_length =
      omega (
        arith,
        length-append (digits part ++ (32 ∷ [])) (place_text part place second),
        length-append (digits part) (32 ∷ []),
      )

  module _ (number : ℕ) where
    abbrev line : List ℕ
    line = refusal_line (record { number = number; part = part; place = place; second = second })

    pub line_plain : part ≡ 0 → head_text 82 number 10 ≡ line
    unfolding refusal_line
    line_plain e =
        sym (ap (λ (b : Bool). cond b (head_text 82 number 10) (head_text 82 number 46 ++ part_text part place second)) (eq-eqb part 0 e))

    pub line-part : (part ≡ 0 → ⊥) → head_text 82 number 46 ++ part_text part place second ≡ line
    unfolding refusal_line
    line-part n =
        sym (ap (λ (b : Bool). cond b (head_text 82 number 10) (head_text 82 number 46 ++ part_text part place second)) (ne_eqb part 0 n))

    pub plain-length : part ≡ 0 → length (digits number) + 3 ≡ length line
    plain-length e = omega (arith, ap length (line_plain e), head-length 82 number 10)

    pub placed-length : (part ≡ 0 → ⊥)
        → length (digits number) + 3 + length (digits part) + 1 + length (place_text part place second) ≡ length line
    placed-length n =
        omega (
          arith,
          ap length (line-part n),
          length-append (head_text 82 number 46) (part_text part place second),
          head-length 82 number 46,
          part_length,
        )

-- ---- the digits of a number, counted by tenths

pub record Counting (n count rest : ℕ) : Type 0 where
  pub counted : count + length (digits rest) ≡ length (digits n) + 1
  pub lower : rest ≤ n

pub counting-start : (n : ℕ) → Counting n 1 n
counting-start n = record { counted = omega arith; lower = omega arith }

pub counting_more : (n count rest : ℕ) → n < 2 ^ 64 → 10 ≤ rest → Counting n count rest → Counting n (count + 1) (rest / 10)
counting_more n count rest b h C =
    let l = C.lower in
    record {
      counted = omega (
        arith,
        C.counted,
        ap length (digits_more rest h (omega arith)),
        length-append (digits (rest / 10)) ((48 + rest % 10) ∷ []),
      );
      lower = omega arith;
    }

pub counting-end : (n count rest : ℕ) → n < 2 ^ 64 → rest < 10 → Counting n count rest → (count ≡ length (digits n)) × (count ≤ 20)
counting-end n count rest b h C =
    let e : count ≡ length (digits n) = omega (arith, C.counted, ap length (digits-small rest h)) in
    (e, omega (arith, e, digits_le 19 n (omega arith) (omega arith)))

pub counting-few : (n count rest : ℕ) → n < 2 ^ 64 → Counting n count rest → count ≤ 21
counting-few n count rest b C = omega (arith, C.counted, digits_le 19 n (omega arith) (omega arith))
