-- Slots written: what each slot is then, and that a word merged is its slots written one by one. Assumes nothing.
use mathlib.Core.Path.{◌≡◌, refl, sym, ap, ap₂, ◌∙◌}
use mathlib.Core.Bool.{Bool, true, false, ◌&&◌, cond}
use mathlib.Core.List.{List}
use mathlib.Core.Logic.{⊎_elim}
use Prim.Native.Nat.{ℕ, zero, suc, ◌+◌, ◌-◌, ◌*◌, ◌/◌, ◌%◌, ◌^◌, ◌≤◌, ◌<◌}
use native.Mathlib.Nat.{le_trans, le_of_eq, lt_of_le_of_lt, zero-mul}
use native.Mathlib.Decide.{ℕ_discrete}
use native.Mathlib.Omega.{arith}
use borrow.Author.Tests.{eq-eqb, ne_eqb, lt-ltb, le-ltb, le-leb, lt-leb}
use lib.Bits.{bit_and, bit_or, and_high, and_le_l, or_add_and, or_lt}
use lib.Pow.{pow-add, pow-lt}
use lib.Dec.{eqb, leb, ltb, eqb-zero-suc, eqb-suc-zero, eqb-suc-suc}
use lib.ListN.{length, get_or, set, take, drop, replicate, get_or-replicate, length-replicate, length-set, get_or-eq_default}
use lib.Seq.{get_or-set_same, get_or-set_other, get_or-take, get_or-drop, set-set, set-get_or, ext_get_or}
use Rattle.paper.specs.Bits.{bit_of}
use Rattle.paper.proofs.Bits.{bit-lt, bit-none, bit-zero, bit-suc, shift_suc, bit-ext}
use Rattle.paper.proofs.Logic.{lt-or-ge}
use Rattle.slotset.specs.Slots.{Bits, slot, with_bit, put_slot, put_slots, value_of}
use Rattle.slotset.specs.Inside.{Merged}

-- ---- one bit of a word

and_one : (w k : ℕ) → bit_and w (2 ^ k) ≡ bit_of w k * 2 ^ k
unfolding bit_of
and_one w k =
    let e : 2 ^ (1 + k) - 2 ^ k ≡ 2 ^ k = omega (arith, pow-add 2 1 k) in
    ap (bit_and w) (sym e) ∙ and_high w 1 k

pub or-one : (w k : ℕ) → bit_or w (2 ^ k) ≡ with_bit 1 w k
unfolding with_bit
or-one w k = omega (arith, or_add_and w (2 ^ k), and_one w k, and_le_l w (2 ^ k))

-- ---- the meaning of `with_bit`, by the lowest bit and the half

bit-mul-le : (w k : ℕ) → bit_of w k * 2 ^ k ≤ w
bit-mul-le w k = le_trans (le_of_eq (sym (and_one w k))) (and_le_l w (2 ^ k))

with-zero : (v w : ℕ) → with_bit v w zero ≡ w / 2 * 2 + v
unfolding with_bit
with-zero v w = omega (arith, bit-zero w)

with-suc : (v w s : ℕ) → with_bit v w (suc s) ≡ with_bit v (w / 2) s * 2 + w % 2
unfolding with_bit
with-suc v w s =
    let b = bit_of (w / 2) s in
    let e : bit_of w (suc s) * 2 ^ suc s ≡ b * 2 ^ s * 2 = ap (λ (x : ℕ). x * 2 ^ suc s) (bit-suc w s) ∙ shift_suc b s in
    omega (arith, e, shift_suc v s, bit-mul-le (w / 2) s)

pub with-bit : (v w s k : ℕ) → v < 2 → bit_of (with_bit v w s) k ≡ cond (eqb k s) v (bit_of w k)
with-bit v w zero zero h = simp (with-zero v w, bit-zero) (omega arith)
with-bit v w zero (suc k) h = let e : (w / 2 * 2 + v) / 2 ≡ w / 2 = omega arith in simp (with-zero v w, bit-suc, e, eqb-suc-zero)
with-bit v w (suc s) zero h = simp (with-suc v w s, bit-zero, eqb-zero-suc) (omega arith)
with-bit v w (suc s) (suc k) h =
    let e : (with_bit v (w / 2) s * 2 + w % 2) / 2 ≡ with_bit v (w / 2) s = omega arith in
    simp (with-suc v w s, bit-suc, e, eqb-suc-suc) (with-bit v (w / 2) s k h)

with_none : (w k : ℕ) → with_bit 0 w k ≤ w
unfolding with_bit
with_none w k = omega (arith, zero-mul (2 ^ k))

pub with-lt : (v w k : ℕ) → v < 2 → w < 2 ^ 64 → k < 64 → with_bit v w k < 2 ^ 64
with-lt zero w k hv hw hk = lt_of_le_of_lt (with_none w k) hw
with-lt (suc zero) w k hv hw hk = rw (sym (or-one w k)) (or_lt 64 w (2 ^ k) hw (pow-lt hk))
with-lt (suc (suc v)) w k hv hw hk = absurd (omega arith)

-- ---- the slots of one word, written one by one

-- the word with each of the n bits from s on at the value that h gives it
unfoldable with_bits : (ℕ → ℕ) → ℕ → ℕ → ℕ → ℕ
with_bits h w s zero = w
with_bits h w s (suc n) = with_bit (h (s + n)) (with_bits h w s n) (s + n)

bits-lt : (h : ℕ → ℕ) (w s n : ℕ) → Bits h → w < 2 ^ 64 → s + n ≤ 64 → with_bits h w s n < 2 ^ 64
unfolding with_bits
bits-lt h w s zero hv hw g = hw
bits-lt h w s (suc n) hv hw g = with-lt (h (s + n)) _ (s + n) (hv (s + n)) (bits-lt h w s n hv hw (omega arith)) (omega arith)

-- whether k is one of the n numbers from s on, one more
inside-more : (s n k : ℕ) → (k ≡ s + n → ⊥) → leb s k && ltb k (s + n) ≡ leb s k && ltb k (s + suc n)
inside-more s n k ne =
    ⊎_elim
    (λ (x : k < s + n). simp (lt-ltb k (s + n) x, lt-ltb k (s + suc n) (omega arith)))
    (λ (x : s + n ≤ k). simp (le-ltb k (s + n) x, le-ltb k (s + suc n) (omega arith)))
    (lt-or-ge k (s + n))

inside-last : (s n : ℕ) → leb s (s + n) && ltb (s + n) (s + suc n) ≡ true
inside-last s n = simp (le-leb s (s + n) (omega arith), lt-ltb (s + n) (s + suc n) (omega arith))

bits-bit : (h : ℕ → ℕ) (w s n k : ℕ) → Bits h
    → bit_of (with_bits h w s n) k ≡ cond (leb s k && ltb k (s + n)) (h k) (bit_of w k)
unfolding with_bits
bits-bit h w s zero k hv =
    ⊎_elim
    (λ (x : k < s). simp (lt-leb s k x))
    (λ (x : s ≤ k). simp (le-leb s k x, le-ltb k (s + 0) (omega arith)))
    (lt-or-ge k s)
bits-bit h w s (suc n) k hv = elim (ℕ_discrete k (s + n)) [
  | yes q ↦ with-bit (h (s + n)) (with_bits h w s n) (s + n) k (hv (s + n))
      ∙ rw (eq-eqb k (s + n) q)
      (ap h (sym q) ∙ sym (ap (λ (b : Bool). cond b (h k) (bit_of w k)) (ap (λ (x : ℕ). leb s x && ltb x (s + suc n)) q ∙ inside-last s n)))
  | no m ↦ with-bit (h (s + n)) (with_bits h w s n) (s + n) k (hv (s + n))
      ∙ rw (ne_eqb k (s + n) m) (bits-bit h w s n k hv ∙ ap (λ (b : Bool). cond b (h k) (bit_of w k)) (inside-more s n k m))
]

merged-bits : (h : ℕ → ℕ) (w x s e r : ℕ) → Bits h → w < 2 ^ 64 → r < 2 ^ 64 → s ≤ e → e ≤ 64
    → ((k : ℕ) → s ≤ k → k < e → h k ≡ bit_of x k) → Merged w x s e r → r ≡ with_bits h w s (e - s)
merged-bits h w x s e r hv hw hr g l same m =
    let q : s + (e - s) ≡ e = omega arith in
    bit-ext 64 r (with_bits h w s (e - s)) hr (bits-lt h w s (e - s) hv hw (omega arith))
    (λ k b. m k b ∙ sym (bits-bit h w s (e - s) k hv ∙ ap (λ (z : ℕ). cond (leb s k && ltb k z) (h k) (bit_of w k)) q
    ∙ ⊎_elim
    (λ (y : k < s). simp (lt-leb s k y))
    (λ (y : s ≤ k).
    ⊎_elim
    (λ (z : k < e). simp (le-leb s k y, lt-ltb k e z) (same k y z))
    (λ (z : e ≤ k). simp (le-leb s k y, le-ltb k e z))
    (lt-or-ge k e))
    (lt-or-ge k s)))

module _ (g : ℕ → ℕ) (b j s : ℕ) (ws : List ℕ) (room : b + j < length ws) where
  one_word : (n : ℕ) → s + n ≤ 64
      → put_slots g b (j * 64 + s) n ws ≡ set ws (b + j) (with_bits (λ k. g (j * 64 + k)) (get_or ws (b + j) 0) s n)
  unfolding put_slots put_slot with_bits
  one_word zero h = sym (set-get_or ws (b + j) 0)
  one_word (suc n) h =
      let q : (j * 64 + s + n) / 64 ≡ j = omega arith in
      let m : (j * 64 + s + n) % 64 ≡ s + n = omega arith in
      let v : j * 64 + s + n ≡ j * 64 + (s + n) = omega arith in
      let ih = one_word n (omega arith) in
      let x = with_bits (λ k. g (j * 64 + k)) (get_or ws (b + j) 0) s n in
      simp (q, m) (ap (λ (l : List ℕ). set l (b + j) (with_bit (g (j * 64 + s + n)) (get_or l (b + j) 0) (s + n))) ih
      ∙ set-set ws (b + j) x _
      ∙ ap₂ (λ (y z : ℕ). set ws (b + j) (with_bit (g z) y (s + n))) (get_or-set_same ws (b + j) x 0 room) v)

  -- a merged word is its slots written
  pub word-put : (x e r : ℕ) → Bits g → get_or ws (b + j) 0 < 2 ^ 64 → r < 2 ^ 64 → s ≤ e → e ≤ 64
      → ((k : ℕ) → s ≤ k → k < e → g (j * 64 + k) ≡ bit_of x k) → Merged (get_or ws (b + j) 0) x s e r
      → set ws (b + j) r ≡ put_slots g b (j * 64 + s) (e - s) ws
  word-put x e r hv hw hr h l same m =
      ap (set ws (b + j)) (merged-bits (λ k. g (j * 64 + k)) (get_or ws (b + j) 0) x s e r (λ k. hv (j * 64 + k)) hw hr h l same m)
      ∙ sym (one_word (e - s) (omega arith))

-- ---- many slots

pub length-puts : (g : ℕ → ℕ) (b from n : ℕ) (ws : List ℕ) → length (put_slots g b from n ws) ≡ length ws
unfolding put_slots put_slot
length-puts g b from zero ws = refl
length-puts g b from (suc n) ws = length-set (put_slots g b from n ws) _ _ ∙ length-puts g b from n ws

pub puts_none : (g : ℕ → ℕ) (b from : ℕ) (ws : List ℕ) → put_slots g b from 0 ws ≡ ws
unfolding put_slots
puts_none g b from ws = refl

-- one slot
puts_first : (g : ℕ → ℕ) (b i : ℕ) (ws : List ℕ) → put_slots g b i (suc 0) ws ≡ put_slot b i (g i) ws
unfolding put_slots
puts_first g b i ws = let z : i + 0 ≡ i = omega arith in ap (λ (x : ℕ). put_slot b x (g x) ws) z

pub puts_one : (v b i : ℕ) (ws : List ℕ) → put_slots (λ _. v) b i (i + 1 - i) ws ≡ put_slot b i v ws
puts_one v b i ws =
    let n : i + 1 - i ≡ suc 0 = omega arith in
    ap (λ (x : ℕ). put_slots (λ _. v) b i x ws) n ∙ puts_first (λ _. v) b i ws

-- first some, then those after them
pub puts-add : (g : ℕ → ℕ) (b from n m : ℕ) (ws : List ℕ)
    → put_slots g b from (n + m) ws ≡ put_slots g b (from + n) m (put_slots g b from n ws)
unfolding put_slots
puts-add g b from n zero ws = let e : n + 0 ≡ n = omega arith in ap (λ (x : ℕ). put_slots g b from x ws) e
puts-add g b from n (suc m) ws =
    let e : n + suc m ≡ suc (n + m) = omega arith in
    let q : from + (n + m) ≡ from + n + m = omega arith in
    ap (λ (x : ℕ). put_slots g b from x ws) e
    ∙ ap₂ (λ (x : ℕ) (l : List ℕ). put_slot b x (g x) l) q (puts-add g b from n m ws)

pub puts-same : (g h : ℕ → ℕ) (b from n : ℕ) (ws : List ℕ) → ((k : ℕ) → from ≤ k → k < from + n → g k ≡ h k)
    → put_slots g b from n ws ≡ put_slots h b from n ws
unfolding put_slots
puts-same g h b from zero ws f = refl
puts-same g h b from (suc n) ws f =
    ap₂ (λ (v : ℕ) (l : List ℕ). put_slot b (from + n) v l) (f (from + n) (omega arith) (omega arith))
    (puts-same g h b from n ws (λ k x y. f k x (omega arith)))

-- one turn of a loop that writes word by word
pub turn-puts : (g : ℕ → ℕ) (b from j at e r x : ℕ) (ws₀ ws : List ℕ) → from ≤ at → at / 64 ≡ j → at % 64 ≤ e → e ≤ 64 → b + j < length ws
    → Bits g → get_or ws (b + j) 0 < 2 ^ 64 → r < 2 ^ 64
    → ((k : ℕ) → at % 64 ≤ k → k < e → g (j * 64 + k) ≡ bit_of x k) → Merged (get_or ws (b + j) 0) x (at % 64) e r
    → ws ≡ put_slots g b from (at - from) ws₀ → set ws (b + j) r ≡ put_slots g b from (j * 64 + e - from) ws₀
turn-puts g b from j at e r x ws₀ ws h q l t room hv hw hr same m i =
    let a : j * 64 + at % 64 ≡ at = omega arith in
    let n : j * 64 + e - from ≡ (at - from) + (e - at % 64) = omega arith in
    let c : from + (at - from) ≡ at = omega arith in
    word-put g b j (at % 64) ws room x e r hv hw hr l t same m
    ∙ ap₂ (λ (y : ℕ) (w : List ℕ). put_slots g b y (e - at % 64) w) (a ∙ sym c) i
    ∙ sym (puts-add g b from (at - from) (e - at % 64) ws₀)
    ∙ ap (λ (y : ℕ). put_slots g b from y ws₀) (sym n)

-- one more word of which the slots are put to none: all of it, or its first ones
module _ (b : ℕ) (ws₀ ws : List ℕ) where
  pub words-cleared : (j rest len r : ℕ) → rest ≤ 64 → j * 64 + rest ≡ len → b + j < length ws₀ → r < 2 ^ 64
      → Merged (get_or ws (b + j) 0) 0 0 rest r → ws ≡ put_slots (λ _. 0) b 0 (j * 64) ws₀ → get_or ws (b + j) 0 < 2 ^ 64
      → set ws (b + j) r ≡ put_slots (λ _. 0) b 0 len ws₀
  words-cleared j rest len r few l room small m e fits =
      let z : j * 64 % 64 ≡ 0 = omega arith in
      let q : j * 64 / 64 ≡ j = omega arith in
      let a : j * 64 - 0 ≡ j * 64 = omega arith in
      let n : j * 64 + rest - 0 ≡ len = omega arith in
      let long = ap length e ∙ length-puts (λ _. 0) b 0 (j * 64) ws₀ in
      turn-puts (λ _. 0) b 0 j (j * 64) rest r 0 ws₀ ws (omega arith) q (omega arith) few (omega arith) (λ k. omega arith) fits small
      (λ k x y. sym (bit-none k)) (rw z m) (e ∙ ap (λ (x : ℕ). put_slots (λ _. 0) b 0 x ws₀) (sym a))
      ∙ ap (λ (x : ℕ). put_slots (λ _. 0) b 0 x ws₀) n

pub value-lt : (b : Bool) → value_of b < 2
value-lt true = omega arith
value-lt false = omega arith

-- ---- what each slot is after

pub slot_lt : (ws : List ℕ) (b i : ℕ) → slot ws b i < 2
unfolding slot
slot_lt ws b i = bit-lt _ _

-- slot k of person p, by its place among all bits
pub place : (ws : List ℕ) (p k : ℕ) → slot ws (16 * p) k ≡ slot ws 0 (1024 * p + k)
unfolding slot
place ws p k =
    let q : 16 * p + k / 64 ≡ 0 + (1024 * p + k) / 64 = omega arith in
    let m : k % 64 ≡ (1024 * p + k) % 64 = omega arith in
    ap₂ (λ (x y : ℕ). bit_of (get_or ws x 0) y) q m

-- bits of one word, by where they stand among all bits
same_place : (b c i k : ℕ) → b + i / 64 ≡ c + k / 64 → eqb (k % 64) (i % 64) ≡ eqb (c * 64 + k) (b * 64 + i)
same_place b c i k e = elim (ℕ_discrete (k % 64) (i % 64)) [
  | yes q ↦ eq-eqb _ _ q ∙ sym (eq-eqb (c * 64 + k) (b * 64 + i) (omega arith))
  | no n ↦ ne_eqb _ _ n ∙ sym (ne_eqb (c * 64 + k) (b * 64 + i) (λ q. n (omega arith)))
]

pub slot-put : (b i v : ℕ) (ws : List ℕ) (c k : ℕ) → v < 2 → b + i / 64 < length ws
    → slot (put_slot b i v ws) c k ≡ cond (eqb (c * 64 + k) (b * 64 + i)) v (slot ws c k)
unfolding slot put_slot
slot-put b i v ws c k hv room = elim (ℕ_discrete (b + i / 64) (c + k / 64)) [
  | yes e ↦ ap (λ (x : ℕ). bit_of x (k % 64))
      (ap (λ (x : ℕ). get_or (set ws x (with_bit v (get_or ws x 0) (i % 64))) (c + k / 64) 0) e
      ∙ get_or-set_same ws (c + k / 64) _ 0 (omega arith))
      ∙ with-bit v (get_or ws (c + k / 64) 0) (i % 64) (k % 64) hv
      ∙ ap (λ (t : Bool). cond t v (bit_of (get_or ws (c + k / 64) 0) (k % 64))) (same_place b c i k e)
  | no n ↦ ap (λ (x : ℕ). bit_of x (k % 64)) (get_or-set_other ws (b + i / 64) (c + k / 64) _ 0 (λ q. n (sym q)))
      ∙ ap (λ (t : Bool). cond t v (bit_of (get_or ws (c + k / 64) 0) (k % 64)))
      (sym (ne_eqb (c * 64 + k) (b * 64 + i) (λ q. n (omega arith))))
]

-- slot k of the set at word c, after n slots from `from` on of the set at word b were written: the two by their place among all bits
pub slot-puts : (g : ℕ → ℕ) (b from n : ℕ) (ws : List ℕ) (c k : ℕ) → ((i : ℕ) → g i < 2) → b * 64 + (from + n) ≤ length ws * 64
    → slot (put_slots g b from n ws) c k
    ≡ cond (leb (b * 64 + from) (c * 64 + k) && ltb (c * 64 + k) (b * 64 + from + n)) (g (c * 64 + k - b * 64)) (slot ws c k)
unfolding put_slots
slot-puts g b from zero ws c k hv room =
    ⊎_elim
    (λ (x : c * 64 + k < b * 64 + from). simp (lt-leb (b * 64 + from) (c * 64 + k) x))
    (λ (x : b * 64 + from ≤ c * 64 + k).
    simp (le-leb (b * 64 + from) (c * 64 + k) x, le-ltb (c * 64 + k) (b * 64 + from + 0) (omega arith)))
    (lt-or-ge (c * 64 + k) (b * 64 + from))
slot-puts g b from (suc n) ws c k hv room =
    let i = from + n in
    let l = put_slots g b from n ws in
    let put = slot-put b i (g i) l c k (hv i) (omega (arith, length-puts g b from n ws)) in
    let v : b * 64 + i ≡ b * 64 + from + n = omega arith in
    elim (ℕ_discrete (c * 64 + k) (b * 64 + i)) [
      | yes q ↦ put
          ∙ ap (λ (t : Bool). cond t (g i) (slot l c k)) (eq-eqb _ _ q)
          ∙ let same : c * 64 + k - b * 64 ≡ i = omega arith in
          let inside : leb (b * 64 + from) (c * 64 + k) && ltb (c * 64 + k) (b * 64 + from + suc n) ≡ true =
          ap (λ (x : ℕ). leb (b * 64 + from) x && ltb x (b * 64 + from + suc n)) (q ∙ v) ∙ inside-last (b * 64 + from) n in
          sym (ap (λ (t : Bool). cond t (g (c * 64 + k - b * 64)) (slot ws c k)) inside ∙ ap g same)
      | no m ↦ put
          ∙ ap (λ (t : Bool). cond t (g i) (slot l c k)) (ne_eqb _ _ m)
          ∙ slot-puts g b from n ws c k hv (omega arith)
          ∙ ap (λ (t : Bool). cond t (g (c * 64 + k - b * 64)) (slot ws c k))
          (inside-more (b * 64 + from) n (c * 64 + k) (λ q. m (q ∙ sym v)))
    ]

-- the slots of the set itself
pub slot-puts-here : (g : ℕ → ℕ) (b from n : ℕ) (ws : List ℕ) (k : ℕ) → ((i : ℕ) → g i < 2) → b * 64 + (from + n) ≤ length ws * 64
    → slot (put_slots g b from n ws) b k ≡ cond (leb from k && ltb k (from + n)) (g k) (slot ws b k)
slot-puts-here g b from n ws k hv room =
    slot-puts g b from n ws b k hv room
    ∙ ap₂ (λ (t : Bool) (x : ℕ). cond t (g x) (slot ws b k)) (shifted b from n k) (let e : b * 64 + k - b * 64 ≡ k = omega arith in e)
  where
    shifted : (b from n k : ℕ) → leb (b * 64 + from) (b * 64 + k) && ltb (b * 64 + k) (b * 64 + from + n) ≡ leb from k && ltb k (from + n)
    shifted b from n k =
        ⊎_elim
        (λ (x : k < from). simp (lt-leb from k x, lt-leb (b * 64 + from) (b * 64 + k) (omega arith)))
        (λ (x : from ≤ k).
        ⊎_elim
        (λ (y : k < from + n).
        simp (
          le-leb from k x,
          le-leb (b * 64 + from) (b * 64 + k) (omega arith),
          lt-ltb k (from + n) y,
          lt-ltb (b * 64 + k) (b * 64 + from + n)
              (omega arith),
        ))
        (λ (y : from + n ≤ k).
        simp (
          le-leb from k x,
          le-leb (b * 64 + from) (b * 64 + k) (omega arith),
          le-ltb k (from + n) y,
          le-ltb (b * 64 + k) (b * 64 + from + n)
              (omega arith),
        ))
        (lt-or-ge k (from + n)))
        (lt-or-ge k from)

-- a slot of another set, all of whose slots stand before or after those written, stays
pub slot-puts-other : (g : ℕ → ℕ) (b from n : ℕ) (ws : List ℕ) (c k : ℕ) → ((i : ℕ) → g i < 2) → b * 64 + (from + n) ≤ length ws * 64
    → (b * 64 + from ≤ c * 64 + k → c * 64 + k < b * 64 + from + n → ⊥) → slot (put_slots g b from n ws) c k ≡ slot ws c k
slot-puts-other g b from n ws c k hv room out =
    slot-puts g b from n ws c k hv room
    ∙ ⊎_elim
    (λ (x : c * 64 + k < b * 64 + from). simp (lt-leb (b * 64 + from) (c * 64 + k) x))
    (λ (x : b * 64 + from ≤ c * 64 + k).
    ⊎_elim
    (λ (y : c * 64 + k < b * 64 + from + n). absurd (out x y))
    (λ (y : b * 64 + from + n ≤ c * 64 + k). simp (le-leb (b * 64 + from) (c * 64 + k) x, le-ltb (c * 64 + k) (b * 64 + from + n) y))
    (lt-or-ge (c * 64 + k) (b * 64 + from + n)))
    (lt-or-ge (c * 64 + k) (b * 64 + from))

-- ---- words are their slots

-- every word is one of 64 bits
abbrev pub Fit : List ℕ → Type 0
Fit ws = (j : ℕ) → get_or ws j 0 < 2 ^ 64

pub puts-fit : (g : ℕ → ℕ) (b from n : ℕ) (ws : List ℕ) → ((i : ℕ) → g i < 2) → Fit ws → Fit (put_slots g b from n ws)
unfolding put_slots put_slot
puts-fit g b from zero ws hv f j = f j
puts-fit g b from (suc n) ws hv f j =
    let l = put_slots g b from n ws in
    let i = from + n in
    let ih = puts-fit g b from n ws hv f in
    elim (ℕ_discrete j (b + i / 64)) [
      | yes q ↦ ⊎_elim
          (λ (x : b + i / 64 < length l). rw
          (ap (λ (y : ℕ). get_or (set l (b + i / 64) (with_bit (g i) (get_or l (b + i / 64) 0) (i % 64))) y 0) q
          ∙ get_or-set_same l (b + i / 64) _ 0 x)
          (with-lt (g i) _ (i % 64) (hv i) (ih (b + i / 64)) (omega arith)))
          (λ (x : length l ≤ b + i / 64). rw
          (get_or-eq_default (set l (b + i / 64) (with_bit (g i) (get_or l (b + i / 64) 0) (i % 64))) 0 {n = j}
          (omega (arith, length-set l (b + i / 64) (with_bit (g i) (get_or l (b + i / 64) 0) (i % 64))))) (omega arith))
          (lt-or-ge (b + i / 64) (length l))
      | no m ↦ rw (get_or-set_other l (b + i / 64) j (with_bit (g i) (get_or l (b + i / 64) 0) (i % 64)) 0 m) (ih j)
    ]

-- two lists of 64-bit words of one length with the same slots are equal
pub slots-ext : (ws vs : List ℕ) → length ws ≡ length vs → Fit ws → Fit vs → ((i : ℕ) → slot ws 0 i ≡ slot vs 0 i) → ws ≡ vs
unfolding slot
slots-ext ws vs e hw hv f =
    ext_get_or 0 ws vs e (λ j g. bit-ext 64 _ _ (hw j) (hv j) (λ k h.
    let q : 0 + (j * 64 + k) / 64 ≡ j = omega arith in
    let m : (j * 64 + k) % 64 ≡ k = omega arith in
    ap₂ (λ (x y : ℕ). bit_of (get_or ws x 0) y) (sym q) (sym m) ∙ f (j * 64 + k) ∙ ap₂ (λ (x y : ℕ). bit_of (get_or vs x 0) y) q m))

-- ---- a row as a set by value

-- sixteen words taken out of a row have its slots
pub slot-loaded : (ws : List ℕ) (p k : ℕ) → k < 1024 → slot (take 16 (drop (16 * p) ws)) 0 k ≡ slot ws (16 * p) k
unfolding slot
slot-loaded ws p k h =
    let w : 0 + k / 64 < 16 = omega arith in
    let e : 16 * p + (0 + k / 64) ≡ 16 * p + k / 64 = omega arith in
    ap (λ (x : ℕ). bit_of x (k % 64))
    (get_or-take 16 (drop (16 * p) ws) (0 + k / 64) 0 w ∙ get_or-drop (16 * p) ws (0 + k / 64) 0 ∙ ap (λ (j : ℕ). get_or ws j 0) e)

-- words of 0 have no member
pub slot-none : (n b k : ℕ) → slot (replicate n 0) b k ≡ 0
unfolding slot
slot-none n b k =
    ⊎_elim
    (λ (h : b + k / 64 < n). ap (λ (w : ℕ). bit_of w (k % 64)) (get_or-replicate n (b + k / 64) 0 0 h) ∙ bit-none (k % 64))
    (λ (h : n ≤ b + k / 64).
    let q : length (replicate n 0) ≤ b + k / 64 = omega (arith, length-replicate {A = ℕ} n 0) in
    ap (λ (w : ℕ). bit_of w (k % 64)) (get_or-eq_default (replicate n 0) 0 {n = b + k / 64} q)
    ∙ bit-none (k % 64))
    (lt-or-ge (b + k / 64) n)

-- a slot put at the value that it has
with-same : (w k : ℕ) → with_bit (bit_of w k) w k ≡ w
unfolding with_bit
with-same w k = omega (arith, bit-mul-le w k)

pub put_same : (b i : ℕ) (ws : List ℕ) → put_slot b i (slot ws b i) ws ≡ ws
unfolding put_slot slot
put_same b i ws = ap (set ws (b + i / 64)) (with-same (get_or ws (b + i / 64) 0) (i % 64)) ∙ set-get_or ws (b + i / 64) 0

pub puts-again : (b from n : ℕ) (ws : List ℕ) → put_slots (slot ws b) b from n ws ≡ ws
unfolding put_slots
puts-again b from zero ws = refl
puts-again b from (suc n) ws =
    ap (put_slot b (from + n) (slot ws b (from + n))) (puts-again b from n ws) ∙ put_same b (from + n) ws

-- a set that is the row but for slot i, stored: slot i is put
pub stored-put : (g : ℕ → ℕ) (b i len v : ℕ) (ws : List ℕ) → i < len → b * 64 + len ≤ length ws * 64 → v < 2 → g i ≡ v
    → ((k : ℕ) → k < len → (k ≡ i → ⊥) → g k ≡ slot ws b k) → put_slots g b 0 len ws ≡ put_slot b i v ws
stored-put g b i len v ws h room small e same =
    let n : len ≡ i + (suc 0 + (len - suc i)) = omega arith in
    let z : 0 + i ≡ i = omega arith in
    ap (λ (x : ℕ). put_slots g b 0 x ws) n ∙ puts-add g b 0 i (suc 0 + (len - suc i)) ws
    ∙ ap₂ (λ (a : ℕ) (l : List ℕ). put_slots g b a (suc 0 + (len - suc i)) l) z below
    ∙ puts-add g b i (suc 0) (len - suc i) ws ∙ ap (put_slots g b (i + suc 0) (len - suc i)) here
    ∙ puts-same g (slot new b) b (i + suc 0) (len - suc i) new above ∙ puts-again b (i + suc 0) (len - suc i) new
  where
    new : List ℕ
    new = put_slot b i v ws

    below : put_slots g b 0 i ws ≡ ws
    below = puts-same g (slot ws b) b 0 i ws (λ k x y. same k (omega arith) (λ q. omega arith)) ∙ puts-again b 0 i ws

    here : put_slots g b i (suc 0) ws ≡ new
    here = puts_first g b i ws ∙ ap (λ (x : ℕ). put_slot b i x ws) e

    above : (k : ℕ) → i + suc 0 ≤ k → k < i + suc 0 + (len - suc i) → g k ≡ slot new b k
    above k x y =
        same k (omega arith) (λ q. omega arith)
        ∙ sym (slot-put b i v ws b k small (omega arith)
        ∙ ap (λ (t : Bool). cond t v (slot ws b k)) (ne_eqb (b * 64 + k) (b * 64 + i) (λ q. omega arith)))
