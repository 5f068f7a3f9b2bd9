-- Words all of whose slots are of one value are skipped by a comparison each. Assumes nothing.
use mathlib.Core.Path.{◌≡◌, refl, sym, ap, ap₂, ◌∙◌}
use mathlib.Core.Bool.{Bool, true, false, not, cond}
use mathlib.Core.List.{List}
use mathlib.Core.Logic.{⊎_elim}
use Prim.Native.Nat.{ℕ, ◌+◌, ◌-◌, ◌*◌, ◌/◌, ◌%◌, ◌^◌, ◌≤◌, ◌<◌, min}
use native.Mathlib.Omega.{arith}
use lib.ListN.{get_or}
use Rattle.paper.specs.Bits.{bit_of}
use Rattle.paper.proofs.Bits.{bit-lt, bit-ext}
use Rattle.paper.proofs.Logic.{lt-or-ge}
use Rattle.slotset.specs.declared.Run.TheVariants.{Span, Hole}
use Rattle.slotset.specs.Slots.{slot, value_of, Bits, has}
use Rattle.slotset.specs.Search.{next_with, down, last_below}
use Rattle.slotset.specs.Runs.{start_of, end_of, first_around, last_around}
use Rattle.slotset.specs.Inside.{Every, FirstBit, LastBit, SkippedUp, SkippedDown, found_below}
use Rattle.slotset.specs.Answers.{stretch_as, run_at}
use Rattle.slotset.proofs.Scans.{next-skip, word-found, down-skip, word-before, word-last}
use Rattle.slotset.proofs.Runs.{has_value, ends-around, stretch-run, stretch-hole, answers-below}

-- ---- the words so far are x, and one word more

pub one_more : (ws : List ℕ) (b x first j : ℕ) → ((k : ℕ) → first ≤ k → k < j → get_or ws (b + k) 0 ≡ x) → get_or ws (b + j) 0 ≡ x
    → (k : ℕ) → first ≤ k → k < j + 1 → get_or ws (b + k) 0 ≡ x
one_more ws b x first j f e k p q = ⊎_elim
    (λ (h : k < j). f k p h)
    (λ (h : j ≤ k). let z : k ≡ j = omega arith in ap (λ (i : ℕ). get_or ws (b + i) 0) z ∙ e)
    (lt-or-ge k j)

pub one_less : (ws : List ℕ) (b x before j : ℕ) → 0 < j → ((k : ℕ) → j ≤ k → k < before → get_or ws (b + k) 0 ≡ x) → get_or ws (b + (j - 1)) 0 ≡ x
    → (k : ℕ) → j - 1 ≤ k → k < before → get_or ws (b + k) 0 ≡ x
one_less ws b x before j some f e k p q = ⊎_elim
    (λ (h : k < j). let z : k ≡ j - 1 = omega arith in ap (λ (i : ℕ). get_or ws (b + i) 0) z ∙ e)
    (λ (h : j ≤ k). f k h q)
    (lt-or-ge k j)

-- a bit is one of the two values, and not both
one_value : (b : Bool) (n : ℕ) → n < 2 → (n ≡ value_of (not b) → ⊥) → n ≡ value_of b
one_value true n h f = omega (arith, f)
one_value false n h f = omega (arith, f)

not-both : (b : Bool) (n : ℕ) → n ≡ value_of b → n ≡ value_of (not b) → ⊥
not-both true n p q = omega (arith, p, q)
not-both false n p q = omega (arith, p, q)

-- a word with no bit of the other value is the word x, of which every bit is of this one
only-word : (b : Bool) (w x : ℕ) → w < 2 ^ 64 → x < 2 ^ 64 → Every (value_of b) x
    → ((k : ℕ) → k < 64 → bit_of w k ≡ value_of (not b) → ⊥) → w ≡ x
only-word b w x hw hx every none =
    bit-ext 64 w x hw hx (λ k h. one_value b (bit_of w k) (bit-lt w k) (none k h) ∙ sym (every k h))

module _ (b : Bool) (ws : List ℕ) (base x : ℕ) (every : Every (value_of b) x) where
  -- a slot of such a word is not of the other value
  skipped-slot : (k : ℕ) → get_or ws (base + k / 64) 0 ≡ x → slot ws base k ≡ value_of (not b) → ⊥
  unfolding slot
  skipped-slot k e g =
      not-both b (bit_of x (k % 64)) (every (k % 64) (omega arith)) (ap (λ (w : ℕ). bit_of w (k % 64)) (sym e) ∙ g)

  -- ---- upwards

  module _ (len first end r : ℕ) (s : SkippedUp ws base x first end r) where
    pub up-skip : next_with (value_of (not b)) (slot ws base) len (first * 64) ≡ next_with (value_of (not b)) (slot ws base) len (r * 64)
    up-skip =
        let e : first * 64 + (r * 64 - first * 64) ≡ r * 64 = omega (arith, s.from) in
        next-skip (value_of (not b)) (slot ws base) len (r * 64 - first * 64) (first * 64)
        (λ k p q l. skipped-slot k (s.same (k / 64) (omega arith) (omega (arith, s.from))))
        ∙ ap (next_with (value_of (not b)) (slot ws base) len) e

    -- a word that is another one has a slot of the other value
    pub up-hit : (k : ℕ) → r < end → get_or ws (base + r) 0 < 2 ^ 64 → x < 2 ^ 64 → FirstBit (value_of (not b)) (get_or ws (base + r) 0) 0 k
        → next_with (value_of (not b)) (slot ws base) len (first * 64) ≡ found_below len (r * 64 + k)
    up-hit k h hw hx f =
        up-skip
        ∙ word-found (value_of (not b)) ws base len r 0 k f (r * 64) (omega arith)
        (λ z. s.other h (only-word b _ x hw hx every (λ i l. f.clear i (omega arith) (omega (arith, z, l)))))

  -- ---- downwards

  module _ (before r : ℕ) (s : SkippedDown ws base x before r) where
    down-skipped : down (value_of (not b)) (slot ws base) (before * 64) ≡ down (value_of (not b)) (slot ws base) (r * 64)
    down-skipped =
        let e : before * 64 ≡ r * 64 + (before * 64 - r * 64) = omega (arith, s.to) in
        ap (down (value_of (not b)) (slot ws base)) e
        ∙ down-skip (value_of (not b)) (slot ws base) (before * 64 - r * 64) (r * 64)
        (λ k p q. skipped-slot k (s.same (k / 64) (omega arith) (omega (arith, s.to))))

    module _ (some : 0 < r) (k : ℕ) (f : LastBit (value_of (not b)) (get_or ws (base + (r - 1)) 0) 63 k) where
      -- no slot of the other value: it was the first word
      pub down-none : k ≡ 0 → get_or ws (base + (r - 1)) 0 < 2 ^ 64 → x < 2 ^ 64
          → 0 ≡ start_of (down (value_of (not b)) (slot ws base) (before * 64))
      unfolding down
      down-none z hw hx =
          let one : r ≡ 1 = ⊎_elim
          (λ (h : 1 < r). absurd (s.other h (only-word b _ x hw hx every (λ i l. f.clear i (omega (arith, z)) (omega arith)))))
          (λ (h : r ≤ 1). omega arith)
          (lt-or-ge 1 r) in
          let q : (r - 1) * 64 ≡ 0 = omega arith in
          sym (ap start_of (down-skipped
          ∙ word-before (value_of (not b)) ws base (r - 1) 63 k (omega arith) f (r * 64) (omega arith) z
          ∙ ap (down (value_of (not b)) (slot ws base)) q))

      pub down-hit-word : (k ≡ 0 → ⊥) → (r - 1) * 64 + k ≡ start_of (down (value_of (not b)) (slot ws base) (before * 64))
      down-hit-word z =
          let q : (r - 1) * 64 + k ≡ (r - 1) * 64 + k - 1 + 1 = omega (arith, z) in
          q ∙ sym (ap start_of (down-skipped ∙ word-last (value_of (not b)) ws base (r - 1) 63 k (omega arith) f (r * 64) (omega arith) z))

    -- there is no word
    pub down-empty : r ≡ 0 → 0 ≡ start_of (down (value_of (not b)) (slot ws base) (before * 64))
    unfolding down
    down-empty z =
        let q : before * 64 ≡ 0 = ⊎_elim (λ (h : 0 < before). absurd (zero-some (s.some h))) (λ (h : before ≤ 0). omega arith) (lt-or-ge 0 before) in
        sym (ap (λ (n : ℕ). start_of (down (value_of (not b)) (slot ws base) n)) q)
      where
        zero-some : 0 < r → ⊥
        zero-some h = omega (arith, h, z)

-- ---- a slot of the stretch itself is not of the other value: a search may start at it

pub around-down : (b : Bool) (f : ℕ → ℕ) (i : ℕ) → f i ≡ value_of b → down (value_of (not b)) f (i + 1) ≡ down (value_of (not b)) f i
around-down b f i e =
    down-skip (value_of (not b)) f 1 i (λ k p q g. let h : k ≡ i = omega arith in not-both b (f i) e (ap f (sym h) ∙ g))

pub around-up : (b : Bool) (f : ℕ → ℕ) (len i : ℕ) → f i ≡ value_of b
    → next_with (value_of (not b)) f len i ≡ next_with (value_of (not b)) f len (i + 1)
around-up b f len i e =
    next-skip (value_of (not b)) f len 1 i (λ k p q l g. let h : k ≡ i = omega arith in not-both b (f i) e (ap f (sym h) ∙ g))

-- and in its word it doesn't end there
pub past-slot : (b : Bool) (ws : List ℕ) (base i k : ℕ) → slot ws base i ≡ value_of b
    → FirstBit (value_of (not b)) (get_or ws (base + i / 64) 0) (i % 64) k → 0 < i / 64 * 64 + k
unfolding slot
past-slot b ws base i k e f = ⊎_elim
    (λ (h : i % 64 < k). omega arith)
    (λ (h : k ≤ i % 64).
    let z : k ≡ i % 64 = omega (arith, f.from) in
    absurd (not-both b (bit_of (get_or ws (base + i / 64) 0) (i % 64)) e
    (ap (bit_of (get_or ws (base + i / 64) 0)) (sym z) ∙ f.hit (omega arith))))
    (lt-or-ge (i % 64) k)

-- the stretch around slot i by the value of that slot, and by both its ends as the searches from i on give them
pub held-is : (f : ℕ → ℕ) → Bits f → (len i : ℕ) (b : Bool) (first last : ℕ) → i < len → b ≡ has f len i
    → first ≡ start_of (down (value_of (not b)) f (i + 1)) → last ≡ end_of len (next_with (value_of (not b)) f len i)
    → cond b (Span first last) (Hole first last) ≡ run_at f len i
unfolding last_below
held-is f bits len i b first last h is p q =
    let e : value_of b ≡ f i = ap value_of is ∙ has_value f bits len i h in
    let m : i ≡ min i len = omega arith in
    let u = ends-around b f len i first last
    (p ∙ ap start_of (around-down b f i (sym e) ∙ ap (down (value_of (not b)) f) m))
    (q ∙ ap (end_of len) (around-up b f len i (sym e))) in
    by_value b u ∙ ap (λ (v : ℕ). stretch_as v f len i) e ∙ sym (answers-below f len i h)
  where
    by_value : (c : Bool) → (first ≡ first_around (value_of c) f len i) × (last ≡ last_around (value_of c) f len i)
        → cond c (Span first last) (Hole first last) ≡ stretch_as (value_of c) f len i
    by_value true w = ap₂ Span w.0 w.1 ∙ stretch-run 1 f len i refl
    by_value false w = ap₂ Hole w.0 w.1 ∙ stretch-hole 0 f len i refl
