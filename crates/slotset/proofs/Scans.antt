-- The scans: one skips slots that are not wanted, and stops at the first that is. Assumes nothing.
use Rattle.std.specs.Prelude.{Some, None}
use mathlib.Core.Path.{◌≡◌, refl, sym, ap, ap₂, ◌∙◌}
use mathlib.Core.Bool.{Bool, true, false, cond}
use mathlib.Core.List.{List}
use mathlib.Core.Logic.{⊎_elim, ◌≢◌}
use Prim.Native.Nat.{ℕ, zero, suc, ◌+◌, ◌-◌, ◌*◌, ◌/◌, ◌%◌, ◌≤◌, ◌<◌, min}
use native.Mathlib.Nat.{lt_irrefl}
use native.Mathlib.Omega.{arith}
use borrow.Author.Tests.{eq-eqb, ne_eqb, lt-ltb, le-ltb}
use lib.Dec.{eqb}
use lib.ListN.{get_or}
use Rattle.paper.specs.Bits.{bit_of}
use Rattle.paper.specs.Count.{all}
use Rattle.paper.proofs.Count.{all-each, each_all}
use Rattle.paper.proofs.Logic.{by-test, lt-or-ge}
use Rattle.slotset.specs.Slots.{slot, same_slots}
use Rattle.slotset.specs.Inside.{FirstBit, LastBit, found_below}
use Rattle.slotset.specs.Search.{up, next_with, down}

module _ (v : ℕ) (f : ℕ → ℕ) (len : ℕ) where
  pub next-end : (at : ℕ) → len ≤ at → next_with v f len at ≡ None
  unfolding next_with up
  next-end at h = let e : len - at ≡ 0 = omega arith in ap (λ (j : ℕ). up v f j at) e

  pub next-hit : (at : ℕ) → at < len → f at ≡ v → next_with v f len at ≡ Some at
  unfolding next_with up
  next-hit at h e =
      let m : len - at ≡ suc (len - suc at) = omega arith in
      ap (λ (j : ℕ). up v f j at) m ∙ ap (λ (b : Bool). cond b (Some at) (up v f (len - suc at) (suc at))) (eq-eqb _ _ e)

  next-step : (at : ℕ) → (at < len → f at ≡ v → ⊥) → next_with v f len at ≡ next_with v f len (suc at)
  unfolding next_with up
  next-step at n = ⊎_elim
      (λ (h : at < len).
      let m : len - at ≡ suc (len - suc at) = omega arith in
      ap (λ (j : ℕ). up v f j at) m ∙ ap (λ (b : Bool). cond b (Some at) (up v f (len - suc at) (suc at))) (ne_eqb _ _ (n h)))
      (λ (h : len ≤ at). next-end at h ∙ sym (next-end (suc at) (omega arith)))
      (lt-or-ge at len)

  pub next-skip : (d at : ℕ) → ((k : ℕ) → at ≤ k → k < at + d → k < len → f k ≡ v → ⊥) → next_with v f len at ≡ next_with v f len (at + d)
  next-skip zero at n = let e : at ≡ at + 0 = omega arith in ap (next_with v f len) e
  next-skip (suc d) at n =
      let e : suc at + d ≡ at + suc d = omega arith in
      next-step at (n at (omega arith) (omega arith))
      ∙ next-skip d (suc at) (λ k a b. n k (omega arith) (omega arith)) ∙ ap (next_with v f len) e

-- from the first wanted bit of word j, at or after its bit s, to the slots; `at` is that bit's slot
module _ (v : ℕ) (ws : List ℕ) (b len j s r : ℕ) (f : FirstBit v (get_or ws (b + j) 0) s r) (at : ℕ) (here : at ≡ j * 64 + s) where
  word-skip : next_with v (slot ws b) len at ≡ next_with v (slot ws b) len (j * 64 + r)
  unfolding slot
  word-skip =
      let e : at + (j * 64 + r - at) ≡ j * 64 + r = omega (arith, f.from) in
      next-skip v (slot ws b) len (j * 64 + r - at) at
      (λ k x y z g.
      let q : k / 64 ≡ j = omega (arith, f.to) in
      f.clear (k % 64) (omega arith) (omega (arith, f.to)) (ap (λ (i : ℕ). bit_of (get_or ws (b + i) 0) (k % 64)) (sym q) ∙ g))
      ∙ ap (next_with v (slot ws b) len) e

  -- no bit: on from the next word
  pub word_next : r ≡ 64 → next_with v (slot ws b) len at ≡ next_with v (slot ws b) len ((j + 1) * 64)
  word_next h = let e : j * 64 + r ≡ (j + 1) * 64 = omega arith in word-skip ∙ ap (next_with v (slot ws b) len) e

  -- a bit: its slot, or nothing where that is past the length
  pub word-found : r ≢ 64 → next_with v (slot ws b) len at ≡ found_below len (j * 64 + r)
  unfolding slot found_below
  word-found h =
      let q : (j * 64 + r) / 64 ≡ j = omega (arith, f.to, h) in
      let m : (j * 64 + r) % 64 ≡ r = omega (arith, f.to, h) in
      word-skip
      ∙ ⊎_elim
      (λ (g : j * 64 + r < len). next-hit v (slot ws b) len _ g (simp (q, m) (f.hit (omega (arith, f.to, h)))) ∙ simp (lt-ltb _ _ g) refl)
      (λ (g : len ≤ j * 64 + r). next-end v (slot ws b) len _ g ∙ simp (le-ltb _ _ g) refl)
      (lt-or-ge (j * 64 + r) len)

-- ---- downwards

module _ (v : ℕ) (f : ℕ → ℕ) where
  pub down-hit : (n : ℕ) → 0 < n → f (n - 1) ≡ v → down v f n ≡ Some (n - 1)
  unfolding down
  down-hit zero h e = absurd (lt_irrefl 0 h)
  down-hit (suc n) h e =
      let q : suc n - 1 ≡ n = omega arith in
      rw q (ap (λ (b : Bool). cond b (Some n) (down v f n)) (eq-eqb _ _ (rw q at e)))

  pub down-skip : (d n : ℕ) → ((k : ℕ) → n ≤ k → k < n + d → f k ≡ v → ⊥) → down v f (n + d) ≡ down v f n
  unfolding down
  down-skip zero n g = let q : n + 0 ≡ n = omega arith in ap (down v f) q
  down-skip (suc d) n g =
      let q : n + suc d ≡ suc (n + d) = omega arith in
      ap (down v f) q ∙ ap (λ (b : Bool). cond b (Some (n + d)) (down v f (n + d))) (ne_eqb _ _ (g (n + d) (omega arith) (omega arith)))
      ∙ down-skip d n (λ k a b. g k a (omega arith))

-- from the last wanted bit of word j, up to its bit s, to the slots; `end` is one past that bit's slot
module _ (v : ℕ) (ws : List ℕ) (b j s r : ℕ) (low : s < 64) (f : LastBit v (get_or ws (b + j) 0) s r)
    (end : ℕ) (here : end ≡ j * 64 + s + 1) where
  word-drop : down v (slot ws b) end ≡ down v (slot ws b) (j * 64 + r)
  unfolding slot
  word-drop =
      let e : end ≡ j * 64 + r + (s + 1 - r) = omega (arith, f.to) in
      ap (down v (slot ws b)) e
      ∙ down-skip v (slot ws b) (s + 1 - r) (j * 64 + r)
      (λ k x y g.
      let q : k / 64 ≡ j = omega (arith, f.to) in
      f.clear (k % 64) (omega (arith, f.to)) (omega (arith, f.to)) (ap (λ (i : ℕ). bit_of (get_or ws (b + i) 0) (k % 64)) (sym q) ∙ g))

  -- no bit: on below this word
  pub word-before : r ≡ 0 → down v (slot ws b) end ≡ down v (slot ws b) (j * 64)
  word-before h = let e : j * 64 + r ≡ j * 64 = omega arith in word-drop ∙ ap (down v (slot ws b)) e

  -- a bit: its slot
  pub word-last : r ≢ 0 → down v (slot ws b) end ≡ Some (j * 64 + r - 1)
  unfolding slot
  word-last h =
      let q : (j * 64 + r - 1) / 64 ≡ j = omega (arith, f.to, h) in
      let m : (j * 64 + r - 1) % 64 ≡ r - 1 = omega (arith, f.to, h) in
      word-drop ∙ down-hit v (slot ws b) _ (omega (arith, h)) (simp (q, m) (f.hit (omega (arith, h))))

-- ---- two sets compared

pub same_none : (f g : ℕ → ℕ) (n len : ℕ) → n ≡ 0 → same_slots f g (min n len) ≡ true
unfolding same_slots all
same_none f g n len e = let q : min n len ≡ 0 = omega arith in ap (same_slots f g) q

-- word j of two sets, of which the e lowest bits are the same or not, as r says
module _ (ws vs : List ℕ) (b j e : ℕ) (few : e ≤ 64) (r : Bool)
    (is : r ≡ all e (λ i. eqb (bit_of (get_or ws (b + j) 0) i) (bit_of (get_or vs (b + j) 0) i))) where
  word_same : r ≡ true → (k : ℕ) → j * 64 ≤ k → k < j * 64 + e → eqb (slot ws b k) (slot vs b k) ≡ true
  unfolding slot
  word_same t k h g =
      let q : j ≡ k / 64 = omega arith in
      ap (λ (x : ℕ). eqb (bit_of (get_or ws (b + x) 0) (k % 64)) (bit_of (get_or vs (b + x) 0) (k % 64))) (sym q)
      ∙ all-each e (λ i. eqb (bit_of (get_or ws (b + j) 0) i) (bit_of (get_or vs (b + j) 0) i)) (sym is ∙ t) (k % 64) (omega arith)

  same_word : ((k : ℕ) → k < j * 64 + e → eqb (slot ws b k) (slot vs b k) ≡ true) → r ≡ true
  unfolding slot
  same_word f =
      is ∙ each_all e (λ i. eqb (bit_of (get_or ws (b + j) 0) i) (bit_of (get_or vs (b + j) 0) i)) (λ i h.
      let q : (j * 64 + i) / 64 ≡ j = omega arith in
      let m : (j * 64 + i) % 64 ≡ i = omega arith in
      ap₂ (λ (x y : ℕ). eqb (bit_of (get_or ws (b + x) 0) y) (bit_of (get_or vs (b + x) 0) y)) (sym q) (sym m) ∙ f (j * 64 + i) (omega arith))

  -- the same so far, and one word more
  pub same_more : (len : ℕ) → e ≡ min 64 (len - j * 64) → r ≡ true → same_slots (slot ws b) (slot vs b) (min (j * 64) len) ≡ true
      → same_slots (slot ws b) (slot vs b) (min ((j + 1) * 64) len) ≡ true
  unfolding same_slots
  same_more len q t f =
      each_all (min ((j + 1) * 64) len) (λ i. eqb (slot ws b i) (slot vs b i)) (λ k h.
      ⊎_elim
      (λ (x : k < j * 64). all-each (min (j * 64) len) (λ i. eqb (slot ws b i) (slot vs b i)) f k (omega arith))
      (λ (x : j * 64 ≤ k). word_same t k x (omega arith))
      (lt-or-ge k (j * 64)))

  -- a word that differs below the length
  pub same-off : (len : ℕ) → j * 64 + e ≤ len → r ≡ false → false ≡ same_slots (slot ws b) (slot vs b) len
  unfolding same_slots
  same-off len h f =
      by-test (all len (λ k. eqb (slot ws b k) (slot vs b k))) _
      (λ t. sym f ∙ same_word (λ k g. all-each len (λ i. eqb (slot ws b i) (slot vs b i)) t k (omega arith)) ∙ sym t)
      (λ g. sym g)
