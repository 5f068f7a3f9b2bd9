-- A minute is a cut exactly where a merged range starts or ends at it. Assumes nothing.
use mathlib.Core.Path.{◌≡◌, refl, sym, ap, ◌∙◌}
use mathlib.Core.Bool.{Bool, true, false, not}
use mathlib.Core.Logic.{◌⊎◌, inl, inr, ⊎_elim, ◌↔◌}
use mathlib.Core.List.{List}
use Prim.Native.Nat.{ℕ, zero, suc, ◌≤◌, ◌<◌}
use native.Mathlib.Omega.{arith}
use borrow.Author.Tests.{eq-eqb, eqb-true}
use lib.Dec.{eqb}
use lib.ListN.{length, get_or}
use Rattle.paper.proofs.Logic.{by-test, lt-or-ge, same_test, or_left, or-second, or-either}
use Rattle.paper.proofs.Count.{some_one, some-here}
use Rattle.slots.specs.Ranges.{Ranges, in_ranges}
use Rattle.slots.specs.Merged.{merged_of, starts_of, ends_of}
use Rattle.slots.specs.Atomic.{differ, lies_before, is_cut}
use Rattle.slots.specs.Inside.{packed_all, person_of, start_of, end_of, opens, closes, RangesSound, starts_or_ends, key_cut}
use Rattle.slots.proofs.Keys.{key_covers, merged_keys}
use Rattle.slots.proofs.Entries.{any_here, any-one}
use Rattle.slots.proofs.Keys.{covers-says, says-covers}
use Rattle.slots.proofs.Packed.{small-merged, merged-packed, length-packed, unpacked}
use Rattle.slots.proofs.Merging.{spaced-filled, spaced-apart}
use Rattle.slots.proofs.RangeLaws.{merged-is}
use Rattle.slots.proofs.MergedLaws.{merged-below}

not-both : {X : Type 0} (b : Bool) → b ≡ true → b ≡ false → X
not-both b t f = absurd (mathlib.Core.Bool.true≢false (sym t ∙ f))

differ-says : (a b : Bool) → differ a b ≡ true → ((a ≡ false) × (b ≡ true)) ⊎ ((a ≡ true) × (b ≡ false))
differ-says true true e = absurd (mathlib.Core.Bool.false≢true e)
differ-says true false e = inr (refl, refl)
differ-says false true e = inl (refl, refl)
differ-says false false e = absurd (mathlib.Core.Bool.false≢true e)

begins-differ : (a b : Bool) → a ≡ false → b ≡ true → differ a b ≡ true
begins-differ true b p q = absurd (mathlib.Core.Bool.true≢false p)
begins-differ false b p q = q

ends-differ : (a b : Bool) → a ≡ true → b ≡ false → differ a b ≡ true
ends-differ true b p q = ap not q
ends-differ false b p q = absurd (mathlib.Core.Bool.false≢true p)

module _ (R : Ranges) (S : RangesSound R) where
  abbrev l : List ℕ
  l = merged_keys R

  abbrev at : ℕ → ℕ
  at k = get_or (merged_keys R) k 0

  -- a minute lies in a merged range, and the other way round
  lies-one : (p t : ℕ) (X : Type 0) → in_ranges R p t ≡ true
      → ((k : ℕ) → k < length l → person_of (at k) ≡ p → start_of (at k) ≤ t → t < end_of (at k) → X) → X
  lies-one p t X e f =
      any-one (key_covers p t) l X ((merged-is R S).minutes p t ∙ e)
      (λ k h c. let w = covers-says p t (at k) c in f k h w.0 w.1 w.2)

  lies-here : (k t : ℕ) → k < length l → start_of (at k) ≤ t → t < end_of (at k) → in_ranges R (person_of (at k)) t ≡ true
  lies-here k t h a b =
      sym ((merged-is R S).minutes (person_of (at k)) t)
      ∙ any_here (key_covers (person_of (at k)) t) l k h (says-covers (person_of (at k)) t (at k) refl a b)

  -- none is empty, and there is a gap between two of one person
  filled : (k : ℕ) → k < length l → start_of (at k) < end_of (at k)
  unfolding opens closes
  filled k h = omega (arith, spaced-filled 0 l (merged-is R S).spaced k h)

  apart : (k j : ℕ) → k < j → j < length l → person_of (at j) ≡ person_of (at k) → end_of (at k) < start_of (at j)
  unfolding opens closes
  apart k j h g e = omega (arith, e, spaced-apart 0 l (merged-is R S).spaced k j h g)

  -- two of one person that touch are the same
  one-range : (k j : ℕ) → k < length l → j < length l → person_of (at j) ≡ person_of (at k) → start_of (at j) ≤ end_of (at k)
      → start_of (at k) ≤ end_of (at j) → k ≡ j
  one-range k j h g e a b =
      ⊎_elim (λ (q : k < j). absurd (omega (arith, apart k j q g e)))
      (λ (q : j ≤ k). ⊎_elim (λ (r : j < k). absurd (omega (arith, apart j k r h (sym e)))) (λ (r : k ≤ j). omega arith) (lt-or-ge j k))
      (lt-or-ge k j)

  -- where one starts, the minute before is not the person's
  none_before : (k t : ℕ) → k < length l → start_of (at k) ≡ t → lies_before R (person_of (at k)) t ≡ false
  unfolding lies_before
  none_before k zero h e = refl
  none_before k (suc t) h e =
      by-test (in_ranges R (person_of (at k)) t) _
      (λ i. lies-one (person_of (at k)) t _ i
      (λ j g p a b.
      let q = one-range k j h g p (omega (arith, filled k h)) (omega arith) in
      absurd (omega (arith, ap (λ (n : ℕ). start_of (at n)) q))))
      (λ i. i)

  -- where one ends, the minute itself is not
  none_after : (k t : ℕ) → k < length l → end_of (at k) ≡ t → in_ranges R (person_of (at k)) t ≡ false
  none_after k t h e =
      by-test (in_ranges R (person_of (at k)) t) _
      (λ i. lies-one (person_of (at k)) t _ i
      (λ j g p a b.
      let q = one-range k j h g p (omega arith) (omega (arith, filled k h)) in
      absurd (omega (arith, ap (λ (n : ℕ). end_of (at n)) q))))
      (λ i. i)

  own-before : (k t : ℕ) → k < length l → end_of (at k) ≡ t → lies_before R (person_of (at k)) t ≡ true
  unfolding lies_before
  own-before k zero h e = absurd (omega (arith, filled k h))
  own-before k (suc t) h e = lies-here k t h (omega (arith, filled k h)) (omega arith)

  -- coverage that begins at a minute, and that ends there
  begun : (p t : ℕ) → lies_before R p t ≡ false → in_ranges R p t ≡ true → (k : ℕ) → k < length l → person_of (at k) ≡ p
      → start_of (at k) ≤ t → t < end_of (at k) → start_of (at k) ≡ t
  unfolding lies_before
  begun p zero b i k h e x y = omega arith
  begun p (suc t) b i k h e x y =
      ⊎_elim
      (λ (z : start_of (at k) < suc t).
      not-both (in_ranges R p t) (ap (λ (q : ℕ). in_ranges R q t) (sym e) ∙ lies-here k t h (omega arith) (omega arith)) b)
      (λ (z : suc t ≤ start_of (at k)). omega arith)
      (lt-or-ge (start_of (at k)) (suc t))

  begins : (p t : ℕ) → lies_before R p t ≡ false → in_ranges R p t ≡ true → key_cut l t ≡ true
  unfolding key_cut starts_or_ends
  begins p t b i =
      lies-one p t _ i
      (λ k h e x y. any_here (starts_or_ends t) l k h (or_left _ _ (eq-eqb _ _ (begun p t b i k h e x y))))

  finishes : (p t : ℕ) → lies_before R p t ≡ true → in_ranges R p t ≡ false → key_cut l t ≡ true
  unfolding lies_before key_cut starts_or_ends
  finishes p zero b i = absurd (mathlib.Core.Bool.false≢true b)
  finishes p (suc t) b i =
      lies-one p t _ b
      (λ k h e x y.
      ⊎_elim
      (λ (z : suc t < end_of (at k)).
      not-both (in_ranges R p (suc t)) (ap (λ (q : ℕ). in_ranges R q (suc t)) (sym e) ∙ lies-here k (suc t) h (omega arith) z) i)
      (λ (z : end_of (at k) ≤ suc t).
      let q : end_of (at k) ≡ suc t = omega arith in
      any_here (starts_or_ends (suc t)) l k h (or-second (eqb (start_of (at k)) (suc t)) _ (eq-eqb _ _ q)))
      (lt-or-ge (suc t) (end_of (at k))))

  -- THE LAW: a cut by minutes is a cut by the merged list
  pub cut-is : (people : ℕ) → ((k : ℕ) → k < R.count → get_or R.persons k 0 < people) → (t : ℕ) → is_cut people R t ≡ key_cut l t
  unfolding is_cut key_cut starts_or_ends
  cut-is people known t =
      same_test (is_cut people R t) (key_cut l t)
      (λ e. some_one people (λ p. differ (lies_before R p t) (in_ranges R p t)) _ e
      (λ p h d. ⊎_elim (λ w. begins p t w.0 w.1) (λ w. finishes p t w.0 w.1) (differ-says _ _ d)))
      (λ e. any-one (starts_or_ends t) l _ e
      (λ k h c.
      let p = person_of (at k) in
      some-here people p (λ q. differ (lies_before R q t) (in_ranges R q t)) (merged-below R S people known k h)
      (⊎_elim
      (λ u.
      let q = eqb-true (start_of (at k)) t u in
      begins-differ _ _ (none_before k t h q) (lies-here k t h (omega arith) (omega (arith, filled k h))))
      (λ u. let q = eqb-true (end_of (at k)) t u in ends-differ _ _ (own-before k t h q) (none_after k t h q))
      (or-either (eqb (start_of (at k)) t) (eqb (end_of (at k)) t) c))))

  -- so the cuts are all starts and ends of the merged ranges
  same_at : (k : ℕ) → at k ≡ get_or (packed_all (merged_of R)) k 0
  same_at k = ap (λ (m : List ℕ). get_or m k 0) (sym (merged-packed R S))

  as_many : length l ≡ length (merged_of R)
  as_many = ap length (sym (merged-packed R S)) ∙ length-packed (merged_of R)

  starts-at : (k : ℕ) → k < length (merged_of R) → start_of (at k) ≡ get_or (starts_of (merged_of R)) k 0
  starts-at k h = ap start_of (same_at k) ∙ (unpacked (merged_of R) (small-merged R S) k h).start

  ends_at : (k : ℕ) → k < length (merged_of R) → end_of (at k) ≡ get_or (ends_of (merged_of R)) k 0
  ends_at k h = ap end_of (same_at k) ∙ (unpacked (merged_of R) (small-merged R S) k h).end

  pub cut-says : (people : ℕ) → ((k : ℕ) → k < R.count → get_or R.persons k 0 < people) → (t : ℕ)
      → (is_cut people R t ≡ true)
      ↔ ((k : ℕ) × (k < length (merged_of R)) × ((get_or (starts_of (merged_of R)) k 0 ≡ t) ⊎ (get_or (ends_of (merged_of R)) k 0 ≡ t)))
  unfolding key_cut starts_or_ends
  cut-says people known t = (
    λ e.
        any-one (starts_or_ends t) l _ (sym (cut-is people known t) ∙ e)
        (λ k h i.
        let b : k < length (merged_of R) = omega (arith, as_many) in
        let edge : (get_or (starts_of (merged_of R)) k 0 ≡ t) ⊎ (get_or (ends_of (merged_of R)) k 0 ≡ t) =
        ⊎_elim (λ (a : eqb (start_of (at k)) t ≡ true). inl (sym (starts-at k b) ∙ eqb-true _ _ a))
        (λ (a : eqb (end_of (at k)) t ≡ true). inr (sym (ends_at k b) ∙ eqb-true _ _ a))
        (or-either (eqb (start_of (at k)) t) (eqb (end_of (at k)) t) i) in
        (k, b, edge)),
    λ x.
        let k = x.0 in
        let a = eqb (start_of (at k)) t in
        let b = eqb (end_of (at k)) t in
        cut-is people known t
        ∙ any_here (starts_or_ends t) l k (omega (arith, as_many, x.1))
        (⊎_elim (λ (q : get_or (starts_of (merged_of R)) k 0 ≡ t). or_left a b (eq-eqb _ _ (starts-at k x.1 ∙ q)))
        (λ (q : get_or (ends_of (merged_of R)) k 0 ≡ t). or-second a b (eq-eqb _ _ (ends_at k x.1 ∙ q))) x.2),
  )
