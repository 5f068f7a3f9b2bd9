-- Ranges, and the same packed into numbers: merging, minutes and gaps are alike of both. Assumes nothing.
use mathlib.Core.Path.{◌≡◌, refl, sym, ap, ap₂, ◌∙◌}
use mathlib.Core.Bool.{true, ◌&&◌, ◌||◌}
use mathlib.Core.Logic.{⊎_elim}
use mathlib.Core.List.{List, [], ◌∷◌, ◌++◌}
use Prim.Native.Nat.{ℕ, zero, suc, ◌+◌, ◌-◌, ◌*◌, ◌≤◌, ◌<◌, min, max}
use native.Mathlib.Nat.{not-suc-le-zero}
use native.Mathlib.Omega.{arith}
use borrow.Author.Tests.{ltb-true, lt-ltb, eq-eqb, eqb-true, le-leb}
use lib.Dec.{ltb, eqb}
use lib.ListN.{length, get_or, drop}
use Rattle.paper.proofs.Logic.{by-test, lt-or-ge, both, and-true, or_left, or-second, or-either, same_test}
use Rattle.slots.specs.Ranges.{Range, Ranges, range_at, covers}
use Rattle.slots.specs.Merged.{lies_in, before, joined, merge_in, merge_all, ranges_to, merged_of, persons_of, starts_of, ends_of, Spaced}
use Rattle.slots.specs.Inside.{any_of, key_of, person_of, start_of, end_of, packed, packed_all, key_at, keys_to, keys_of, opens, closes}
use Rattle.slots.specs.Inside.{SpacedKeys, RangesSound}
use Rattle.slots.proofs.Keys.{key_covers, joined_keys, merge_key_in, merge_keys, merged_keys, person-key, start-key, end-key}

-- ---- ranges whose minutes fit their part of a number

pub record Small (x : Range) : Type 0 where
  pub start : x.start < 268435456
  pub end : x.end < 268435456

abbrev pub AllSmall : List Range → Type 0
AllSmall [] = Unit
AllSmall (x ∷ l) = Small x × AllSmall l

module _ (x : Range) (s : Small x) where
  pub person-packed : person_of (packed x) ≡ x.person
  person-packed = person-key x.person x.start x.end s.start s.end

  pub start-packed : start_of (packed x) ≡ x.start
  start-packed = start-key x.person x.start x.end s.start s.end

  pub end-packed : end_of (packed x) ≡ x.end
  end-packed = end-key x.person x.start x.end s.end

  opens-packed : opens (packed x) ≡ x.person * 268435456 + x.start
  unfolding opens
  opens-packed = ap₂ (λ (p t : ℕ). p * 268435456 + t) person-packed start-packed

  closes-packed : closes (packed x) ≡ x.person * 268435456 + x.end
  unfolding closes
  closes-packed = ap₂ (λ (p t : ℕ). p * 268435456 + t) person-packed end-packed

-- ---- merging

module _ (x y : Range) (s : Small x) (u : Small y) where
  before-packed : before x y ≡ ltb (closes (packed x)) (opens (packed y))
  unfolding before
  before-packed =
      let c = closes-packed x s in
      let o = opens-packed y u in
      let p = x.person in
      let q = y.person in
      same_test (ltb p q || (eqb p q && ltb x.end y.start)) (ltb (closes (packed x)) (opens (packed y)))
      (λ t.
      lt-ltb (closes (packed x)) (opens (packed y))
      (⊎_elim (λ i. omega (arith, c, o, ltb-true p q i, s.end))
      (λ i.
      let w = both (eqb p q) (ltb x.end y.start) i in
      omega (arith, c, o, eqb-true p q w.0, ltb-true x.end y.start w.1))
      (or-either (ltb p q) (eqb p q && ltb x.end y.start) t)))
      (λ t.
      let g = ltb-true (closes (packed x)) (opens (packed y)) t in
      ⊎_elim (λ (h : p < q). or_left (ltb p q) _ (lt-ltb p q h))
      (λ (h : q ≤ p).
      or-second (ltb p q) _
      (and-true _ _ (eq-eqb p q (omega (arith, c, o, g, u.start))) (lt-ltb x.end y.start (omega (arith, c, o, g, u.start)))))
      (lt-or-ge p q))

  joined-packed : packed (joined x y) ≡ joined_keys (packed x) (packed y)
  unfolding joined joined_keys
  joined-packed =
      let X = packed x in
      let Y = packed y in
      sym (ap (λ (p : ℕ). key_of p (min (start_of X) (start_of Y)) (max (end_of X) (end_of Y))) (person-packed x s)
      ∙ ap₂ (λ (a b : ℕ). key_of x.person (min a b) (max (end_of X) (end_of Y))) (start-packed x s) (start-packed y u)
      ∙ ap₂ (λ (a b : ℕ). key_of x.person (min x.start y.start) (max a b)) (end-packed x s) (end-packed y u))

  small-joined : Small (joined x y)
  unfolding joined
  small-joined = record { start = omega (arith, s.start); end = omega (arith, s.end, u.end) }

small-in : (x : Range) (l : List Range) → Small x → AllSmall l → AllSmall (merge_in x l)
unfolding merge_in
small-in x [] s a = (s, tt)
small-in x (y ∷ l) s a =
    by-test (before x y) _ (λ t. simp t (s, a))
    (λ f. by-test (before y x) _ (λ t. simp (f, t) (a.0, small-in x l s a.1))
    (λ g. simp (f, g) (small-in (joined x y) l (small-joined x y s a.0) a.1)))

packed-in : (x : Range) (l : List Range) → Small x → AllSmall l → packed_all (merge_in x l) ≡ merge_key_in (packed x) (packed_all l)
unfolding merge_in merge_key_in packed_all
packed-in x [] s a = refl
packed-in x (y ∷ l) s a =
    let b = sym (before-packed x y s a.0) in
    let d = sym (before-packed y x a.0 s) in
    by-test (before x y) _ (λ t. simp (t, b ∙ t))
    (λ f. by-test (before y x) _ (λ t. simp (f, t, b ∙ f, d ∙ t) (ap (λ (k : List ℕ). packed y ∷ k) (packed-in x l s a.1)))
    (λ g.
    simp (f, g, b ∙ f, d ∙ g)
    (packed-in (joined x y) l (small-joined x y s a.0) a.1
    ∙ ap (λ (z : ℕ). merge_key_in z (packed_all l)) (joined-packed x y s a.0))))

small_all : (l : List Range) → AllSmall l → AllSmall (merge_all l)
unfolding merge_all
small_all [] a = tt
small_all (x ∷ l) a =
    by-test (ltb x.start x.end) _ (λ t. simp t (small-in x (merge_all l) a.0 (small_all l a.1)))
    (λ f. simp f (small_all l a.1))

packed_all_lem : (l : List Range) → AllSmall l → packed_all (merge_all l) ≡ merge_keys (packed_all l)
unfolding merge_all merge_keys packed_all
packed_all_lem [] a = refl
packed_all_lem (x ∷ l) a =
    let e = ap₂ ltb (start-packed x a.0) (end-packed x a.0) in
    by-test (ltb x.start x.end) _
    (λ t.
    simp (t, e ∙ t)
    (packed-in x (merge_all l) a.0 (small_all l a.1) ∙ ap (merge_key_in (packed x)) (packed_all_lem l a.1)))
    (λ f. simp (f, e ∙ f) (packed_all_lem l a.1))

-- ---- the lent ranges

packed-append : (k l : List Range) → packed_all (k ++ l) ≡ packed_all k ++ packed_all l
unfolding packed_all
packed-append [] l = refl
packed-append (x ∷ k) l = ap (λ (m : List ℕ). packed x ∷ m) (packed-append k l)

ranges-packed : (R : Ranges) (n : ℕ) → packed_all (ranges_to R n) ≡ keys_to R n
unfolding ranges_to keys_to key_at packed_all
ranges-packed R zero = refl
ranges-packed R (suc n) =
    packed-append (ranges_to R n) (range_at R n ∷ []) ∙ ap (λ (k : List ℕ). k ++ (packed (range_at R n) ∷ [])) (ranges-packed R n)

small-append : (k l : List Range) → AllSmall k → AllSmall l → AllSmall (k ++ l)
small-append [] l a b = b
small-append (x ∷ k) l a b = (a.0, small-append k l a.1 b)

small-ranges : (R : Ranges) → RangesSound R → (n : ℕ) → n ≤ R.count → AllSmall (ranges_to R n)
unfolding ranges_to
small-ranges R S zero h = tt
small-ranges R S (suc n) h =
    let o = S.ordered n (omega arith) in
    let c = S.capped n (omega arith) in
    small-append (ranges_to R n) (range_at R n ∷ []) (small-ranges R S n (omega arith))
    (record { start = omega arith; end = omega arith }, tt)

module _ (R : Ranges) (S : RangesSound R) where
  pub small-merged : AllSmall (merged_of R)
  unfolding merged_of
  small-merged = small_all (ranges_to R R.count) (small-ranges R S R.count (omega arith))

  -- THE LAW: the merged list, packed, is that of the packed ranges
  pub merged-packed : packed_all (merged_of R) ≡ merged_keys R
  unfolding merged_of merged_keys keys_of
  merged-packed =
      packed_all_lem (ranges_to R R.count) (small-ranges R S R.count (omega arith)) ∙ ap merge_keys (ranges-packed R R.count)

-- ---- entries, minutes and gaps

pub length-packed : (l : List Range) → length (packed_all l) ≡ length l
unfolding packed_all
length-packed [] = refl
length-packed (x ∷ l) = ap suc (length-packed l)

-- what an entry's number tells
pub record Unpacked (l : List Range) (k : ℕ) : Type 0 where
  pub person : person_of (get_or (packed_all l) k 0) ≡ get_or (persons_of l) k 0
  pub start : start_of (get_or (packed_all l) k 0) ≡ get_or (starts_of l) k 0
  pub end : end_of (get_or (packed_all l) k 0) ≡ get_or (ends_of l) k 0

pub unpacked : (l : List Range) → AllSmall l → (k : ℕ) → k < length l → Unpacked l k
unfolding packed_all
unpacked [] a k h = absurd (not-suc-le-zero h)
unpacked (x ∷ l) a zero h = record { person = person-packed x a.0; start = start-packed x a.0; end = end-packed x a.0 }
unpacked (x ∷ l) a (suc k) h =
    let u = unpacked l a.1 k (omega arith) in
    record { person = u.person; start = u.start; end = u.end }

pub lies-packed : (p t : ℕ) (l : List Range) → AllSmall l → lies_in l p t ≡ any_of (key_covers p t) (packed_all l)
unfolding lies_in any_of packed_all covers key_covers
lies-packed p t [] a = refl
lies-packed p t (x ∷ l) a =
    let s = a.0 in
    let e : covers p t x ≡ key_covers p t (packed x) = simp (person-packed x s, start-packed x s, end-packed x s) in
    ap₂ ◌||◌ e (lies-packed p t l a.1)

pub spaced-ranges : (from : ℕ) (l : List Range) → AllSmall l → SpacedKeys from (packed_all l) → Spaced l
unfolding packed_all
spaced-ranges from [] a s = tt
spaced-ranges from (x ∷ []) a s = omega (arith, s.1, opens-packed x a.0, closes-packed x a.0)
spaced-ranges from (x ∷ y ∷ l) a s = (
  omega (arith, s.1, opens-packed x a.0, closes-packed x a.0),
  before-packed x y a.0 a.1.0 ∙ lt-ltb (closes (packed x)) (opens (packed y)) s.2.0,
  spaced-ranges (suc (closes (packed x))) (y ∷ l) a.1 s.2,
)

spaced-from : (from : ℕ) (x : Range) (l : List Range) → AllSmall (x ∷ l) → Spaced (x ∷ l) → from ≤ opens (packed x)
    → SpacedKeys from (packed_all (x ∷ l))
unfolding packed_all
spaced-from from x [] a s h = (h, omega (arith, s, opens-packed x a.0, closes-packed x a.0), tt)
spaced-from from x (y ∷ l) a s h = (
  h,
  omega (arith, s.0, opens-packed x a.0, closes-packed x a.0),
  spaced-from (suc (closes (packed x))) y l a.1 s.2
      (ltb-true (closes (packed x)) (opens (packed y)) (sym (before-packed x y a.0 a.1.0) ∙ s.1)),
)

pub spaced-packed : (l : List Range) → AllSmall l → Spaced l → SpacedKeys 0 (packed_all l)
unfolding packed_all
spaced-packed [] a s = tt
spaced-packed (x ∷ l) a s = spaced-from 0 x l a s (omega arith)

-- ---- packing loses nothing

same-ranges : (x y : Range) → Small x → Small y → packed x ≡ packed y → x ≡ y
same-ranges x y s u e =
    let p = sym (person-packed x s) ∙ ap person_of e ∙ person-packed y u in
    let b = sym (start-packed x s) ∙ ap start_of e ∙ start-packed y u in
    let f = sym (end-packed x s) ∙ ap end_of e ∙ end-packed y u in
    made x y.person y.start y.end p b f
  where
    made : (z : Range) (p s e : ℕ) → z.person ≡ p → z.start ≡ s → z.end ≡ e → z ≡ record { person = p; start = s; end = e }
    made z p s e a b c =
        ap₂ {C = Range} (λ (q t : ℕ). record { person = q; start = t; end = z.end }) a b
        ∙ ap {B = Range} (λ (q : ℕ). record { person = p; start = s; end = q }) c

pub unpacked-same : (k l : List Range) → AllSmall k → AllSmall l → packed_all k ≡ packed_all l → k ≡ l
unfolding packed_all
unpacked-same [] [] a b e = refl
unpacked-same [] (y ∷ l) a b e = absurd (omega (arith, ap length e))
unpacked-same (x ∷ k) [] a b e = absurd (omega (arith, ap length e))
unpacked-same (x ∷ k) (y ∷ l) a b e =
    ap₂ ◌∷◌ (same-ranges x y a.0 b.0 (ap (λ (m : List ℕ). get_or m 0 0) e))
    (unpacked-same k l a.1 b.1 (ap (λ (m : List ℕ). drop 1 m) e))

-- a list with gaps whose minutes are all below 100,000,000 is of such ranges
spaced-filled : (x : Range) (l : List Range) → Spaced (x ∷ l) → x.start < x.end
spaced-filled x [] s = s
spaced-filled x (y ∷ l) s = s.0

spaced-rest : (x : Range) (l : List Range) → Spaced (x ∷ l) → Spaced l
spaced-rest x [] s = tt
spaced-rest x (y ∷ l) s = s.2

own-minute : (x : Range) (t : ℕ) → x.start ≤ t → t < x.end → covers x.person t x ≡ true
unfolding covers
own-minute x t a b = and-true _ _ (eq-eqb x.person x.person refl) (and-true _ _ (le-leb _ _ a) (lt-ltb _ _ b))

pub small_of : (l : List Range) → ((p t : ℕ) → lies_in l p t ≡ true → t < 100000000) → Spaced l → AllSmall l
unfolding lies_in
small_of [] f s = tt
small_of (x ∷ l) f s =
    let h = spaced-filled x l s in
    let first = f x.person x.start (or_left _ _ (own-minute x x.start (omega arith) h)) in
    let last = f x.person (x.end - 1) (or_left _ _ (own-minute x (x.end - 1) (omega arith) (omega arith))) in (
      record { start = omega arith; end = omega arith },
      small_of l (λ p t i. f p t (or-second (covers p t x) _ i)) (spaced-rest x l s),
    )
