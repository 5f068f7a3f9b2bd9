-- Ranges as single numbers, and on the line of everybody's minutes. Assumes nothing.
use mathlib.Core.Path.{◌≡◌}
use mathlib.Core.Bool.{Bool, true, false, ◌&&◌, cond, and-false}
use mathlib.Core.List.{List, [], ◌∷◌}
use Prim.Native.Nat.{ℕ, ◌+◌, ◌*◌, ◌/◌, ◌%◌, ◌≤◌, ◌<◌, min, max}
use native.Mathlib.Omega.{arith}
use borrow.Author.Tests.{ltb-true, leb-true, eqb-true, lt-ltb, le-ltb, le-leb, eq-eqb}
use lib.Dec.{leb, ltb, eqb}
use Rattle.paper.proofs.Logic.{both, three, and-true, same_test}
use Rattle.slots.specs.Ranges.{Ranges}
use Rattle.slots.specs.Inside.{any_of, key_of, person_of, start_of, end_of, keys_of, opens, closes, SpacedKeys}

-- the range x is the person's and minute t lies in it
unfoldable pub key_covers : ℕ → ℕ → ℕ → Bool
key_covers person t x = eqb (person_of x) person && (leb (start_of x) t && ltb t (end_of x))

-- the range from the first start to the last end of two that touch
unfoldable pub joined_keys : ℕ → ℕ → ℕ
joined_keys x y = key_of (person_of x) (min (start_of x) (start_of y)) (max (end_of x) (end_of y))

-- a range put into a merged list: before the first that it doesn't touch, or joined with each that it touches
unfoldable pub merge_key_in : ℕ → List ℕ → List ℕ
merge_key_in x [] = x ∷ []
merge_key_in x (y ∷ l) =
    cond (ltb (closes x) (opens y)) (x ∷ y ∷ l) (cond (ltb (closes y) (opens x)) (y ∷ merge_key_in x l) (merge_key_in (joined_keys x y) l))

-- the ranges merged, empty ones dropped
unfoldable pub merge_keys : List ℕ → List ℕ
merge_keys [] = []
merge_keys (x ∷ l) = cond (ltb (start_of x) (end_of x)) (merge_key_in x (merge_keys l)) (merge_keys l)

unfoldable pub merged_keys : Ranges → List ℕ
merged_keys R = merge_keys (keys_of R)

-- l is the merged list of the minutes that `lies` says: person by person ascending, with gaps, none empty, and exactly these minutes
pub record AreMerged (lies : ℕ → ℕ → Bool) (l : List ℕ) : Type 0 where
  pub spaced : SpacedKeys 0 l
  pub minutes : (person t : ℕ) → any_of (key_covers person t) l ≡ lies person t

-- the two parts of a number, and the last of them
pub parts-of : (n m : ℕ) → m < 268435456 → ((n * 268435456 + m) / 268435456 ≡ n) × ((n * 268435456 + m) % 268435456 ≡ m)
parts-of n m h = (omega arith, omega arith)

pub end-of : (n m : ℕ) → m < 268435456 → end_of (n * 268435456 + m) ≡ m
unfolding end_of
end-of n m h = (parts-of n m h).1

-- the three parts of a range
pub person-key : (p s e : ℕ) → s < 268435456 → e < 268435456 → person_of (key_of p s e) ≡ p
unfolding person_of key_of
person-key p s e hs he = omega arith

pub start-key : (p s e : ℕ) → s < 268435456 → e < 268435456 → start_of (key_of p s e) ≡ s
unfolding start_of key_of
start-key p s e hs he = omega arith

pub end-key : (p s e : ℕ) → e < 268435456 → end_of (key_of p s e) ≡ e
unfolding key_of
end-key p s e he = end-of (p * 268435456 + s) e he

pub start-lt : (x : ℕ) → start_of x < 268435456
unfolding start_of
start-lt x = omega arith

pub end_lt : (x : ℕ) → end_of x < 268435456
unfolding end_of
end_lt x = omega arith

-- the line
pub opens-is : (x : ℕ) → opens x ≡ x / 268435456
unfolding opens person_of start_of
opens-is x = omega arith

pub same-range : (x y : ℕ) → opens x ≡ opens y → closes x ≡ closes y → x ≡ y
unfolding opens closes person_of start_of end_of
same-range x y a b = omega arith

pub opens-mono : (x y : ℕ) → x ≤ y → opens x ≤ opens y
opens-mono x y h = rw (opens-is x, opens-is y) (omega arith)

-- the joined range of two that touch
module _ (x y : ℕ) where
  person-joined : person_of (joined_keys x y) ≡ person_of x
  unfolding joined_keys
  person-joined =
      person-key (person_of x) (min (start_of x) (start_of y)) (max (end_of x) (end_of y)) (omega (arith, start-lt x)) (omega
      (arith, end_lt x, end_lt y))

  start-joined : start_of (joined_keys x y) ≡ min (start_of x) (start_of y)
  unfolding joined_keys
  start-joined =
      start-key (person_of x) (min (start_of x) (start_of y)) (max (end_of x) (end_of y)) (omega (arith, start-lt x)) (omega
      (arith, end_lt x, end_lt y))

  end-joined : end_of (joined_keys x y) ≡ max (end_of x) (end_of y)
  unfolding joined_keys
  end-joined =
      end-key (person_of x) (min (start_of x) (start_of y)) (max (end_of x) (end_of y)) (omega (arith, end_lt x, end_lt y))

  -- two that touch are one person's
  pub touch-person : opens y ≤ closes x → opens x ≤ closes y → person_of x ≡ person_of y
  unfolding opens closes
  touch-person a b = omega (arith, start-lt x, start-lt y, end_lt x, end_lt y)

  pub opens-joined : opens y ≤ closes x → opens x ≤ closes y → opens (joined_keys x y) ≡ min (opens x) (opens y)
  unfolding opens
  opens-joined a b =
      let p = touch-person a b in
      sums (person_of (joined_keys x y)) (start_of (joined_keys x y)) (person_of x) (start_of x) (person_of y) (start_of y)
      person-joined p start-joined
    where
      sums : (pz sz px sx py sy : ℕ) → pz ≡ px → px ≡ py → sz ≡ min sx sy
          → pz * 268435456 + sz ≡ min (px * 268435456 + sx) (py * 268435456 + sy)
      sums pz sz px sx py sy a b d = omega arith

  pub closes-joined : opens y ≤ closes x → opens x ≤ closes y → closes (joined_keys x y) ≡ max (closes x) (closes y)
  unfolding closes
  closes-joined a b =
      let p = touch-person a b in
      sums (person_of (joined_keys x y)) (end_of (joined_keys x y)) (person_of x) (end_of x) (person_of y) (end_of y) person-joined p end-joined
    where
      sums : (pz sz px sx py sy : ℕ) → pz ≡ px → px ≡ py → sz ≡ max sx sy
          → pz * 268435456 + sz ≡ max (px * 268435456 + sx) (py * 268435456 + sy)
      sums pz sz px sx py sy a b d = omega arith

-- a range is empty on the line exactly where its start is not below its end
pub empty-line : (x : ℕ) → ltb (start_of x) (end_of x) ≡ ltb (opens x) (closes x)
unfolding opens closes
empty-line x =
    same_test (ltb (start_of x) (end_of x)) (ltb (person_of x * 268435456 + start_of x) (person_of x * 268435456 + end_of x))
    (λ h. lt-ltb (person_of x * 268435456 + start_of x) (person_of x * 268435456 + end_of x) (omega (arith, ltb-true (start_of x) (end_of x) h)))
    (λ h. lt-ltb (start_of x) (end_of x) (omega (arith, ltb-true (person_of x * 268435456 + start_of x) (person_of x * 268435456 + end_of x) h)))

-- place q of the line lies in the range x
unfoldable pub in_line : ℕ → ℕ → Bool
in_line q x = leb (opens x) q && ltb q (closes x)

pub in-line : (q x : ℕ) → in_line q x ≡ true → (opens x ≤ q) × (q < closes x)
unfolding in_line
in-line q x e = let h = both (leb (opens x) q) (ltb q (closes x)) e in (leb-true _ _ h.0, ltb-true _ _ h.1)

pub line-in : (q x : ℕ) → opens x ≤ q → q < closes x → in_line q x ≡ true
unfolding in_line
line-in q x a b = and-true _ _ (le-leb _ _ a) (lt-ltb _ _ b)

module _ (p t x : ℕ) where
  to-open : person_of x ≡ p → start_of x ≤ t → opens x ≤ p * 268435456 + t
  unfolding opens
  to-open a b = omega arith

  to-close : person_of x ≡ p → t < end_of x → p * 268435456 + t < closes x
  unfolding closes
  to-close a b = omega arith

  back : t < 268435456 → opens x ≤ p * 268435456 + t → p * 268435456 + t < closes x
      → (person_of x ≡ p) × (start_of x ≤ t) × (t < end_of x)
  unfolding opens closes
  back h a b =
      let q : person_of x ≡ p = omega (arith, start-lt x, end_lt x) in
      (q, omega arith, omega arith)

-- minute t of person p lies in the range x
pub covers-says : (p t x : ℕ) → key_covers p t x ≡ true → (person_of x ≡ p) × (start_of x ≤ t) × (t < end_of x)
unfolding key_covers
covers-says p t x e =
    let w = three (eqb (person_of x) p) (leb (start_of x) t) (ltb t (end_of x)) e in
    (eqb-true _ _ w.0, leb-true _ _ w.1, ltb-true _ _ w.2)

pub says-covers : (p t x : ℕ) → person_of x ≡ p → start_of x ≤ t → t < end_of x → key_covers p t x ≡ true
unfolding key_covers
says-covers p t x a b d = and-true _ _ (eq-eqb _ _ a) (and-true _ _ (le-leb _ _ b) (lt-ltb _ _ d))

-- a person's minute on the line
pub covers-line : (p t x : ℕ) → t < 268435456 → key_covers p t x ≡ in_line (p * 268435456 + t) x
covers-line p t x h =
    same_test (key_covers p t x) (in_line (p * 268435456 + t) x)
    (λ e. let w = covers-says p t x e in line-in _ x (to-open p t x w.0 w.1) (to-close p t x w.0 w.2))
    (λ e.
    let w = in-line _ x e in
    let u = back p t x h w.0 w.1 in
    says-covers p t x u.0 u.1 u.2)

-- a minute past the line's width is nobody's
pub covers-far : (p t x : ℕ) → 268435456 ≤ t → key_covers p t x ≡ false
unfolding key_covers
covers-far p t x h =
    let f : ltb t (end_of x) ≡ false = le-ltb t (end_of x) (omega (arith, end_lt x)) in
    simp (f, and-false)
