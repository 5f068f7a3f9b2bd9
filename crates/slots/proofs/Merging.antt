-- Merged lists: the definition meets the statement over minutes, only one list does, and a walk over ranges in order gives it.
-- Assumes nothing.
use mathlib.Core.Path.{◌≡◌, refl, sym, ap, ap₂, ◌∙◌}
use mathlib.Core.Bool.{Bool, true, false, ◌||◌, or_assoc}
use mathlib.Core.Logic.{⊎_elim}
use mathlib.Core.List.{List, [], ◌∷◌}
use Prim.Native.Nat.{ℕ, zero, suc, ◌+◌, ◌*◌, ◌/◌, ◌%◌, ◌≤◌, ◌<◌, min, max}
use native.Mathlib.Nat.{not-suc-le-zero}
use native.Mathlib.Omega.{arith}
use borrow.Author.Tests.{ltb-true, ltb-false, leb-true, leb-false}
use lib.Dec.{leb, ltb}
use lib.ListN.{length, get_or}
use Rattle.paper.proofs.Logic.{by-test, lt-or-ge, same_test, or_left, or-either, or-second}
use Rattle.slots.specs.Inside.{any_of, person_of, start_of, end_of, opens, closes, SpacedKeys, extended, closed, walk_on}
use Rattle.slots.proofs.Keys.{joined_keys, key_covers, merge_key_in, merge_keys, AreMerged}
use Rattle.slots.proofs.Keys.{in_line, in-line, line-in, opens-joined, closes-joined, empty-line, same-range}
use Rattle.slots.proofs.Entries.{or_swap, any_same, any_none}
use Rattle.slots.proofs.Keys.{covers-line, covers-far, opens-is, end_lt, touch-person, parts-of, end-of}

-- ---- spaced lists

-- nothing of a list lies before where it may begin
pub before-none : (from q : ℕ) (l : List ℕ) → SpacedKeys from l → q < from → any_of (in_line q) l ≡ true → ⊥
unfolding any_of
before-none from q [] s h e = mathlib.Core.Bool.false≢true e
before-none from q (x ∷ l) s h e =
    ⊎_elim
    (λ i. omega (arith, (in-line q x i).0, s.0))
    (λ i. before-none (suc (closes x)) q l s.2 (omega (arith, s.0, s.1)) i)
    (or-either (in_line q x) (any_of (in_line q) l) e)

pub spaced-from : (from to : ℕ) (l : List ℕ) → to ≤ from → SpacedKeys from l → SpacedKeys to l
spaced-from from to [] h s = tt
spaced-from from to (x ∷ l) h s = (omega (arith, s.0), s.1, s.2)

-- no entry is empty, and each closes before any later one opens
pub spaced-filled : (from : ℕ) (l : List ℕ) → SpacedKeys from l → (k : ℕ) → k < length l → opens (get_or l k 0) < closes (get_or l k 0)
spaced-filled from [] s k h = absurd (not-suc-le-zero h)
spaced-filled from (x ∷ l) s zero h = s.1
spaced-filled from (x ∷ l) s (suc k) h = spaced-filled (suc (closes x)) l s.2 k (omega arith)

spaced-after : (from : ℕ) (l : List ℕ) → SpacedKeys from l → (k : ℕ) → k < length l → from ≤ opens (get_or l k 0)
spaced-after from [] s k h = absurd (not-suc-le-zero h)
spaced-after from (x ∷ l) s zero h = s.0
spaced-after from (x ∷ l) s (suc k) h = omega (arith, spaced-after (suc (closes x)) l s.2 k (omega arith), s.0, s.1)

pub spaced-apart : (from : ℕ) (l : List ℕ) → SpacedKeys from l → (k j : ℕ) → k < j → j < length l → closes (get_or l k 0) < opens (get_or l j 0)
spaced-apart from [] s k j h g = absurd (not-suc-le-zero g)
spaced-apart from (x ∷ l) s k zero h g = absurd (not-suc-le-zero h)
spaced-apart from (x ∷ l) s zero (suc j) h g = spaced-after (suc (closes x)) l s.2 j (omega arith)
spaced-apart from (x ∷ l) s (suc k) (suc j) h g = spaced-apart (suc (closes x)) l s.2 k j (omega arith) (omega arith)

-- ---- putting one range in

union-test : (q x y z : ℕ) → opens z ≡ min (opens x) (opens y) → closes z ≡ max (closes x) (closes y) → opens y ≤ closes x
    → opens x ≤ closes y
    → in_line q z ≡ in_line q x || in_line q y
union-test q x y z a b c d =
    same_test (in_line q z) (in_line q x || in_line q y)
    (λ e.
    let i = in-line q z e in
    ⊎_elim
    (λ (h : q < closes x). ⊎_elim
    (λ (g : q < opens x). or-second (in_line q x) _ (line-in q y (omega arith) (omega arith)))
    (λ (g : opens x ≤ q). or_left (in_line q x) _ (line-in q x g h))
    (lt-or-ge q (opens x)))
    (λ (h : closes x ≤ q). or-second (in_line q x) _ (line-in q y (omega arith) (omega arith)))
    (lt-or-ge q (closes x)))
    (λ e. ⊎_elim
    (λ i. let w = in-line q x i in line-in q z (omega arith) (omega arith))
    (λ i. let w = in-line q y i in line-in q z (omega arith) (omega arith))
    (or-either (in_line q x) (in_line q y) e))

-- the list has the range's places as well, and no others
pub put-places : (q x : ℕ) (l : List ℕ) → any_of (in_line q) (merge_key_in x l) ≡ in_line q x || any_of (in_line q) l
unfolding merge_key_in any_of
put-places q x [] = refl
put-places q x (y ∷ l) =
    by-test (ltb (closes x) (opens y)) _
    (λ t. simp t)
    (λ f. by-test (ltb (closes y) (opens x)) _
    (λ t. simp (f, t) (ap (λ (b : Bool). in_line q y || b) (put-places q x l) ∙ or_swap (in_line q y) (in_line q x) (any_of (in_line q) l)))
    (λ g. simp (f, g)
    (let c = ltb-false (closes x) (opens y) f in
    let d = ltb-false (closes y) (opens x) g in
    put-places q (joined_keys x y) l
    ∙ ap (λ (b : Bool). b || any_of (in_line q) l) (union-test q x y (joined_keys x y) (opens-joined x y c d) (closes-joined x y c d) c d)
    ∙ or_assoc (in_line q x) (in_line q y) (any_of (in_line q) l))))

pub put-spaced : (from x : ℕ) (l : List ℕ) → from ≤ opens x → opens x < closes x → SpacedKeys from l → SpacedKeys from (merge_key_in x l)
unfolding merge_key_in
put-spaced from x [] a b s = (a, b, tt)
put-spaced from x (y ∷ l) a b s =
    by-test (ltb (closes x) (opens y)) _
    (λ t. simp t (a, b, (ltb-true (closes x) (opens y) t, s.1, s.2)))
    (λ f. by-test (ltb (closes y) (opens x)) _
    (λ t. simp (f, t) (s.0, s.1, put-spaced (suc (closes y)) x l (ltb-true (closes y) (opens x) t) b s.2))
    (λ g. simp (f, g)
    (let c = ltb-false (closes x) (opens y) f in
    let d = ltb-false (closes y) (opens x) g in
    let o = opens-joined x y c d in
    let e = closes-joined x y c d in
    put-spaced from (joined_keys x y) l (omega (arith, s.0)) (omega arith) (spaced-from (suc (closes y)) from l (omega (arith, s.0, s.1))
    s.2))))

-- an empty range has no place
pub empty-none : (q x : ℕ) → ltb (start_of x) (end_of x) ≡ false → in_line q x ≡ false
empty-none q x f =
    same_test (in_line q x) false
    (λ e. let w = in-line q x e in let g = ltb-false (opens x) (closes x) (sym (empty-line x) ∙ f) in absurd (omega arith))
    (λ e. absurd (mathlib.Core.Bool.false≢true e))

pub all-places : (q : ℕ) (l : List ℕ) → any_of (in_line q) (merge_keys l) ≡ any_of (in_line q) l
unfolding merge_keys any_of
all-places q [] = refl
all-places q (x ∷ l) =
    by-test (ltb (start_of x) (end_of x)) _
    (λ t. simp t (put-places q x (merge_keys l) ∙ ap (λ (b : Bool). in_line q x || b) (all-places q l)))
    (λ f. simp (f, empty-none q x f) (all-places q l))

pub all-spaced : (l : List ℕ) → SpacedKeys 0 (merge_keys l)
unfolding merge_keys
all-spaced [] = tt
all-spaced (x ∷ l) =
    by-test (ltb (start_of x) (end_of x)) _
    (λ t. simp t (put-spaced 0 x (merge_keys l) (omega arith) (ltb-true (opens x) (closes x) (sym (empty-line x) ∙ t)) (all-spaced l)))
    (λ f. simp f (all-spaced l))

-- ---- only one list has these places

module _ (x y : ℕ) (k l : List ℕ) (from : ℕ) (s : SpacedKeys from (x ∷ k)) (u : SpacedKeys from (y ∷ l))
    (same : (q : ℕ) → in_line q x || any_of (in_line q) k ≡ in_line q y || any_of (in_line q) l) where
  head-opens : opens y ≤ opens x
  head-opens =
      let e = sym (same (opens x)) ∙ or_left (in_line (opens x) x) _ (line-in (opens x) x (omega arith) s.1) in
      ⊎_elim
      (λ i. (in-line (opens x) y i).0)
      (λ i. ⊎_elim
      (λ (h : opens x < suc (closes y)). absurd (before-none (suc (closes y)) (opens x) l u.2 h i))
      (λ (h : suc (closes y) ≤ opens x). omega (arith, u.1))
      (lt-or-ge (opens x) (suc (closes y))))
      (or-either (in_line (opens x) y) (any_of (in_line (opens x)) l) e)

  head-closes : opens x ≡ opens y → closes y ≤ closes x
  head-closes o =
      ⊎_elim
      (λ (h : closes x < closes y).
      let e = same (closes x) ∙ or_left (in_line (closes x) y) _ (line-in (closes x) y (omega (arith, s.1)) h) in
      ⊎_elim
      (λ i. absurd (omega (arith, (in-line (closes x) x i).1)))
      (λ i. absurd (before-none (suc (closes x)) (closes x) k s.2 (omega arith) i))
      (or-either (in_line (closes x) x) (any_of (in_line (closes x)) k) e))
      (λ h. h)
      (lt-or-ge (closes x) (closes y))

-- a place of the rest is one of the whole, past the first entry's close
rest-places : (x y : ℕ) (k l : List ℕ) → x ≡ y → SpacedKeys (suc (closes x)) k → SpacedKeys (suc (closes y)) l
    → ((q : ℕ) → in_line q x || any_of (in_line q) k ≡ in_line q y || any_of (in_line q) l)
    → (q : ℕ) → any_of (in_line q) k ≡ true → any_of (in_line q) l ≡ true
rest-places x y k l e s u same q i =
    ⊎_elim
    (λ (h : q < suc (closes x)). absurd (before-none (suc (closes x)) q k s h i))
    (λ (h : suc (closes x) ≤ q).
    ⊎_elim
    (λ j. absurd (omega (arith, (in-line q y j).1, ap closes e)))
    (λ j. j)
    (or-either (in_line q y) (any_of (in_line q) l) (sym (same q) ∙ or-second (in_line q x) _ i)))
    (lt-or-ge q (suc (closes x)))

pub one-spaced : (from : ℕ) (k l : List ℕ) → SpacedKeys from k → SpacedKeys from l
    → ((q : ℕ) → any_of (in_line q) k ≡ any_of (in_line q) l) → k ≡ l
unfolding any_of
one-spaced from [] [] s u same = refl
one-spaced from [] (y ∷ l) s u same =
    absurd (mathlib.Core.Bool.false≢true (same (opens y) ∙ or_left (in_line (opens y) y) _ (line-in (opens y) y (omega arith) u.1)))
one-spaced from (x ∷ k) [] s u same =
    absurd (mathlib.Core.Bool.false≢true (sym (same (opens x)) ∙ or_left (in_line (opens x) x) _ (line-in (opens x) x (omega arith)
    s.1)))
one-spaced from (x ∷ k) (y ∷ l) s u same =
    let back : (q : ℕ) → in_line q y || any_of (in_line q) l ≡ in_line q x || any_of (in_line q) k = λ q. sym (same q) in
    let o : opens x ≡ opens y = omega (arith, head-opens x y k l from s u same, head-opens y x l k from u s back) in
    let c : closes x ≡ closes y = omega (arith, head-closes x y k l from s u same o, head-closes y x l k from u s back (sym o)) in
    let e : x ≡ y = same-range x y o c in
    ap₂ ◌∷◌ e
    (one-spaced (suc (closes x)) k l s.2 (rw c u.2)
    (λ q. same_test (any_of (in_line q) k) (any_of (in_line q) l)
    (rest-places x y k l e s.2 u.2 same q)
    (rest-places y x l k (sym e) u.2 s.2 back q)))

-- ---- the walk over ranges in order

-- each opens no earlier than the one before it, and none is reversed
abbrev pub Rising : ℕ → List ℕ → Type 0
Rising from [] = Unit
Rising from (x ∷ l) = (from ≤ opens x) × (opens x ≤ closes x) × Rising (opens x) l

rising-from : (from to : ℕ) (l : List ℕ) → to ≤ from → Rising from l → Rising to l
rising-from from to [] h s = tt
rising-from from to (x ∷ l) h s = (omega (arith, s.0), s.1, s.2)

opens-extended : (z x : ℕ) → opens (extended z x) ≡ opens z
unfolding extended
opens-extended z x =
    rw (opens-is (z / 268435456 * 268435456 + max (end_of z) (end_of x)), opens-is z)
    (omega (arith, end_lt z, end_lt x))

person-extended : (z x : ℕ) → person_of (extended z x) ≡ person_of z
unfolding extended person_of
person-extended z x =
    ap (λ (n : ℕ). n / 268435456) (parts-of (z / 268435456) (max (end_of z) (end_of x)) (omega (arith, end_lt z, end_lt x))).0

end-extended : (z x : ℕ) → end_of (extended z x) ≡ max (end_of z) (end_of x)
unfolding extended
end-extended z x = end-of (z / 268435456) (max (end_of z) (end_of x)) (omega (arith, end_lt z, end_lt x))

closes-extended : (z x : ℕ) → person_of z ≡ person_of x → closes (extended z x) ≡ max (closes z) (closes x)
unfolding closes
closes-extended z x e = omega (arith, person-extended z x, end-extended z x)

module _ (z x : ℕ) (a : opens z ≤ opens x) (b : opens x ≤ closes x) (t : opens x ≤ closes z) where
  closes-grown : closes (extended z x) ≡ max (closes z) (closes x)
  closes-grown = closes-extended z x (touch-person z x t (omega arith))

  extended-places : (q : ℕ) → in_line q (extended z x) ≡ in_line q z || in_line q x
  extended-places q =
      let o : opens (extended z x) ≡ min (opens z) (opens x) = omega (arith, opens-extended z x) in
      union-test q z x (extended z x) o closes-grown t (omega arith)

closed-places : (q z : ℕ) (l : List ℕ) → any_of (in_line q) (closed z l) ≡ in_line q z || any_of (in_line q) l
unfolding closed any_of
closed-places q z l = by-test (ltb (start_of z) (end_of z)) _ (λ t. simp t) (λ f. simp (f, empty-none q z f))

pub walk-places : (q z : ℕ) (l : List ℕ) → Rising (opens z) l → any_of (in_line q) (walk_on z l) ≡ in_line q z || any_of (in_line q) l
unfolding walk_on any_of
walk-places q z [] s = closed-places q z []
walk-places q z (x ∷ l) s =
    by-test (leb (opens x) (closes z)) _
    (λ t.
    let h = leb-true (opens x) (closes z) t in
    simp t
    (walk-places q (extended z x) l (rising-from (opens x) (opens (extended z x)) l (omega (arith, opens-extended z x, s.0)) s.2)
    ∙ ap (λ (b : Bool). b || any_of (in_line q) l) (extended-places z x s.0 s.1 h q)
    ∙ or_assoc (in_line q z) (in_line q x) (any_of (in_line q) l)))
    (λ f. simp f (closed-places q z (walk_on x l) ∙ ap (λ (b : Bool). in_line q z || b) (walk-places q x l s.2)))

closed-spaced : (from z : ℕ) (l : List ℕ) → from ≤ opens z → opens z ≤ closes z → SpacedKeys (suc (closes z)) l
    → SpacedKeys from (closed z l)
unfolding closed
closed-spaced from z l h g s =
    by-test (ltb (start_of z) (end_of z)) _
    (λ t. simp t (h, ltb-true (opens z) (closes z) (sym (empty-line z) ∙ t), s))
    (λ f. simp f (spaced-from (suc (closes z)) from l (omega arith) s))

pub walk-spaced : (from z : ℕ) (l : List ℕ) → Rising (opens z) l → from ≤ opens z → opens z ≤ closes z → SpacedKeys from (walk_on z l)
unfolding walk_on
walk-spaced from z [] s h g = closed-spaced from z [] h g tt
walk-spaced from z (x ∷ l) s h g =
    by-test (leb (opens x) (closes z)) _
    (λ t.
    let b = leb-true (opens x) (closes z) t in
    let o = opens-extended z x in
    let c = closes-grown z x s.0 s.1 b in
    simp t
    (walk-spaced from (extended z x) l (rising-from (opens x) (opens (extended z x)) l (omega (arith, s.0)) s.2) (omega arith)
    (omega arith)))
    (λ f.
    let b = leb-false (opens x) (closes z) f in
    simp f (closed-spaced from z (walk_on x l) h g (walk-spaced (suc (closes z)) x l s.2 b s.1)))

-- ---- in minutes

pub any-minutes : (p t : ℕ) (l : List ℕ) → t < 268435456 → any_of (key_covers p t) l ≡ any_of (in_line (p * 268435456 + t)) l
any-minutes p t l h = any_same (key_covers p t) (in_line (p * 268435456 + t)) l (λ x. covers-line p t x h)

-- lists with the same places have the same minutes
pub places-minutes : (k l : List ℕ) → ((q : ℕ) → any_of (in_line q) k ≡ any_of (in_line q) l) → (p t : ℕ)
    → any_of (key_covers p t) k ≡ any_of (key_covers p t) l
places-minutes k l f p t =
    ⊎_elim
    (λ (h : t < 268435456). any-minutes p t k h ∙ f (p * 268435456 + t) ∙ sym (any-minutes p t l h))
    (λ (h : 268435456 ≤ t). any_none (key_covers p t) k (λ x. covers-far p t x h)
    ∙ sym (any_none (key_covers p t) l (λ x. covers-far p t x h)))
    (lt-or-ge t 268435456)

-- and the other way round
pub minutes-places : (k l : List ℕ) → ((p t : ℕ) → any_of (key_covers p t) k ≡ any_of (key_covers p t) l) → (q : ℕ)
    → any_of (in_line q) k ≡ any_of (in_line q) l
minutes-places k l f q =
    let p = q / 268435456 in
    let t = q % 268435456 in
    let h : t < 268435456 = omega arith in
    let e : p * 268435456 + t ≡ q = omega arith in
    ap (λ (x : ℕ). any_of (in_line x) k) (sym e) ∙ sym (any-minutes p t k h) ∙ f p t ∙ any-minutes p t l h
    ∙ ap (λ (x : ℕ). any_of (in_line x) l) e

-- only one list is the merged list of these minutes
pub one-merged : (lies : ℕ → ℕ → Bool) (k l : List ℕ) → AreMerged lies k → AreMerged lies l → k ≡ l
one-merged lies k l a b =
    one-spaced 0 k l a.spaced b.spaced (minutes-places k l (λ p t. a.minutes p t ∙ sym (b.minutes p t)))
