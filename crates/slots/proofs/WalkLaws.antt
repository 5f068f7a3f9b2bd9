-- The steps of the walk that merges, and of its list. Assumes nothing.
use mathlib.Core.Path.{◌≡◌, refl, sym, ap, ◌∙◌}
use mathlib.Core.List.{List, [], ◌∷◌, ◌++◌, append_assoc, append-nil}
use Prim.Native.Nat.{ℕ, ◌+◌, ◌*◌, ◌/◌, ◌≤◌, ◌<◌, max}
use native.Mathlib.Numerals.{add-one}
use native.Mathlib.Omega.{arith}
use borrow.Author.Tests.{lt-ltb, le-ltb, le-leb, lt-leb}
use lib.Dec.{leb, ltb}
use lib.ListN.{length, get_or, take, drop, set, length-append}
use lib.Seq.{drop-cons, drop-length, length-take-le}
use Rattle.paper.proofs.Logic.{by-test}
use Rattle.slots.specs.Inside.{person_of, start_of, end_of, opens, closes, extended, closed, walk_on}
use Rattle.slots.proofs.Entries.{push}
use Rattle.slots.proofs.Keys.{parts-of, opens-is}

-- ---- one range more

pub closed_some : (z : ℕ) (l : List ℕ) → start_of z < end_of z → closed z l ≡ z ∷ l
unfolding closed
closed_some z l h = simp (lt-ltb (start_of z) (end_of z) h)

pub closed-empty : (z : ℕ) (l : List ℕ) → end_of z ≤ start_of z → closed z l ≡ l
unfolding closed
closed-empty z l h = simp (le-ltb (start_of z) (end_of z) h)

closed-append : (z : ℕ) (l : List ℕ) → closed z l ≡ closed z [] ++ l
unfolding closed
closed-append z l = by-test (ltb (start_of z) (end_of z)) _ (λ t. simp t) (λ f. simp f)

length-closed : (z : ℕ) (l : List ℕ) → length (closed z l) ≡ length (closed z []) + length l
length-closed z l = ap length (closed-append z l) ∙ length-append (closed z []) l

closed-one : (z : ℕ) → length (closed z []) ≤ 1
unfolding closed
closed-one z = by-test (ltb (start_of z) (end_of z)) _ (λ t. simp t (omega arith)) (λ f. simp f (omega arith))

-- a range written at the list's end
module _ (l : List ℕ) (n z s e : ℕ) (a : s ≡ start_of z) (b : e ≡ end_of z) where
  pub close-room : s < e → n + length (closed z []) ≤ length l → n < length l
  close-room h r = omega (arith, r, ap length (closed_some z [] (rw (a, b) at h)))

  pub close-puts : s < e → n + length (closed z []) ≤ length l
      → (n + 1 ≡ n + length (closed z [])) × (take (n + 1) (set l n z) ≡ take n l ++ closed z [])
  close-puts h r =
      let q = closed_some z [] (rw (a, b) at h) in (
        omega (arith, ap length q),
        push l n z (close-room h r) ∙ ap (λ (k : List ℕ). take n l ++ k) (sym q),
      )

  pub close-skips : e ≤ s → (n ≡ n + length (closed z [])) × (take n l ≡ take n l ++ closed z [])
  close-skips h =
      let q = closed-empty z [] (rw (a, b) at h) in
      (omega (arith, ap length q), sym (ap (λ (k : List ℕ). take n l ++ k) q ∙ append-nil (take n l)))

-- ---- the range held open, by where it opened on the line and the minute that it ends at

module _ (opened end : ℕ) (h : end < 268435456) where
  pub held-closes : closes (opened * 268435456 + end) ≡ opened / 268435456 * 268435456 + end
  unfolding closes person_of end_of
  held-closes = omega (arith, (parts-of opened end h).0, (parts-of opened end h).1)

  pub held-later : (x : ℕ) → extended (opened * 268435456 + end) x ≡ opened * 268435456 + max end (end_of x)
  unfolding extended end_of
  held-later x = omega (arith, (parts-of opened end h).0, (parts-of opened end h).1)

pub held_next : (x : ℕ) → opens x * 268435456 + end_of x ≡ x
unfolding end_of
held_next x = omega (arith, opens-is x)

pub opens-lt : (x : ℕ) → x < 18446744073709551616 → opens x < 68719476736
opens-lt x h = omega (arith, opens-is x)

-- ---- the walk

pub walk-length : (z : ℕ) (l : List ℕ) → length (walk_on z l) ≤ length (closed z []) + length l
unfolding walk_on
walk-length z [] = omega arith
walk-length z (x ∷ l) =
    by-test (leb (opens x) (closes z)) _
    (λ t. simp t (omega (arith, walk-length (extended z x) l, closed-one (extended z x))))
    (λ f. simp f (omega (arith, length-closed z (walk_on x l), walk-length x l, closed-one x)))

zero-closed : closed 0 [] ≡ []
unfolding closed start_of end_of
zero-closed = refl

pub walk-few : (l : List ℕ) → length (walk_on 0 l) ≤ length l
walk-few l = omega (arith, walk-length 0 l, ap length zero-closed)

rest : (keys : List ℕ) (i : ℕ) → i < length keys → drop i keys ≡ get_or keys i 0 ∷ drop (i + 1) keys
rest keys i h = drop-cons keys i 0 h ∙ ap (λ (n : ℕ). get_or keys i 0 ∷ drop n keys) (sym (add-one i))

touch_step : (z x : ℕ) (l : List ℕ) → opens x ≤ closes z → walk_on z (x ∷ l) ≡ walk_on (extended z x) l
unfolding walk_on
touch_step z x l h = simp (le-leb (opens x) (closes z) h)

apart-step : (z x : ℕ) (l : List ℕ) → closes z < opens x → walk_on z (x ∷ l) ≡ closed z (walk_on x l)
unfolding walk_on
apart-step z x l h = simp (lt-leb (opens x) (closes z) h)

-- what the walk has written and what it has yet to write are the whole
module _ (keys out : List ℕ) (z n i : ℕ) (inv : take n out ++ walk_on z (drop i keys) ≡ walk_on 0 keys) (h : i < length keys) where
  pub walk-touch : (y : ℕ) → y ≡ extended z (get_or keys i 0) → opens (get_or keys i 0) ≤ closes z
      → take n out ++ walk_on y (drop (i + 1) keys) ≡ walk_on 0 keys
  walk-touch y e g =
      ap (λ (w : ℕ). take n out ++ walk_on w (drop (i + 1) keys)) e
      ∙ ap (λ (w : List ℕ). take n out ++ w) (sym (ap (walk_on z) (rest keys i h) ∙ touch_step z (get_or keys i 0) (drop (i + 1) keys) g))
      ∙ inv

  apart-is : closes z < opens (get_or keys i 0) → take n out ++ (closed z [] ++ walk_on (get_or keys i 0) (drop (i + 1) keys)) ≡ walk_on 0 keys
  apart-is g =
      let x = get_or keys i 0 in
      ap (λ (w : List ℕ). take n out ++ w)
      (sym (ap (walk_on z) (rest keys i h) ∙ apart-step z x (drop (i + 1) keys) g ∙ closed-append z (walk_on x (drop (i + 1) keys)))) ∙ inv

  pub walk-room : n ≤ length out → length keys ≤ length out → closes z < opens (get_or keys i 0) → n + length (closed z []) ≤ length out
  walk-room r q g =
      let w = walk_on (get_or keys i 0) (drop (i + 1) keys) in
      omega (
        arith,
        sym (length-append (take n out) (closed z [] ++ w)) ∙ ap length (apart-is g),
        length-append (closed z []) w,
        length-take-le n out r,
        walk-few keys,
      )

  pub walk-apart : (m : ℕ) (next : List ℕ) → take m next ≡ take n out ++ closed z [] → closes z < opens (get_or keys i 0)
      → take m next ++ walk_on (get_or keys i 0) (drop (i + 1) keys) ≡ walk_on 0 keys
  walk-apart m next e g =
      let w = walk_on (get_or keys i 0) (drop (i + 1) keys) in
      ap (λ (k : List ℕ). k ++ w) e ∙ append_assoc (take n out) (closed z []) w ∙ apart-is g

-- at the end the range held open is closed
module _ (keys out : List ℕ) (z n i : ℕ) (inv : take n out ++ walk_on z (drop i keys) ≡ walk_on 0 keys) (a : i ≤ length keys)
    (b : length keys ≤ i) where
  none_left : drop i keys ≡ []
  none_left = let e : i ≡ length keys = omega arith in ap (λ (k : ℕ). drop k keys) e ∙ drop-length keys

  end_is : take n out ++ closed z [] ≡ walk_on 0 keys
  unfolding walk_on
  end_is = ap (λ (k : List ℕ). take n out ++ walk_on z k) (sym none_left) ∙ inv

  pub walk-last : n ≤ length out → length keys ≤ length out → n + length (closed z []) ≤ length out
  walk-last r q =
      omega (arith, sym (length-append (take n out) (closed z [])) ∙ ap length end_is, length-take-le n out r, walk-few keys)

  pub walk_ends : n ≤ length out → (m : ℕ) (next : List ℕ) → m ≡ n + length (closed z []) → take m next ≡ take n out ++ closed z []
      → (m ≡ length (walk_on 0 keys)) × (take m next ≡ walk_on 0 keys)
  walk_ends r m next e d = (
    omega (arith, sym (length-append (take n out) (closed z [])) ∙ ap length end_is, length-take-le n out r),
    d ∙ end_is,
  )

-- ---- what holds of the walk, i numbers on: the range held open is kept as where it opens on the line and the minute that it ends at

pub record Walking (keys first list : List ℕ) (opened end count i : ℕ) : Type 0 where
  pub within : i ≤ length keys
  pub kept : length list ≡ length first
  pub few : count ≤ length list
  pub so-far : take count list ++ walk_on (opened * 268435456 + end) (drop i keys) ≡ walk_on 0 keys
  pub opened-lt : opened < 68719476736
  pub end-lt : end < 268435456
