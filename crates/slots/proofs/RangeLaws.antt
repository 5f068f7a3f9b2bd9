-- Lent ranges: what their checks say, the ranges as numbers, and that the merged list is the one of their minutes. Assumes nothing.
use mathlib.Core.Path.{◌≡◌, refl, sym, ap, ap₂, ◌∙◌}
use mathlib.Core.Bool.{Bool, true, false, ◌&&◌, ◌||◌, or-false}
use mathlib.Core.Logic.{⊎_elim}
use mathlib.Core.List.{List, [], ◌∷◌, ◌++◌}
use Prim.Native.Nat.{ℕ, zero, suc, ◌+◌, ◌-◌, ◌*◌, ◌≤◌, ◌<◌}
use native.Mathlib.Nat.{le_antisymm, not-suc-le-zero}
use native.Mathlib.Numerals.{add-one}
use native.Mathlib.Omega.{arith}
use borrow.Author.Tests.{ltb-true, ltb-false, leb-true, eqb-true, lt-ltb, le-ltb, le-leb, lt-leb, eq-eqb}
use lib.Dec.{leb, ltb, eqb}
use lib.ListN.{length, get_or, take, drop, set, length-append, length-drop, get_or-append}
use lib.Seq.{take_at, length-take-le, get_or-append_seam}
use Rattle.paper.specs.Limits.{people_ok}
use Rattle.paper.specs.Count.{all, some}
use Rattle.paper.proofs.Logic.{both, three, people-says, below_suc, lt-or-ge, same_test, and-true, or_left, or-second, or-either}
use Rattle.paper.proofs.Count.{all_more, all-fails, all_done, all-each, each_all, all_same, some_one}
use Rattle.slots.specs.Ranges.{range_at, Range, Ranges, range_count_ok, range_room_ok, range_ok, range_ok_at, ranges_ok, covers, in_ranges}
use Rattle.std.specs.List.{IsAllAdjacentAnswer}
use Rattle.slots.specs.Merged.{merged_of, IsMerged}
use Rattle.slots.specs.Inside.{any_of, key_of, person_of, start_of, end_of, key_at, keys_to, keys_of, opens, closes, packed_all}
use Rattle.slots.specs.Inside.{RangesSound, SortedTo, SameEntries, not_after, rises, in_order, walk_on, MergedFrom}
use Rattle.slots.proofs.Keys.{key_covers, merge_keys, merged_keys, AreMerged}
use Rattle.slots.proofs.Packed.{small-merged, merged-packed, lies-packed, spaced-ranges, spaced-packed, unpacked-same, small_of}
use Rattle.slots.proofs.WalkLaws.{walk-few}
use Rattle.slots.proofs.Keys.{person-key, start-key, end-key, in_line, opens-mono}
use Rattle.slots.proofs.Entries.{any_append, any-not, push}
use Rattle.slots.proofs.Merging.{all-places, all-spaced, places-minutes, one-merged, Rising}
use Rattle.slots.proofs.Merging.{empty-none, walk-places, walk-spaced}

-- ---- what the checks say

pub range-room-says : (R : Ranges) → range_room_ok R ≡ true
    → (R.count ≤ length R.persons) × (R.count ≤ length R.starts) × (R.count ≤ length R.ends)
unfolding range_room_ok
range-room-says R e =
    let x = three (leb R.count (length R.persons)) (leb R.count (length R.starts)) (leb R.count (length R.ends)) e in
    (leb-true _ _ x.0, leb-true _ _ x.1, leb-true _ _ x.2)

range-says : (people : ℕ) (R : Ranges) (k : ℕ) → range_ok_at people R k ≡ true
    → (get_or R.starts k 0 ≤ get_or R.ends k 0) × (get_or R.ends k 0 ≤ 100000000) × (get_or R.persons k 0 < people)
unfolding range_ok_at range_ok
range-says people R k e =
    let p = get_or R.persons k 0 in
    let s = get_or R.starts k 0 in
    let f = get_or R.ends k 0 in
    let x = three (leb s f) (leb f 100000000) (ltb p people) e in
    (leb-true _ _ x.0, leb-true _ _ x.1, ltb-true _ _ x.2)

pub ranges-sound : (people : ℕ) (R : Ranges) → people_ok people ≡ true → range_count_ok R.count ≡ true → ranges_ok people R ≡ true
    → RangesSound R
unfolding range_count_ok ranges_ok
ranges-sound people R a b e =
    let x = both (range_room_ok R) (all R.count (range_ok_at people R)) e in
    let r = range-room-says R x.0 in
    let f = all-each R.count (range_ok_at people R) x.1 in
    record {
      few = leb-true _ _ b;
      persons-room = r.0;
      starts-room = r.1;
      ends-room = r.2;
      known = λ k h. omega (arith, (range-says people R k (f k h)).2, (people-says people a).1);
      ordered = λ k h. (range-says people R k (f k h)).0;
      capped = λ k h. (range-says people R k (f k h)).1;
    }

-- each is a known person's
pub ranges-known : (people : ℕ) (R : Ranges) → ranges_ok people R ≡ true → (k : ℕ) → k < R.count → get_or R.persons k 0 < people
unfolding ranges_ok
ranges-known people R e k h =
    let x = both (range_room_ok R) (all R.count (range_ok_at people R)) e in
    (range-says people R k (all-each R.count (range_ok_at people R) x.1 k h)).2

-- ---- the ranges as numbers

pub length-keys : (R : Ranges) (n : ℕ) → length (keys_to R n) ≡ n
unfolding keys_to
length-keys R zero = refl
length-keys R (suc n) = length-append (keys_to R n) (key_at R n ∷ []) ∙ omega (arith, length-keys R n)

pub keys_none : (R : Ranges) → keys_to R 0 ≡ []
unfolding keys_to
keys_none R = refl

pub keys-more : (R : Ranges) (n : ℕ) → keys_to R (n + 1) ≡ keys_to R n ++ (key_at R n ∷ [])
unfolding keys_to
keys-more R n = ap (keys_to R) (add-one n)

module _ (R : Ranges) (S : RangesSound R) (k : ℕ) (h : k < R.count) where
  pub person-at : person_of (key_at R k) ≡ get_or R.persons k 0
  unfolding key_at
  person-at = person-key _ _ _ (omega (arith, S.ordered k h, S.capped k h)) (omega (arith, S.capped k h))

  pub start-at : start_of (key_at R k) ≡ get_or R.starts k 0
  unfolding key_at
  start-at = start-key _ _ _ (omega (arith, S.ordered k h, S.capped k h)) (omega (arith, S.capped k h))

  pub end-at : end_of (key_at R k) ≡ get_or R.ends k 0
  unfolding key_at
  end-at = end-key _ _ _ (omega (arith, S.capped k h))

  pub covers_at : (p t : ℕ) → key_covers p t (key_at R k) ≡ covers p t (range_at R k)
  unfolding key_covers covers
  covers_at p t = simp (person-at, start-at, end-at)

-- the numbers have the minutes of the ranges
pub keys-minutes : (R : Ranges) → RangesSound R → (n : ℕ) → n ≤ R.count → (p t : ℕ)
    → any_of (key_covers p t) (keys_to R n) ≡ some n (λ k. covers p t (range_at R k))
unfolding any_of keys_to some
keys-minutes R S zero h p t = refl
keys-minutes R S (suc n) h p t =
    any_append (key_covers p t) (keys_to R n) (key_at R n ∷ [])
    ∙ ap₂ ◌||◌ (keys-minutes R S n (omega arith) p t) (or-false (key_covers p t (key_at R n)) ∙ covers_at R S n (omega arith) p t)

proper-at : (R : Ranges) → RangesSound R → (k : ℕ) → k < R.count → ltb (closes (key_at R k)) (opens (key_at R k)) ≡ false
unfolding closes opens
proper-at R S k h =
    le-ltb (person_of (key_at R k) * 268435456 + end_of (key_at R k)) (person_of (key_at R k) * 268435456 + start_of (key_at R k))
    (omega (arith, start-at R S k h, end-at R S k h, S.ordered k h))

-- no number is of a reversed range
pub keys-proper : (R : Ranges) → RangesSound R → (n : ℕ) → n ≤ R.count → any_of (λ x. ltb (closes x) (opens x)) (keys_to R n) ≡ false
unfolding any_of keys_to
keys-proper R S zero h = refl
keys-proper R S (suc n) h =
    any_append (λ x. ltb (closes x) (opens x)) (keys_to R n) (key_at R n ∷ [])
    ∙ ap₂ ◌||◌ (keys-proper R S n (omega arith)) (or-false (ltb (closes (key_at R n)) (opens (key_at R n))) ∙ proper-at R S n (omega arith))

-- ---- the merged list

pub merged-is : (R : Ranges) → RangesSound R → AreMerged (in_ranges R) (merged_keys R)
unfolding merged_keys keys_of in_ranges
merged-is R S =
    record {
      spaced = all-spaced (keys_to R R.count);
      minutes = λ p t.
          places-minutes (merge_keys (keys_to R R.count)) (keys_to R R.count) (λ q. all-places q (keys_to R R.count)) p t
          ∙ keys-minutes R S R.count (omega arith) p t;
    }

-- the merged ranges meet the statement over minutes, and only they do
module _ (R : Ranges) (S : RangesSound R) where
  pub merged-ranges-are : IsMerged (in_ranges R) (merged_of R)
  merged-ranges-are =
      let M = merged-is R S in
      let a = small-merged R S in
      record {
        spaced = spaced-ranges 0 (merged_of R) a (rw (merged-packed R S) M.spaced);
        minutes = λ p t. lies-packed p t (merged_of R) a ∙ ap (any_of (key_covers p t)) (merged-packed R S) ∙ M.minutes p t;
      }

  -- no minute of the ranges is past the last
  lies-below : (p t : ℕ) → in_ranges R p t ≡ true → t < 100000000
  unfolding in_ranges covers
  lies-below p t e =
      some_one R.count (λ k. covers p t (range_at R k)) _ e
      (λ k h i.
      let w = three (eqb (get_or R.persons k 0) p) (leb (get_or R.starts k 0) t) (ltb t (get_or R.ends k 0)) i in
      omega (arith, ltb-true t (get_or R.ends k 0) w.2, S.capped k h))

  pub one-merged-ranges : (l : List Range) → IsMerged (in_ranges R) l → l ≡ merged_of R
  one-merged-ranges l M =
      let a = small_of l (λ p t i. lies-below p t (sym (M.minutes p t) ∙ i)) M.spaced in
      let packs : AreMerged (in_ranges R) (packed_all l) = record {
        spaced = spaced-packed l a M.spaced;
        minutes = λ p t. sym (lies-packed p t l a) ∙ M.minutes p t;
      } in
      unpacked-same l (merged_of R) a (small-merged R S)
      (one-merged (in_ranges R) (packed_all l) (merged_keys R) packs (merged-is R S) ∙ sym (merged-packed R S))

-- ---- numbers in order

zero-order : ltb (closes 0) (opens 0) ≡ false
unfolding closes opens person_of start_of end_of
zero-order = refl

zero-empty : ltb (start_of 0) (end_of 0) ≡ false
unfolding start_of end_of
zero-empty = refl

-- the number 0 is an empty range
zero-line : (opens 0 ≤ closes 0) × ((q : ℕ) → in_line q 0 ≡ false)
zero-line = (ltb-false (closes 0) (opens 0) zero-order, λ q. empty-none q 0 zero-empty)

-- ranges in order, pair by pair
pairs-in-order : (l : List ℕ) → in_order l ≡ true → (k : ℕ) → suc k < length l → opens (get_or l k 0) ≤ opens (get_or l (suc k) 0)
unfolding in_order rises
pairs-in-order l e k h = leb-true _ _ (all-each (length l - 1) (rises l) e k (omega arith))

-- numbers that never fall are ranges in order
pub sorted-in-order : (n : ℕ) (l : List ℕ) → n ≡ length l → SortedTo n l → in_order l ≡ true
unfolding in_order rises
sorted-in-order n l e s =
    each_all (length l - 1) (rises l)
    (λ k h. le-leb _ _ (opens-mono (get_or l k 0) (get_or l (suc k) 0) (s k (suc k) (omega arith) (omega arith))))

-- the test, pair by pair
pub rises-more : (l : List ℕ) (i : ℕ) → all i (rises l) ≡ true → opens (get_or l i 0) ≤ opens (get_or l (i + 1) 0)
    → all (i + 1) (rises l) ≡ true
unfolding rises
rises-more l i e h = all_more i (rises l) e (le-leb (opens (get_or l i 0)) (opens (get_or l (suc i) 0)) (rw (add-one i) at h))

pub rises-not : (l : List ℕ) (i : ℕ) → i + 1 < length l → opens (get_or l (i + 1) 0) < opens (get_or l i 0) → false ≡ in_order l
unfolding in_order rises
rises-not l i b h =
    sym (all-fails (length l - 1) i (rises l) (omega arith) (lt-leb (opens (get_or l i 0)) (opens (get_or l (suc i) 0)) (rw (add-one i) at h)))

pub rises-done : (l : List ℕ) (i : ℕ) → i ≤ length l - 1 → length l ≤ i + 1 → all i (rises l) ≡ true → true ≡ in_order l
unfolding in_order
rises-done l i a b e = all_done (length l - 1) i (rises l) a (omega arith) e

-- what `is_sorted_by` answers by where ranges open
pub order-answer : (l : List ℕ) (r : Bool) → IsAllAdjacentAnswer (λ x y b. b ≡ leb (opens x) (opens y)) l r → r ≡ in_order l
unfolding in_order rises
order-answer l true h = sym (each_all (length l - 1) (rises l) (λ k a. rw (← add-one k) (sym (h k 0 (omega arith)))))
order-answer l false h = sym (all-fails (length l - 1) h.0 (rises l) (omega (arith, h.1)) (rw (← add-one h.0) (sym (h.2 0))))

rising-of : (from : ℕ) (l : List ℕ) → (0 < length l → from ≤ opens (get_or l 0 0))
    → ((k : ℕ) → suc k < length l → opens (get_or l k 0) ≤ opens (get_or l (suc k) 0))
    → ((k : ℕ) → k < length l → opens (get_or l k 0) ≤ closes (get_or l k 0)) → Rising from l
rising-of from [] f s g = tt
rising-of from (x ∷ l) f s g = (
  f (omega arith),
  g zero (omega arith),
  rising-of (opens x) l (λ h. s zero (omega arith)) (λ k h. s (suc k) (omega arith)) (λ k h. g (suc k) (omega arith)),
)

-- the walk over the ranges in order gives the merged list
pub walk-merged : (R : Ranges) → RangesSound R → (l : List ℕ) → in_order l ≡ true → SameEntries l (keys_of R) → walk_on 0 l ≡ merged_keys R
unfolding keys_of in_ranges
walk-merged R S l s e =
    let g : (k : ℕ) → k < length l → opens (get_or l k 0) ≤ closes (get_or l k 0) = λ k h.
    ltb-false _ _ (any-not (λ x. ltb (closes x) (opens x)) l (e (λ x. ltb (closes x) (opens x))
    ∙ keys-proper R S R.count (omega arith)) k h) in
    let r : Rising (opens 0) l = rising-of (opens 0) l (λ h. opens-mono 0 (get_or l 0 0) (omega arith)) (pairs-in-order l s) g in
    one-merged (in_ranges R) (walk_on 0 l) (merged_keys R)
    (record {
      spaced = walk-spaced 0 0 l r (omega arith) zero-line.0;
      minutes = λ p t.
          places-minutes (walk_on 0 l) l (λ q. walk-places q 0 l r ∙ ap (λ (b : Bool). b || any_of (in_line q) l) (zero-line.1 q)) p t
          ∙ e (key_covers p t) ∙ keys-minutes R S R.count (omega arith) p t;
    })
    (merged-is R S)

-- ---- ranges lent in order

keys-at : (R : Ranges) (n k : ℕ) → k < n → get_or (keys_to R n) k 0 ≡ key_at R k
unfolding keys_to
keys-at R zero k h = absurd (not-suc-le-zero h)
keys-at R (suc n) k h =
    below_suc (get_or (keys_to R n ++ (key_at R n ∷ [])) k 0 ≡ key_at R k) h
    (λ (q : k ≡ n).
    let m : k ≡ length (keys_to R n) = omega (arith, length-keys R n) in
    ap (λ (j : ℕ). get_or (keys_to R n ++ (key_at R n ∷ [])) j 0) m ∙ get_or-append_seam (keys_to R n) (key_at R n) [] 0 ∙ ap (key_at R) (sym q))
    (λ (b : k < n). get_or-append (keys_to R n) (key_at R n ∷ []) 0 k (omega (arith, length-keys R n)) ∙ keys-at R n k b)

order-at : (R : Ranges) → RangesSound R → (k j : ℕ) → k < R.count → j < R.count
    → leb (opens (key_at R k)) (opens (key_at R j)) ≡ not_after (range_at R k) (range_at R j)
unfolding opens not_after
order-at R S k j h g =
    let p = get_or R.persons k 0 in
    let q = get_or R.persons j 0 in
    let s = get_or R.starts k 0 in
    let t = get_or R.starts j 0 in
    let a : person_of (key_at R k) * 268435456 + start_of (key_at R k) ≡ p * 268435456 + s =
    ap₂ (λ (x y : ℕ). x * 268435456 + y) (person-at R S k h) (start-at R S k h) in
    let b : person_of (key_at R j) * 268435456 + start_of (key_at R j) ≡ q * 268435456 + t =
    ap₂ (λ (x y : ℕ). x * 268435456 + y) (person-at R S j g) (start-at R S j g) in
    ap₂ leb a b
    ∙ line-order p q s t (omega (arith, S.ordered k h, S.capped k h)) (omega (arith, S.ordered j g, S.capped j g))
  where
    line-order : (p q s t : ℕ) → s < 268435456 → t < 268435456
        → leb (p * 268435456 + s) (q * 268435456 + t) ≡ ltb p q || (eqb p q && leb s t)
    line-order p q s t a b =
        same_test (leb (p * 268435456 + s) (q * 268435456 + t)) (ltb p q || (eqb p q && leb s t))
        (λ e.
        let h = leb-true (p * 268435456 + s) (q * 268435456 + t) e in
        ⊎_elim (λ (l : p < q). or_left (ltb p q) _ (lt-ltb p q l))
        (λ (l : q ≤ p). or-second (ltb p q) _ (and-true _ _ (eq-eqb p q (omega arith)) (le-leb s t (omega arith))))
        (lt-or-ge p q))
        (λ e. le-leb (p * 268435456 + s) (q * 268435456 + t)
        (⊎_elim (λ i. omega (arith, ltb-true p q i))
        (λ i. let w = both (eqb p q) (leb s t) i in omega (arith, eqb-true p q w.0, leb-true s t w.1))
        (or-either (ltb p q) (eqb p q && leb s t) e)))

module _ (R : Ranges) (S : RangesSound R) where
  -- lent ranges are in order where none comes after the next, by person, then start
  pub lent-in-order : in_order (keys_of R) ≡ all (R.count - 1) (λ k. not_after (range_at R k) (range_at R (suc k)))
  unfolding in_order rises keys_of
  lent-in-order =
      ap (λ (n : ℕ). all (n - 1) (rises (keys_to R R.count))) (length-keys R R.count)
      ∙ all_same (R.count - 1) (rises (keys_to R R.count)) (λ k. not_after (range_at R k) (range_at R (suc k)))
      (λ k h.
      ap₂ (λ (x y : ℕ). leb (opens x) (opens y)) (keys-at R R.count k (omega arith)) (keys-at R R.count (suc k) (omega arith))
      ∙ order-at R S k (suc k) (omega arith) (omega arith))

  -- THE LAW: the walk over ranges that are lent in order, as they are, gives the merged list; nothing is asked of their ends
  pub in-order-walk : in_order (keys_of R) ≡ true → walk_on 0 (keys_of R) ≡ merged_keys R
  in-order-walk e = walk-merged R S (keys_of R) e (λ p. refl)

-- ---- the numbers, written one by one

pub load-more : (R : Ranges) (l : List ℕ) (i x : ℕ) → take i l ≡ keys_to R i → i < length l
    → x ≡ key_of (get_or R.persons i 0) (get_or R.starts i 0) (get_or R.ends i 0)
    → take (i + 1) (set l i x) ≡ keys_to R (i + 1)
unfolding key_at
load-more R l i x e h d =
    push l i x h ∙ ap₂ (λ (k : List ℕ) (y : ℕ). k ++ (y ∷ [])) e d
    ∙ sym (keys-more R i)

pub keys-done : (R : Ranges) (l : List ℕ) (i : ℕ) → i ≤ R.count → R.count ≤ i → take i l ≡ keys_to R i → take R.count l ≡ keys_of R
unfolding keys_of
keys-done R l i a b e = ap (λ (n : ℕ). take n l) (le_antisymm b a) ∙ e ∙ ap (keys_to R) (le_antisymm a b)

-- a test after two that hold
pub two_then : (a b d : Bool) → a ≡ true → b ≡ true → d ≡ a && (b && d)
two_then a b d p q = simp (p, q)

-- ---- put in order, then walked over

-- the first n entries of a list, put back in order
module _ (n : ℕ) (keys sorted : List ℕ) (few : n ≤ length keys) (kept : length sorted ≡ length (take n keys)) where
  sorted-length : length sorted ≡ n
  sorted-length = kept ∙ length-take-le n keys few

  pub front-sorted : take n (sorted ++ drop n keys) ≡ sorted
  front-sorted = take_at sorted (drop n keys) n sorted-length

  pub front_length : length (take n (sorted ++ drop n keys)) ≡ n
  front_length = ap length front-sorted ∙ sorted-length

  pub front_fits : n ≤ length (sorted ++ drop n keys)
  front_fits = omega (arith, length-append sorted (drop n keys), sorted-length)

  pub front-whole : length (sorted ++ drop n keys) ≡ length keys
  front-whole = length-append sorted (drop n keys) ∙ omega (arith, sorted-length, length-drop n keys)

  -- the walk over them gives the merged list
  pub front-merged : (R : Ranges) → RangesSound R → R.count ≡ n → take n keys ≡ keys_of R
      → in_order sorted ≡ true → SameEntries sorted (take n keys)
      → (m : ℕ) (out : List ℕ) → n ≤ length out
      → m ≡ length (walk_on 0 (take n (sorted ++ drop n keys))) → take m out ≡ walk_on 0 (take n (sorted ++ drop n keys))
      → MergedFrom R out m
  front-merged R S e k s same m out f a b =
      let w : walk_on 0 (take n (sorted ++ drop n keys)) ≡ merged_keys R =
      ap (walk_on 0) front-sorted ∙ walk-merged R S sorted s (λ p. same p ∙ ap (any_of p) k) in
      let few : m ≤ n = omega (arith, walk-few (take n (sorted ++ drop n keys)), front_length) in
      record { fits = omega arith; few = omega arith; list = b ∙ w ∙ sym (merged-packed R S) }
