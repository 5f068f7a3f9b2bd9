-- Minutes worked out from owners: the total, and a stretch that changes hands. Assumes nothing.
use Rattle.std.proofs.Common.{◌≡◌, ℕ, zero, suc, ◌+◌, ◌-◌, ◌<◌, ◌≤◌, Bool, true, cond, eqb, ltb, List, length, get_or, set, sym, refl, ap, ◌∙◌, ⊎_elim, zero-le, arith, get_or-set_other, get_or-set_same, ltb-true, le-ltb, lt-ltb, eq-eqb, ne_eqb, eqb-true}
use borrow.Author.Tests.{eqb-false}
use Rattle.paper.specs.Limits.{nobody}
use Rattle.paper.specs.Count.{sum, sum_in, count, fill}
use Rattle.paper.proofs.Logic.{by-test, or_right, lt-or-ge}
use Rattle.paper.proofs.Count.{sum_same, sum-add, sum_more, sum-change, sum_mono, sum-rises, length-fill, get_d-fill-out}
use Rattle.slots.specs.Lent.{demand_of}
use Rattle.owners.specs.Derived.{Plan, length_at, known_by, portion, worked, uncovered, unassigned, stretch_minutes}

-- the minutes of slots a up to e
abbrev pub minutes_in : Plan → ℕ → ℕ → ℕ
minutes_in P a e = stretch_minutes P.starts P.ends a e

pub known-below : (people w : ℕ) → known_by people w ≡ true → (w ≡ nobody → ⊥) → w < people
unfolding known_by
known-below people w e n = ltb-true w people (or_right (eqb w nobody) (ltb w people) e (ne_eqb w nobody n))

pub known-nobody : (people : ℕ) → known_by people nobody ≡ true
unfolding known_by
known-nobody people = simp (eq-eqb nobody nobody refl)

pub known-person : (people w : ℕ) → w < people → known_by people w ≡ true
unfolding known_by
known-person people w h =
    by-test (eqb w nobody) _ (λ t. simp t) (λ f. simp (f, lt-ltb w people h))

-- ---- the total

pub portion-own : (w n : ℕ) → portion w w n ≡ n
unfolding portion
portion-own w n = simp (eq-eqb w w refl)

pub portion-other : (w p n : ℕ) → (w ≡ p → ⊥) → portion w p n ≡ 0
unfolding portion
portion-other w p n h = simp (ne_eqb w p h)

-- one slot: among the first `people` people its owner has its minutes, and no other
portions : (w n people : ℕ) → sum people (λ p. portion w p n) ≡ cond (ltb w people) n 0
unfolding sum
portions w n zero = sym (ap (λ (b : Bool). cond b n 0) (le-ltb w 0 zero-le))
portions w n (suc people) =
    ⊎_elim
    (λ (h : w < people).
    let x = portions w n people in
    let y : cond (ltb w people) n 0 ≡ n = ap (λ (b : Bool). cond b n 0) (lt-ltb w people h) in
    let z : cond (ltb w (suc people)) n 0 ≡ n = ap (λ (b : Bool). cond b n 0) (lt-ltb w (suc people) (omega arith)) in
    omega (arith, x, y, z, portion-other w people n (λ q. omega arith)))
    (λ (h : people ≤ w).
    let x = portions w n people in
    let y : cond (ltb w people) n 0 ≡ 0 = ap (λ (b : Bool). cond b n 0) (le-ltb w people h) in
    by-test (eqb w people) _
    (λ t.
    let q = eqb-true w people t in
    let z : cond (ltb w (suc people)) n 0 ≡ n = ap (λ (b : Bool). cond b n 0) (lt-ltb w (suc people) (omega arith)) in
    omega (arith, x, y, z, ap (λ (v : ℕ). portion v people n) q, portion-own people n))
    (λ f.
    let q = eqb-false w people f in
    let z : cond (ltb w (suc people)) n 0 ≡ 0 = ap (λ (b : Bool). cond b n 0) (le-ltb w (suc people) (omega arith)) in
    omega (arith, x, y, z, portion-other w people n q)))
    (lt-or-ge w people)

slot-total : (people w n : ℕ) → people ≤ 32 → known_by people w ≡ true → sum people (λ p. portion w p n) + portion w nobody n ≡ n
slot-total people w n h k =
    by-test (eqb w nobody) _
    (λ t.
    let q = eqb-true w nobody t in
    let y : cond (ltb w people) n 0 ≡ 0 = ap (λ (b : Bool). cond b n 0) (le-ltb w people (omega arith)) in
    omega (arith, portions w n people, y, ap (λ (v : ℕ). portion v nobody n) q, portion-own nobody n))
    (λ f.
    let q = eqb-false w nobody f in
    let y : cond (ltb w people) n 0 ≡ n = ap (λ (b : Bool). cond b n 0) (lt-ltb w people (known-below people w k q)) in
    omega (arith, portions w n people, y, portion-other w nobody n q))

pub sum-nothing : (n : ℕ) → sum n (λ _. 0) ≡ 0
unfolding sum
sum-nothing zero = refl
sum-nothing (suc n) = omega (arith, sum-nothing n)

pub total-to : (people n : ℕ) (o : List ℕ) (len : ℕ → ℕ) → people ≤ 32 → ((k : ℕ) → k < n → known_by people (get_or o k 0) ≡ true)
    → sum people (λ p. sum n (λ k. portion (get_or o k 0) p (len k))) + sum n (λ k. portion (get_or o k 0) nobody (len k)) ≡ sum n len
unfolding sum
total-to people zero o len h k = omega (arith, sum-nothing people)
total-to people (suc n) o len h k =
    let w = get_or o n 0 in
    let ih = total-to people n o len h (λ j l. k j (omega arith)) in
    let one = slot-total people w (len n) h (k n (omega arith)) in
    let two = sum-add people (λ p. sum n (λ k. portion (get_or o k 0) p (len k))) (λ p. portion w p (len n)) in
    omega (arith, ih, one, two)

-- all persons' minutes and the uncovered ones are the sum of the lent slots
pub minutes-total : (P : Plan) (o : List ℕ) → P.people ≤ 32 → ((k : ℕ) → k < P.slots → known_by P.people (get_or o k 0) ≡ true)
    → sum P.people (worked P o) + uncovered P o ≡ demand_of P.slots P.starts P.ends
unfolding worked uncovered demand_of
minutes-total P o h k =
    sym (ap (λ (x : ℕ). x + sum P.slots (λ j. portion (get_or o j 0) nobody (length_at P j)))
    (sum_same P.people _ (worked P o) (λ p l. refl)))
    ∙ total-to P.people P.slots o (length_at P) h k

-- what a slot counts for a person is at most its length
portion-le : (w p n : ℕ) → portion w p n ≤ n
unfolding portion
portion-le w p n = by-test (eqb w p) _ (λ t. simp t (omega arith)) (λ f. simp f zero-le)

-- the first n slots have at most the minutes of all
pub part-le : (P : Plan) (n : ℕ) → n ≤ P.slots → sum n (length_at P) ≤ demand_of P.slots P.starts P.ends
unfolding demand_of
part-le P n h =
    let y : n + (P.slots - n) ≡ P.slots = omega arith in
    omega (arith, sum-rises n (P.slots - n) (length_at P), ap (λ (z : ℕ). sum z (length_at P)) y)

-- so has what a person owns of them, and of all
pub worked-part-le : (P : Plan) (o : List ℕ) (p n : ℕ) → n ≤ P.slots
    → sum n (λ k. portion (get_or o k 0) p (length_at P k)) ≤ demand_of P.slots P.starts P.ends
worked-part-le P o p n h =
    omega (arith, part-le P n h, sum_mono n _ (length_at P) (λ k l. portion-le (get_or o k 0) p (length_at P k)))

pub worked-le : (P : Plan) (o : List ℕ) (p : ℕ) → worked P o p ≤ demand_of P.slots P.starts P.ends
unfolding worked
worked-le P o p = worked-part-le P o p P.slots (omega arith)

-- ---- a stretch changes hands

-- what p owns of the first n slots, each counting for `len` of it: minutes, or 1
unfoldable pub owned_of : ℕ → (ℕ → ℕ) → List ℕ → ℕ → ℕ
owned_of n len o p = sum n (λ k. portion (get_or o k 0) p (len k))

owned-set : (n : ℕ) (len : ℕ → ℕ) (o : List ℕ) (p k w : ℕ) → k < n → k < length o
    → owned_of n len (set o k w) p + portion (get_or o k 0) p (len k) ≡ owned_of n len o p + portion w p (len k)
unfolding owned_of
owned-set n len o p k w h r =
    sum-change n k (λ j. portion (get_or o j 0) p (len j)) (λ j. portion (get_or (set o k w) j 0) p (len j)) h
    (λ j ne. ap (λ (x : ℕ). portion x p (len j)) (sym (get_or-set_other o k j w 0 ne)))
    ∙ ap (λ (x : ℕ). sum n (λ j. portion (get_or o j 0) p (len j)) + portion x p (len k)) (get_or-set_same o k w 0 r)

portion-add : (w p n m : ℕ) → portion w p (n + m) ≡ portion w p n + portion w p m
unfolding portion
portion-add w p n m = by-test (eqb w p) _ (λ t. simp t) (λ f. simp f (omega arith))

portion-none : (w p : ℕ) → portion w p 0 ≡ 0
unfolding portion
portion-none w p = by-test (eqb w p) _ (λ t. simp t) (λ f. simp f)

-- m slots from a on go from old to w
fill-owned : (n : ℕ) (len : ℕ → ℕ) (o : List ℕ) (p a m old w : ℕ) → a + m ≤ n → n ≤ length o
    → ((k : ℕ) → a ≤ k → k < a + m → get_or o k 0 ≡ old)
    → owned_of n len (fill w a m o) p + portion old p (sum m (λ j. len (a + j))) ≡ owned_of n len o p + portion w p (sum m (λ j. len (a
    + j)))
unfolding fill sum
fill-owned n len o p a zero old w h r s = omega (arith, portion-none old p, portion-none w p)
fill-owned n len o p a (suc m) old w h r s =
    let f = sum m (λ j. len (a + j)) in
    let l = len (a + m) in
    let o' = fill w a m o in
    let ih = fill-owned n len o p a m old w (omega arith) r (λ k x y. s k x (omega arith)) in
    let one = owned-set n len o' p (a + m) w (omega arith) (omega (arith, length-fill w a m o)) in
    let at : get_or o' (a + m) 0 ≡ old = get_d-fill-out w a m o (a + m) (λ x y. omega arith) ∙ s (a + m) (omega arith) (omega arith) in
    omega (arith, ih, one, ap (λ (x : ℕ). portion x p l) at, portion-add old p f l, portion-add w p f l)

-- m slots more, from a on, that w owns
owned-more : (len : ℕ → ℕ) (o : List ℕ) (p a m w : ℕ) → ((k : ℕ) → a ≤ k → k < a + m → get_or o k 0 ≡ w)
    → owned_of (a + m) len o p ≡ owned_of a len o p + portion w p (sum m (λ j. len (a + j)))
unfolding owned_of sum
owned-more len o p a zero w s =
    let z : a + 0 ≡ a = omega arith in
    omega (arith, ap (λ (n : ℕ). owned_of n len o p) z, portion-none w p)
owned-more len o p a (suc m) w s =
    let ih = owned-more len o p a m w (λ k x y. s k x (omega arith)) in
    let q : a + suc m ≡ a + m + 1 = omega arith in
    let one = ap (λ (n : ℕ). owned_of n len o p) q ∙ sum_more (a + m) (λ k. portion (get_or o k 0) p (len k)) in
    let at = ap (λ (x : ℕ). portion x p (len (a + m))) (s (a + m) (omega arith) (omega arith)) in
    let two = portion-add w p (sum m (λ j. len (a + j))) (len (a + m)) in
    omega (arith, one, ih, at, two)

pub worked-over : (P : Plan) (o : List ℕ) (p a e old w : ℕ) → a ≤ e → e ≤ P.slots → P.slots ≤ length o
    → ((k : ℕ) → a ≤ k → k < e → get_or o k 0 ≡ old)
    → worked P (fill w a (e - a) o) p + portion old p (minutes_in P a e) ≡ worked P o p + portion w p (minutes_in P a e)
unfolding worked owned_of stretch_minutes sum_in
worked-over P o p a e old w h g r s = fill-owned P.slots (length_at P) o p a (e - a) old w (omega arith) r (λ k x y. s k x (omega
    arith))

-- ---- how many slots nobody owns

ones : (n : ℕ) → sum n (λ _. 1) ≡ n
unfolding sum
ones zero = refl
ones (suc n) = omega (arith, ones n)

pub unassigned-over : (n : ℕ) (o : List ℕ) (a e old w : ℕ) → a ≤ e → e ≤ n → n ≤ length o → ((k : ℕ) → a ≤ k → k < e → get_or o k 0 ≡ old)
    → unassigned n (fill w a (e - a) o) + portion old nobody (e - a) ≡ unassigned n o + portion w nobody (e - a)
unfolding unassigned count owned_of portion
unassigned-over n o a e old w h g r s =
    let x = fill-owned n (λ _. 1) o nobody a (e - a) old w (omega arith) r (λ k x y. s k x (omega arith)) in
    let y = ones (e - a) in
    ap (λ (k : ℕ). unassigned n (fill w a (e - a) o) + portion old nobody k) (sym y) ∙ x ∙ ap (λ (k : ℕ). unassigned n o + portion w
    nobody k) y

-- ---- the first slots alone

-- the plan of the first i slots
abbrev pub up_to : ℕ → Plan → Plan
up_to i P = record { people = P.people; slots = i; starts = P.starts; ends = P.ends }

-- slots a up to e more, which w owns
module _ (P : Plan) (o : List ℕ) (a e w : ℕ) (h : a ≤ e) (s : (k : ℕ) → a ≤ k → k < e → get_or o k 0 ≡ w) where
  pub worked-more : (p : ℕ) → worked (up_to e P) o p ≡ worked (up_to a P) o p + portion w p (minutes_in P a e)
  unfolding worked owned_of stretch_minutes sum_in
  worked-more p =
      let q : a + (e - a) ≡ e = omega arith in
      sym (ap (λ (n : ℕ). owned_of n (length_at P) o p) q) ∙ owned-more (length_at P) o p a (e - a) w (λ k x y. s k x (omega arith))

  pub unassigned-more : unassigned e o ≡ unassigned a o + portion w nobody (e - a)
  unfolding unassigned count owned_of portion
  unassigned-more =
      let q : a + (e - a) ≡ e = omega arith in
      sym (ap (λ (n : ℕ). owned_of n (λ _. 1) o nobody) q) ∙ owned-more (λ _. 1) o nobody a (e - a) w (λ k x y. s k x (omega arith))
      ∙ ap (λ (k : ℕ). unassigned a o + portion w nobody k) (ones (e - a))
