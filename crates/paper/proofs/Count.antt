-- The laws of counting to n. Assumes nothing.
use mathlib.Core.Path.{◌≡◌, refl, sym, ap, ap₂, ◌∙◌}
use mathlib.Core.Logic.{⊎_elim, ◌≢◌}
use mathlib.Core.Bool.{Bool, true, false, ◌&&◌, ◌||◌, cond, and-false, or-false}
use mathlib.Core.List.{List, [], ◌∷◌, ◌++◌}
use Prim.Native.Nat.{ℕ, zero, suc, ◌+◌, ◌-◌, ◌*◌, ◌≤◌, ◌<◌, zero-le}
use native.Mathlib.Nat.{not-suc-le-zero, suc-mul, le_antisymm}
use native.Mathlib.Numerals.{add-one}
use native.Mathlib.Omega.{arith}
use borrow.Author.Tests.{eqb-true, eqb-false}
use lib.Dec.{eqb}
use lib.ListN.{length, drop, get_or, set, length-set, length-append, length-drop, get_or-append}
use lib.Seq.{get_or-set_same, get_or-set_other, get_or-append_seam, drop-cons, set-append_seam, append_snoc, ext_get_or}
use Rattle.paper.specs.Count.{all, all_in, some, sum, sum_in, count, over, fill, onto, among}
use Rattle.paper.proofs.Logic.{by-test, below_suc, and-true, both, lt-or-ge, or_left, or-second, or-either}

-- ---- a test at every number below n

pub all_none : (p : ℕ → Bool) → all 0 p ≡ true
unfolding all
all_none p = refl

pub all_more : (i : ℕ) (p : ℕ → Bool) → all i p ≡ true → p i ≡ true → all (i + 1) p ≡ true
unfolding all
all_more i p a b = ap (λ (n : ℕ). all n p) (add-one i) ∙ ap₂ ◌&&◌ a b

pub all-fails : (n i : ℕ) (p : ℕ → Bool) → i < n → p i ≡ false → all n p ≡ false
unfolding all
all-fails zero i p h e = absurd (not-suc-le-zero h)
all-fails (suc n) i p h e =
    below_suc (all n p && p n ≡ false) h
    (λ q. ap (λ (b : Bool). all n p && b) (ap p (sym q) ∙ e) ∙ and-false (all n p))
    (λ l. ap (λ (b : Bool). b && p n) (all-fails n i p l e))

-- a loop that has passed all i numbers below n is done
pub all_done : (n i : ℕ) (p : ℕ → Bool) → i ≤ n → n ≤ i → all i p ≡ true → true ≡ all n p
all_done n i p h k a = sym (ap (λ (m : ℕ). all m p) (le_antisymm k h) ∙ a)

pub all-each : (n : ℕ) (p : ℕ → Bool) → all n p ≡ true → (k : ℕ) → k < n → p k ≡ true
unfolding all
all-each zero p e k h = absurd (not-suc-le-zero h)
all-each (suc n) p e k h =
    below_suc (p k ≡ true) h (λ q. ap p q ∙ (both (all n p) (p n) e).1)
    (λ l. all-each n p (both (all n p) (p n) e).0 k l)

pub each_all : (n : ℕ) (p : ℕ → Bool) → ((k : ℕ) → k < n → p k ≡ true) → all n p ≡ true
unfolding all
each_all zero p f = refl
each_all (suc n) p f = and-true (all n p) (p n) (each_all n p (λ k h. f k (omega arith))) (f n (omega arith))

pub all_same : (n : ℕ) (p q : ℕ → Bool) → ((k : ℕ) → k < n → p k ≡ q k) → all n p ≡ all n q
unfolding all
all_same zero p q f = refl
all_same (suc n) p q f = ap₂ ◌&&◌ (all_same n p q (λ k h. f k (omega arith))) (f n (omega arith))

-- ---- a test at some number below n

pub some-here : (n k : ℕ) (p : ℕ → Bool) → k < n → p k ≡ true → some n p ≡ true
unfolding some
some-here zero k p h t = absurd (not-suc-le-zero h)
some-here (suc n) k p h t =
    below_suc (some n p || p n ≡ true) h (λ q. or-second (some n p) (p n) (ap p (sym q) ∙ t))
    (λ l. or_left (some n p) (p n) (some-here n k p l t))

pub some-none : (n : ℕ) (p : ℕ → Bool) → ((k : ℕ) → k < n → p k ≡ false) → some n p ≡ false
unfolding some
some-none zero p f = refl
some-none (suc n) p f = ap₂ ◌||◌ (some-none n p (λ k h. f k (omega arith))) (f n (omega arith))

pub some_more : (n : ℕ) (p : ℕ → Bool) → p n ≡ false → some (suc n) p ≡ some n p
unfolding some
some_more n p f = ap (λ (b : Bool). some n p || b) f ∙ or-false (some n p)

pub some_one : (n : ℕ) (p : ℕ → Bool) (X : Type 0) → some n p ≡ true → ((k : ℕ) → k < n → p k ≡ true → X) → X
unfolding some
some_one zero p X e f = absurd (mathlib.Core.Bool.false≢true e)
some_one (suc n) p X e f =
    ⊎_elim (λ t. some_one n p X t (λ k h u. f k (omega arith) u)) (λ t. f n (omega arith) t) (or-either (some n p) (p n) e)

-- ---- a test at every number from a up to e

pub in-none : (a : ℕ) (p : ℕ → Bool) → all_in a a p ≡ true
unfolding all_in
in-none a p =
    let z : a - a ≡ 0 = omega arith in
    ap (λ (n : ℕ). all n (λ j. p (a + j))) z ∙ all_none (λ j. p (a + j))

pub in-more : (a k : ℕ) (p : ℕ → Bool) → a ≤ k → all_in a k p ≡ true → p k ≡ true → all_in a (k + 1) p ≡ true
unfolding all_in
in-more a k p h e t =
    let z : k + 1 - a ≡ k - a + 1 = omega arith in
    let y : a + (k - a) ≡ k = omega arith in
    ap (λ (n : ℕ). all n (λ j. p (a + j))) z ∙ all_more (k - a) (λ j. p (a + j)) e (ap p y ∙ t)

pub in-fails : (a k e : ℕ) (p : ℕ → Bool) → a ≤ k → k < e → p k ≡ false → false ≡ all_in a e p
unfolding all_in
in-fails a k e p h l f =
    let y : a + (k - a) ≡ k = omega arith in
    sym (all-fails (e - a) (k - a) (λ j. p (a + j)) (omega arith) (ap p y ∙ f))

pub in-done : (a k e : ℕ) (p : ℕ → Bool) → k ≤ e → e ≤ k → all_in a k p ≡ true → true ≡ all_in a e p
in-done a k e p h g t = sym (ap (λ (n : ℕ). all_in a n p) (le_antisymm g h) ∙ t)

pub in-each : (a e : ℕ) (p : ℕ → Bool) → all_in a e p ≡ true → (k : ℕ) → a ≤ k → k < e → p k ≡ true
unfolding all_in
in-each a e p t k h l =
    let y : a + (k - a) ≡ k = omega arith in
    ap p (sym y) ∙ all-each (e - a) (λ j. p (a + j)) t (k - a) (omega arith)

pub each_in : (a e : ℕ) (p : ℕ → Bool) → ((k : ℕ) → a ≤ k → k < e → p k ≡ true) → all_in a e p ≡ true
unfolding all_in
each_in a e p f = each_all (e - a) (λ j. p (a + j)) (λ j h. f (a + j) (omega arith) (omega arith))

pub in-same : (a e : ℕ) (p q : ℕ → Bool) → ((k : ℕ) → a ≤ k → k < e → p k ≡ q k) → all_in a e p ≡ all_in a e q
unfolding all_in
in-same a e p q f =
    all_same (e - a) (λ j. p (a + j)) (λ j. q (a + j)) (λ j h. f (a + j) (omega arith) (omega arith))

-- of one number, and of one less
pub in_one : (k : ℕ) (p : ℕ → Bool) → all_in k (k + 1) p ≡ p k
in_one k p =
    by-test (p k) _ (λ t. in-more k k p (omega arith) (in-none k p) t ∙ sym t)
    (λ f. sym (in-fails k k (k + 1) p (omega arith) (omega arith) f) ∙ sym f)

pub in-less : (a k : ℕ) (p : ℕ → Bool) → a ≤ k → all_in a (k + 1) p ≡ true → (all_in a k p ≡ true) × (p k ≡ true)
in-less a k p h t =
    (each_in a k p (λ j g l. in-each a (k + 1) p t j g (omega arith)), in-each a (k + 1) p t k h (omega arith))

-- ---- sums

pub sum-none : (f : ℕ → ℕ) → sum 0 f ≡ 0
unfolding sum
sum-none f = refl

pub sum_more : (i : ℕ) (f : ℕ → ℕ) → sum (i + 1) f ≡ sum i f + f i
unfolding sum
sum_more i f = ap (λ (n : ℕ). sum n f) (add-one i)

pub sum_done : (n i t : ℕ) (f : ℕ → ℕ) → i ≤ n → n ≤ i → t ≡ sum i f → t ≡ sum n f
sum_done n i t f h k e = e ∙ ap (λ (m : ℕ). sum m f) (le_antisymm h k)

pub sum-le : (b n : ℕ) (f : ℕ → ℕ) → ((k : ℕ) → k < n → f k ≤ b) → sum n f ≤ n * b
unfolding sum
sum-le b zero f h = zero-le
sum-le b (suc n) f h = omega (arith, sum-le b n f (λ k l. h k (omega arith)), h n (omega arith), suc-mul n b)

pub sum-part : (n j : ℕ) (f : ℕ → ℕ) → j < n → f j ≤ sum n f
unfolding sum
sum-part zero j f h = absurd (not-suc-le-zero h)
sum-part (suc n) j f h =
    below_suc (f j ≤ sum n f + f n) h (λ q. omega (arith, ap f q)) (λ l. omega (arith, sum-part n j f l))

pub sum_same : (n : ℕ) (f g : ℕ → ℕ) → ((k : ℕ) → k < n → f k ≡ g k) → sum n f ≡ sum n g
unfolding sum
sum_same zero f g h = refl
sum_same (suc n) f g h = ap₂ ◌+◌ (sum_same n f g (λ k l. h k (omega arith))) (h n (omega arith))

pub sum-add : (n : ℕ) (f g : ℕ → ℕ) → sum n (λ k. f k + g k) ≡ sum n f + sum n g
unfolding sum
sum-add zero f g = refl
sum-add (suc n) f g = omega (arith, sum-add n f g)

-- the sum after one summand changed
pub sum-change : (n j : ℕ) (f g : ℕ → ℕ) → j < n → ((k : ℕ) → k ≢ j → f k ≡ g k) → sum n g + f j ≡ sum n f + g j
unfolding sum
sum-change zero j f g h e = absurd (not-suc-le-zero h)
sum-change (suc n) j f g h e =
    below_suc (sum n g + g n + f j ≡ sum n f + f n + g j) h
    (λ q. omega (arith, ap f q, ap g q, sum_same n f g (λ k l. e k (λ x. omega arith))))
    (λ l. omega (arith, sum-change n j f g l e, e n (λ x. omega arith)))

-- greater summands
pub sum_mono : (n : ℕ) (f g : ℕ → ℕ) → ((k : ℕ) → k < n → f k ≤ g k) → sum n f ≤ sum n g
unfolding sum
sum_mono zero f g h = zero-le
sum_mono (suc n) f g h = omega (arith, sum_mono n f g (λ k l. h k (omega arith)), h n (omega arith))

-- the first a summands, and n more
pub sum-after : (a n : ℕ) (f : ℕ → ℕ) → sum (a + n) f ≡ sum a f + sum n (λ j. f (a + j))
unfolding sum
sum-after a zero f = let e : a + 0 ≡ a = omega arith in omega (arith, ap (λ (x : ℕ). sum x f) e)
sum-after a (suc n) f = let e : a + suc n ≡ suc (a + n) = omega arith in omega (arith, sum-after a n f, ap (λ (x : ℕ). sum x f) e)

pub sum-rises : (n d : ℕ) (f : ℕ → ℕ) → sum n f ≤ sum (n + d) f
sum-rises n d f = omega (arith, sum-after n d f)

-- from a up to e
pub sum-in-none : (a : ℕ) (f : ℕ → ℕ) → sum_in a a f ≡ 0
unfolding sum_in
sum-in-none a f = let z : a - a ≡ 0 = omega arith in ap (λ (n : ℕ). sum n (λ j. f (a + j))) z ∙ sum-none (λ j. f (a + j))

pub sum-in-more : (a k : ℕ) (f : ℕ → ℕ) → a ≤ k → sum_in a (k + 1) f ≡ sum_in a k f + f k
unfolding sum_in
sum-in-more a k f h =
    let z : k + 1 - a ≡ k - a + 1 = omega arith in
    let y : a + (k - a) ≡ k = omega arith in
    ap (λ (n : ℕ). sum n (λ j. f (a + j))) z ∙ sum_more (k - a) (λ j. f (a + j)) ∙ ap (λ (x : ℕ). sum_in a k f + f x) y

pub sum-in-le : (a e : ℕ) (f : ℕ → ℕ) → a ≤ e → sum_in a e f ≤ sum e f
unfolding sum_in
sum-in-le a e f h =
    let q : a + (e - a) ≡ e = omega arith in
    omega (arith, sum-after a (e - a) f, ap (λ (n : ℕ). sum n f) q)

-- ---- how many pass a test

-- what a test adds to a count
abbrev one : Bool → ℕ
one b = cond b 1 0

pub count_none : (p : ℕ → Bool) → count 0 p ≡ 0
unfolding count
count_none p = sum-none (λ k. one (p k))

pub count-in : (k : ℕ) (p : ℕ → Bool) → p k ≡ true → count (k + 1) p ≡ count k p + 1
unfolding count
count-in k p t = sum_more k (λ j. one (p j)) ∙ ap (λ (b : Bool). sum k (λ j. one (p j)) + one b) t

pub count-out : (k : ℕ) (p : ℕ → Bool) → p k ≡ false → count (k + 1) p ≡ count k p
unfolding count
count-out k p f =
    sum_more k (λ j. one (p j)) ∙ ap (λ (b : Bool). sum k (λ j. one (p j)) + one b) f ∙ omega arith

pub count-done : (n i t : ℕ) (p : ℕ → Bool) → i ≤ n → n ≤ i → t ≡ count i p → t ≡ count n p
unfolding count
count-done n i t p h g e = sum_done n i t (λ k. one (p k)) h g e

pub count-some : (n k : ℕ) (p : ℕ → Bool) → k < n → p k ≡ true → 1 ≤ count n p
unfolding count
count-some n k p h t = omega (arith, sum-part n k (λ j. one (p j)) h, ap one t)

-- two counts of tests that differ at j alone, where only the second passes
pub count-change : (n j : ℕ) (p q : ℕ → Bool) → j < n → ((k : ℕ) → k ≢ j → p k ≡ q k) → p j ≡ false → q j ≡ true
    → count n q ≡ count n p + 1
unfolding count
count-change n j p q h e f t =
    let s = sum-change n j (λ k. one (p k)) (λ k. one (q k)) h (λ k z. ap one (e k z)) in
    let a : one (p j) ≡ 0 = ap one f in
    let b : one (q j) ≡ 1 = ap one t in
    omega (arith, s, a, b)

pub count_same : (n : ℕ) (p q : ℕ → Bool) → ((k : ℕ) → p k ≡ q k) → count n p ≡ count n q
unfolding count
count_same n p q e = sum_same n (λ k. one (p k)) (λ k. one (q k)) (λ k h. ap one (e k))

-- the first r pass, and no others
pub count-opening : (n r : ℕ) (p : ℕ → Bool) → r ≤ n → ((k : ℕ) → k < r → p k ≡ true) → ((k : ℕ) → r ≤ k → k < n → p k ≡ false)
    → count n p ≡ r
unfolding count sum
count-opening zero r p h f g = omega arith
count-opening (suc n) r p h f g =
    ⊎_elim
    (λ (a : n < r).
    let e = f n a in
    let i = count-opening n n p (omega arith) (λ k b. f k (omega arith)) (λ k b d. absurd (omega arith)) in
    simp e (omega (arith, i)))
    (λ (a : r ≤ n).
    let e = g n a (omega arith) in
    let i = count-opening n r p a f (λ k b d. g k b (omega arith)) in
    simp e (omega (arith, i)))
    (lt-or-ge n r)

-- ---- a list made anew

pub length_over : (f : ℕ → ℕ) (n : ℕ) (l : List ℕ) → length (over f n l) ≡ length l
unfolding over
length_over f zero l = refl
length_over f (suc n) l = length-set (over f n l) n (f n) ∙ length_over f n l

pub over_none : (f : ℕ → ℕ) (l : List ℕ) → over f 0 l ≡ l
unfolding over
over_none f l = refl

pub over-more : (f : ℕ → ℕ) (i : ℕ) (l : List ℕ) → over f (i + 1) l ≡ set (over f i l) i (f i)
unfolding over
over-more f i l = ap (λ (n : ℕ). over f n l) (add-one i)

pub get_d-over-out : (f : ℕ → ℕ) (n : ℕ) (l : List ℕ) (k : ℕ) → n ≤ k → get_or (over f n l) k 0 ≡ get_or l k 0
unfolding over
get_d-over-out f zero l k h = refl
get_d-over-out f (suc n) l k h =
    get_or-set_other (over f n l) n k (f n) 0 (λ q. omega arith) ∙ get_d-over-out f n l k (omega arith)

pub get_d_over : (f : ℕ → ℕ) (n : ℕ) (l : List ℕ) (k : ℕ) → k < n → k < length l → get_or (over f n l) k 0 ≡ f k
unfolding over
get_d_over f zero l k h r = absurd (not-suc-le-zero h)
get_d_over f (suc n) l k h r =
    below_suc (get_or (set (over f n l) n (f n)) k 0 ≡ f k) h
    (λ q. ap (λ (j : ℕ). get_or (set (over f n l) j (f j)) k 0) (sym q)
    ∙ get_or-set_same (over f n l) k (f k) 0 (omega (arith, length_over f n l)))
    (λ b. get_or-set_other (over f n l) n k (f n) 0 (λ q. omega arith) ∙ get_d_over f n l k b r)

pub over-same : (f g : ℕ → ℕ) (n : ℕ) (l : List ℕ) → ((k : ℕ) → k < n → f k ≡ g k) → over f n l ≡ over g n l
unfolding over
over-same f g zero l h = refl
over-same f g (suc n) l h =
    ap₂ (λ (x : List ℕ) (y : ℕ). set x n y) (over-same f g n l (λ k b. h k (omega arith))) (h n (omega arith))

-- what has those entries, and as many, is that list
over-is : (f : ℕ → ℕ) (n : ℕ) (m l : List ℕ) → length l ≡ length m → ((j : ℕ) → j < n → j < length m → get_or l j 0 ≡ f j)
    → ((j : ℕ) → n ≤ j → get_or l j 0 ≡ get_or m j 0) → l ≡ over f n m
over-is f n m l long anew old =
    ext_get_or 0 l (over f n m) (long ∙ sym (length_over f n m))
    (λ j r.
    let rm : j < length m = omega (arith, long) in
    ⊎_elim (λ (t : j < n). anew j t rm ∙ sym (get_d_over f n m j t rm)) (λ (u : n ≤ j). old j u ∙ sym (get_d-over-out f n m j u))
    (lt-or-ge j n))

-- made anew twice, the second alone counts; and a list that holds its entries already stays
pub over-again : (f g : ℕ → ℕ) (n : ℕ) (m : List ℕ) → over g n (over f n m) ≡ over g n m
over-again f g n m =
    over-is g n m (over g n (over f n m)) (length_over g n (over f n m) ∙ length_over f n m)
    (λ j t r. get_d_over g n (over f n m) j t (omega (arith, length_over f n m)))
    (λ j u. get_d-over-out g n (over f n m) j u ∙ get_d-over-out f n m j u)

pub over-right : (f : ℕ → ℕ) (n : ℕ) (m : List ℕ) → ((j : ℕ) → j < n → get_or m j 0 ≡ f j) → m ≡ over f n m
over-right f n m h = over-is f n m m refl (λ j t r. h j t) (λ j u. refl)

-- one entry changed
pub over-set : (f g : ℕ → ℕ) (n : ℕ) (m : List ℕ) (k v : ℕ) → k < n → v ≡ g k → ((j : ℕ) → j ≢ k → f j ≡ g j)
    → set (over f n m) k v ≡ over g n m
over-set f g n m k v h e same =
    over-is g n m (set (over f n m) k v) (length-set (over f n m) k v ∙ length_over f n m)
    (λ j t r.
    by-test (eqb j k) _
    (λ y.
    let q = eqb-true j k y in
    ap (λ (i : ℕ). get_or (set (over f n m) k v) i 0) q
    ∙ get_or-set_same (over f n m) k v 0 (omega (arith, length_over f n m)) ∙ e ∙ ap g (sym q))
    (λ y. get_or-set_other (over f n m) k j v 0 (eqb-false j k y) ∙ get_d_over f n m j t r ∙ same j (eqb-false j k y)))
    (λ j u. get_or-set_other (over f n m) k j v 0 (λ q. omega arith) ∙ get_d-over-out f n m j u)

-- ---- a stretch set to one value

pub length-fill : (v a n : ℕ) (l : List ℕ) → length (fill v a n l) ≡ length l
unfolding fill
length-fill v a zero l = refl
length-fill v a (suc n) l = length-set (fill v a n l) (a + n) v ∙ length-fill v a n l

pub fill_none : (v a : ℕ) (l : List ℕ) → fill v a (a - a) l ≡ l
unfolding fill
fill_none v a l = let z : a - a ≡ 0 = omega arith in ap (λ (n : ℕ). fill v a n l) z

pub fill_more : (v a k : ℕ) (l : List ℕ) → a ≤ k → fill v a (k + 1 - a) l ≡ set (fill v a (k - a) l) k v
unfolding fill
fill_more v a k l h =
    let p : k + 1 - a ≡ suc (k - a) = omega arith in
    let q : a + (k - a) ≡ k = omega arith in
    ap (λ (n : ℕ). fill v a n l) p ∙ ap (λ (i : ℕ). set (fill v a (k - a) l) i v) q

pub get_d-fill-in : (v a n : ℕ) (l : List ℕ) (k : ℕ) → a ≤ k → k < a + n → k < length l → get_or (fill v a n l) k 0 ≡ v
unfolding fill
get_d-fill-in v a zero l k h g r = absurd (omega arith)
get_d-fill-in v a (suc n) l k h g r =
    ⊎_elim
    (λ (b : k < a + n). get_or-set_other (fill v a n l) (a + n) k v 0 (λ q. omega arith) ∙ get_d-fill-in v a n l k h b r)
    (λ (b : a + n ≤ k).
    let q : a + n ≡ k = omega arith in
    ap (λ (i : ℕ). get_or (set (fill v a n l) i v) k 0) q
    ∙ get_or-set_same (fill v a n l) k v 0 (omega (arith, length-fill v a n l)))
    (lt-or-ge k (a + n))

pub get_d-fill-out : (v a n : ℕ) (l : List ℕ) (k : ℕ) → (a ≤ k → k < a + n → ⊥) → get_or (fill v a n l) k 0 ≡ get_or l k 0
unfolding fill
get_d-fill-out v a zero l k f = refl
get_d-fill-out v a (suc n) l k f =
    get_or-set_other (fill v a n l) (a + n) k v 0 (λ q. f (omega arith) (omega arith))
    ∙ get_d-fill-out v a n l k (λ x y. f x (omega arith))

-- ---- the numbers that pass a test

pub among_none : (p : ℕ → Bool) → length (among p 0) ≡ 0
unfolding among
among_none p = refl

-- n is listed where it passes
among-yes : (p : ℕ → Bool) (n : ℕ) → p n ≡ true → among p (suc n) ≡ among p n ++ (n ∷ [])
unfolding among
among-yes p n t = ap (λ (b : Bool). among p n ++ cond b (n ∷ []) []) t

among-no : (p : ℕ → Bool) (n : ℕ) → p n ≡ false → among p (suc n) ≡ among p n
unfolding among
among-no p n f = ap (λ (b : Bool). among p n ++ cond b (n ∷ []) []) f ∙ mathlib.Core.List.append-nil (among p n)

pub among_in : (p : ℕ → Bool) (i : ℕ) → p i ≡ true → among p (i + 1) ≡ among p i ++ (i ∷ [])
among_in p i t = ap (among p) (add-one i) ∙ among-yes p i t

pub among-out : (p : ℕ → Bool) (i : ℕ) → p i ≡ false → among p (i + 1) ≡ among p i
among-out p i f = ap (among p) (add-one i) ∙ among-no p i f

-- where none passes, none is listed; and more numbers make no list shorter
pub among-gap : (p : ℕ → Bool) (a d : ℕ) → ((t : ℕ) → a ≤ t → t < a + d → p t ≡ false) → among p (a + d) ≡ among p a
among-gap p a zero f = let e : a + zero ≡ a = omega arith in ap (among p) e
among-gap p a (suc d) f =
    let e : a + suc d ≡ a + d + 1 = omega arith in
    ap (among p) e ∙ among-out p (a + d) (f (a + d) (omega arith) (omega arith)) ∙ among-gap p a d (λ t x y. f t x (omega arith))

pub among-longer : (p : ℕ → Bool) (a d : ℕ) → length (among p a) ≤ length (among p (a + d))
unfolding among
among-longer p a zero = let e : a + zero ≡ a = omega arith in omega (arith, ap (λ (n : ℕ). length (among p n)) e)
among-longer p a (suc d) =
    let e : a + suc d ≡ suc (a + d) = omega arith in
    omega (
      arith,
      ap (λ (n : ℕ). length (among p n)) e,
      among-longer p a d,
      length-append (among p (a + d)) (cond (p (a + d)) ((a + d) ∷ []) []),
    )

-- as many as n at most
pub among-le : (p : ℕ → Bool) (n : ℕ) → length (among p n) ≤ n
unfolding among
among-le p zero = zero-le
among-le p (suc n) =
    by-test (p n) _
    (λ t. omega (arith, ap length (among-yes p n t), length-append (among p n) (n ∷ []), among-le p n))
    (λ f. omega (arith, ap length (among-no p n f), among-le p n))

-- one that passes stands in the list, after those below it
pub among-at : (p : ℕ → Bool) (n i : ℕ) → i < n → p i ≡ true
    → (length (among p i) < length (among p n)) × (get_or (among p n) (length (among p i)) 0 ≡ i)
unfolding among
among-at p zero i h t = absurd (not-suc-le-zero h)
among-at p (suc n) i h t =
    below_suc _ h
    (λ (q : i ≡ n).
    let l = among-yes p n (ap p (sym q) ∙ t) in (
      omega (arith, ap length l, length-append (among p n) (n ∷ []), ap (λ (k : ℕ). length (among p k)) q),
      ap (λ (k : ℕ). get_or (among p (suc n)) (length (among p k)) 0) q
          ∙ ap (λ (r : List ℕ). get_or r (length (among p n)) 0) l ∙ get_or-append_seam (among p n) n [] 0 ∙ sym q,
    ))
    (λ (b : i < n).
    let r = among-at p n i b t in (
      omega (arith, r.0, length-append (among p n) (cond (p n) (n ∷ []) [])),
      get_or-append (among p n) (cond (p n) (n ∷ []) []) 0 (length (among p i)) r.0 ∙ r.1,
    ))

-- each entry of the list is below n and passes
pub among-each : (p : ℕ → Bool) (n k : ℕ) → k < length (among p n) → (get_or (among p n) k 0 < n) × (p (get_or (among p n) k 0) ≡ true)
unfolding among
among-each p zero k h = absurd (not-suc-le-zero h)
among-each p (suc n) k h =
    ⊎_elim
    (λ (b : k < length (among p n)).
    let e = get_or-append (among p n) (cond (p n) (n ∷ []) []) 0 k b in
    let r = among-each p n k b in
    (omega (arith, e, r.0), ap p e ∙ r.1))
    (λ (g : length (among p n) ≤ k).
    by-test (p n) _
    (λ t.
    let l = among-yes p n t in
    let q : k ≡ length (among p n) = omega (arith, ap length l, length-append (among p n) (n ∷ [])) in
    let e : get_or (among p (suc n)) k 0 ≡ n = ap (λ (j : ℕ). get_or (among p (suc n)) j 0) q
    ∙ ap (λ (r : List ℕ). get_or r (length (among p n)) 0) l ∙ get_or-append_seam (among p n) n [] 0 in
    (omega (arith, e), ap p e ∙ t))
    (λ u. absurd (omega (arith, ap length (among-no p n u)))))
    (lt-or-ge k (length (among p n)))

pub among_same : (p q : ℕ → Bool) (n : ℕ) → ((k : ℕ) → k < n → p k ≡ q k) → among p n ≡ among q n
unfolding among
among_same p q zero f = refl
among_same p q (suc n) f =
    ap₂ (λ (x : List ℕ) (b : Bool). x ++ cond b (n ∷ []) []) (among_same p q n (λ k h. f k (omega arith))) (f n (omega arith))

-- an entry that an opening part of the list has
among-before : (p : ℕ → Bool) (n k : ℕ) → k < length (among p n) → get_or (among p (suc n)) k 0 ≡ get_or (among p n) k 0
unfolding among
among-before p n k h = get_or-append (among p n) (cond (p n) (n ∷ []) []) 0 k h

-- the list rises strictly, so nobody stands in it twice
pub among-rises : (p : ℕ → Bool) (n k : ℕ) → suc k < length (among p n) → get_or (among p n) k 0 < get_or (among p n) (suc k) 0
unfolding among
among-rises p zero k h = absurd (not-suc-le-zero h)
among-rises p (suc n) k h =
    ⊎_elim
    (λ (b : suc k < length (among p n)).
    omega (arith, among-before p n k (omega arith), among-before p n (suc k) b, among-rises p n k b))
    (λ (g : length (among p n) ≤ suc k).
    by-test (p n) _
    (λ t.
    let s : length (among p n) ≡ suc k = omega (arith, ap length (among-yes p n t), length-append (among p n) (n ∷ [])) in
    let a = (among-at p (suc n) n (omega arith) t).1 in
    let e : get_or (among p (suc n)) (suc k) 0 ≡ n = ap (λ (j : ℕ). get_or (among p (suc n)) j 0) (sym s) ∙ a in
    omega (arith, e, among-before p n k (omega arith), (among-each p n k (omega arith)).0))
    (λ f. absurd (omega (arith, ap length (among-no p n f)))))
    (lt-or-ge (suc k) (length (among p n)))

-- as many are listed as pass
pub among-count : (q : ℕ → Bool) (n : ℕ) → length (among q n) ≡ count n q
unfolding among count sum
among-count q zero = refl
among-count q (suc n) =
    length-append (among q n) (cond (q n) (n ∷ []) [])
    ∙ by-test (q n) _ (λ t. simp t (omega (arith, among-count q n))) (λ f. simp f (omega (arith, among-count q n)))

-- the list rises from any entry to any later one
pub rises-far : (q : ℕ → Bool) (n i j : ℕ) → i < j → j < length (among q n) → get_or (among q n) i 0 < get_or (among q n) j 0
rises-far q n i zero h g = absurd (omega arith)
rises-far q n i (suc j) h g =
    let r = among-rises q n j g in
    below_suc _ h (λ (e : i ≡ j). omega (arith, r, ap (λ (k : ℕ). get_or (among q n) k 0) e))
    (λ (l : i < j). omega (arith, r, rises-far q n i j l (omega arith)))

-- ---- a list written from the front

pub onto-none : (old : List ℕ) → old ≡ onto [] old
unfolding onto
onto-none old = refl

pub length-onto : (l old : List ℕ) → length l ≤ length old → length (onto l old) ≡ length old
unfolding onto
length-onto l old h = length-append l (drop (length l) old) ∙ omega (arith, length-drop (length l) old)

-- one more entry
pub onto-more : (l old : List ℕ) (v : ℕ) → length l < length old → set (onto l old) (length l) v ≡ onto (l ++ (v ∷ [])) old
unfolding onto
onto-more l old v h =
    let n : suc (length l) ≡ length (l ++ (v ∷ [])) = omega (arith, length-append l (v ∷ [])) in
    ap (λ (t : List ℕ). set (l ++ t) (length l) v) (drop-cons old (length l) 0 h)
    ∙ set-append_seam l (get_or old (length l) 0) (drop (suc (length l)) old) v
    ∙ sym (append_snoc l v (drop (suc (length l)) old))
    ∙ ap (λ (k : ℕ). l ++ (v ∷ []) ++ drop k old) n
