-- Laws of the walk over records. Assumes nothing.
use mathlib.Core.Path.{◌≡◌, refl, sym, ap, ap₂, ◌∙◌}
use mathlib.Core.Bool.{Bool, true, false, cond, ◌&&◌}
use mathlib.Core.List.{List}
use Prim.Native.Nat.{ℕ, zero, suc, ◌+◌, ◌*◌, min, ◌≤◌, ◌<◌}
use native.Mathlib.Nat.{suc-mul}
use native.Mathlib.Numerals.{add-one}
use native.Mathlib.Omega.{arith}
use borrow.Author.Tests.{le-leb, lt-leb, leb-true, leb-false, eq-eqb, ne_eqb, eqb-true}
use lib.Dec.{leb, eqb}
use lib.ListN.{length, get_or, set}
use Rattle.paper.specs.Count.{all, over}
use Rattle.paper.proofs.Logic.{by-test, three, and-true}
use Rattle.paper.proofs.Count.{all_more, all-fails, over-more}
use Rattle.records.specs.Fields.{le}
use Rattle.records.specs.Records.{Layout, kinds_most, record_at, lead, block_count, block_at, count_of, walk_ok}

-- ---- the leading numbers that pass a test

-- where the first m pass and m doesn't, m lead
pub lead_is : (p : ℕ → Bool) (m n : ℕ) → m ≤ n → all m p ≡ true → p m ≡ false → lead p n ≡ m
unfolding lead
lead_is p m zero h a f = omega arith
lead_is p m (suc n) h a f =
    by-test (leb m n) _
    (λ t.
    ap (λ (b : Bool). cond b (suc n) (lead p n)) (all-fails (suc n) m p (omega (arith, leb-true m n t)) f)
    ∙ lead_is p m n (leb-true m n t) a f)
    (λ t.
    let e : m ≡ suc n = omega (arith, leb-false m n t) in
    ap (λ (b : Bool). cond b (suc n) (lead p n)) (ap (λ (k : ℕ). all k p) (sym e) ∙ a) ∙ sym e)

-- all that lead pass
pub lead-all : (p : ℕ → Bool) (n : ℕ) → all (lead p n) p ≡ true
unfolding lead all
lead-all p zero = refl
lead-all p (suc n) =
    by-test (all (suc n) p) _ (λ t. ap (λ (b : Bool). all (cond b (suc n) (lead p n)) p) t ∙ t)
    (λ f. ap (λ (b : Bool). all (cond b (suc n) (lead p n)) p) f ∙ lead-all p n)

-- where all n pass, all lead
pub lead-full : (p : ℕ → Bool) (n : ℕ) → all n p ≡ true → lead p n ≡ n
unfolding lead
lead-full p zero a = refl
lead-full p (suc n) a = ap (λ (b : Bool). cond b (suc n) (lead p n)) a

-- no more than n lead
pub lead-most : (p : ℕ → Bool) (n : ℕ) → lead p n ≤ n
unfolding lead
lead-most p zero = omega arith
lead-most p (suc n) =
    by-test (all (suc n) p) _
    (λ t. omega (arith, ap (λ (b : Bool). cond b (suc n) (lead p n)) t))
    (λ f. omega (arith, ap (λ (b : Bool). cond b (suc n) (lead p n)) f, lead-most p n))

-- ---- a record at a place

-- what a record's test says
pub record-says : (s : List ℕ) (kind size at : ℕ) → record_at s kind size at ≡ true
    → (at + (4 + size) ≤ length s) × (le 2 s at ≡ size) × (le 2 s (at + 2) ≡ kind)
unfolding record_at
record-says s kind size at e =
    let x = three (leb (at + (4 + size)) (length s)) (eqb (le 2 s at) size) (eqb (le 2 s (at + 2)) kind) e in
    (leb-true _ _ x.0, eqb-true _ _ x.1, eqb-true _ _ x.2)

pub record_is : (s : List ℕ) (kind size at : ℕ) → at + (4 + size) ≤ length s → le 2 s at ≡ size → le 2 s (at + 2) ≡ kind
    → record_at s kind size at ≡ true
unfolding record_at
record_is s kind size at a b c =
    and-true _ _ (le-leb _ _ a) (and-true _ _ (eq-eqb _ _ b) (eq-eqb _ _ c))

-- no room for it, another size, another kind
pub record-short : (s : List ℕ) (kind size at : ℕ) → length s < at + (4 + size) → record_at s kind size at ≡ false
unfolding record_at
record-short s kind size at h = ap (λ (b : Bool). b && (eqb (le 2 s at) size && eqb (le 2 s (at + 2)) kind)) (lt-leb _ _ h)

pub record-kind : (s : List ℕ) (kind size at : ℕ) (l z : ℕ) → at + (4 + size) ≤ length s → l ≡ le 2 s at → z ≡ le 2 s (at + 2)
    → l ≡ size → eqb z kind ≡ record_at s kind size at
unfolding record_at
record-kind s kind size at l z h e g q =
    ap (λ (x : ℕ). eqb x kind) g
    ∙ sym (ap₂ (λ (a b : Bool). a && (b && eqb (le 2 s (at + 2)) kind)) (le-leb _ _ h) (eq-eqb _ _ (sym e ∙ q)))

pub record-size : (s : List ℕ) (kind size at : ℕ) (l : ℕ) → at + (4 + size) ≤ length s → l ≡ le 2 s at
    → (l ≡ size → ⊥) → false ≡ record_at s kind size at
unfolding record_at
record-size s kind size at l h e q =
    sym (ap₂ (λ (a b : Bool). a && (b && eqb (le 2 s (at + 2)) kind)) (le-leb _ _ h) (ne_eqb _ _ (λ x. q (e ∙ x))))

-- ---- the records of a kind

-- the place of the next record
pub next-at : (at count width end : ℕ) → end ≡ at + count * width → end + width ≡ at + (count + 1) * width
next-at at count width end e =
    let m : (count + 1) * width ≡ count * width + width = ap (λ (n : ℕ). n * width) (add-one count) ∙ suc-mul count width in
    omega (arith, m)

pub block_more : (s : List ℕ) (kind size at count end : ℕ) → end ≡ at + count * (4 + size) → record_at s kind size end ≡ true
    → all count (λ j. record_at s kind size (at + j * (4 + size))) ≡ true
    → all (count + 1) (λ j. record_at s kind size (at + j * (4 + size))) ≡ true
block_more s kind size at count end e t a =
    all_more count _ a (ap (record_at s kind size) (sym e) ∙ t)

pub block-done : (s : List ℕ) (kind size at count end : ℕ) → end ≡ at + count * (4 + size) → end ≤ length s
    → record_at s kind size end ≡ false
    → all count (λ j. record_at s kind size (at + j * (4 + size))) ≡ true
    → count ≡ block_count s kind size at
unfolding block_count
block-done s kind size at count end e h f a =
    sym (lead_is (λ j. record_at s kind size (at + j * (4 + size))) count (length s) (omega (arith, few count (4 + size) (omega arith))) a
    (ap (record_at s kind size) (sym e) ∙ f))
  where
    few : (n w : ℕ) → 1 ≤ w → n ≤ n * w
    few zero w h = omega arith
    few (suc n) w h = omega (arith, few n w h, suc-mul n w)

-- ---- the walk

pub block-next : (L : Layout) (s : List ℕ) (i at count end : ℕ) → at ≡ block_at L s i
    → count ≡ block_count s (L.first + i) (get_or L.sizes i 0) at → end ≡ at + count * (4 + get_or L.sizes i 0)
    → (count ≡ count_of L s i) × (end ≡ block_at L s (i + 1))
unfolding block_at count_of
block-next L s i at count end a c e =
    let k : count ≡ block_count s (L.first + i) (get_or L.sizes i 0) (block_at L s i) =
    c ∙ ap (block_count s (L.first + i) (get_or L.sizes i 0)) a in (
      k,
      e ∙ ap₂ (λ (x n : ℕ). x + n * (4 + get_or L.sizes i 0)) a k ∙ ap (block_at L s) (sym (add-one i)),
    )

pub walk_none : (L : Layout) (s : List ℕ) → 0 ≡ block_at L s 0
unfolding block_at
walk_none L s = refl

-- what is left at the end
pub walk-short : (L : Layout) (limit : ℕ) (s : List ℕ) (at : ℕ) → at ≡ block_at L s L.kinds → length s ≤ limit
    → eqb at (length s) ≡ walk_ok L limit s
unfolding walk_ok
walk-short L limit s at a h =
    ap (λ (x : ℕ). eqb x (length s)) a ∙ sym (ap (λ (b : Bool). b && eqb (block_at L s L.kinds) (length s)) (le-leb _ _ h))

pub walk-long : (L : Layout) (limit : ℕ) (s : List ℕ) → limit < length s → false ≡ walk_ok L limit s
unfolding walk_ok
walk-long L limit s h = sym (ap (λ (b : Bool). b && eqb (block_at L s L.kinds) (length s)) (lt-leb _ _ h))

-- ---- a column that a loop fills

-- the turn of a loop that makes the first entries anew, and its end
pub over-turn : (f : ℕ → ℕ) (l x : List ℕ) (k v : ℕ) → x ≡ over f k l → v ≡ f k → set x k v ≡ over f (k + 1) l
over-turn f l x k v e g = ap₂ (λ (y : List ℕ) (u : ℕ). set y k u) e g ∙ sym (over-more f k l)

pub over_done : (f : ℕ → ℕ) (l x : List ℕ) (i n : ℕ) → i ≡ n → x ≡ over f i l → x ≡ over f n l
over_done f l x i n e h = h ∙ ap (λ (k : ℕ). over f k l) e

-- no more kinds than a walk counts
pub kinds-least : (n : ℕ) → min n 8 ≡ kinds_most n
kinds-least n =
    by-test (leb n 8) _
    (λ t. let h : min n 8 ≡ n = omega (arith, leb-true n 8 t) in h ∙ sym (ap (λ (b : Bool). cond b n 8) t))
    (λ f. let h : min n 8 ≡ 8 = omega (arith, leb-false n 8 f) in h ∙ sym (ap (λ (b : Bool). cond b n 8) f))
