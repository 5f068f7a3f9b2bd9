-- Laws of the job file: refusal 13 and the columns. Assumes nothing.
use mathlib.Core.Path.{◌≡◌, refl, sym, ap, ap₂, ◌∙◌}
use mathlib.Core.Bool.{Bool, true, false, not, cond, ◌&&◌, and-false}
use mathlib.Core.List.{List, [], ◌∷◌, map}
use Prim.Native.Nat.{ℕ, zero, suc, ◌+◌, ◌-◌, ◌*◌, ◌/◌, ◌%◌, ◌≤◌, ◌<◌}
use native.Mathlib.Omega.{arith}
use borrow.Author.Tests.{le-leb, lt-leb, eq-eqb, ne_eqb, lt-ltb, le-ltb}
use lib.Dec.{T, leb, ltb, eqb, lit<}
use lib.Ieee.{Float, nan, inf, binary64, of_bits, of_fields, nan_bits, div}
use lib.ListN.{length, get_or, set, replicate, length-replicate}
use Rattle.paper.specs.Count.{all}
use Rattle.paper.proofs.Count.{length_over, over_none, get_d_over, all_more, all-fails, all_done}
use Rattle.records.specs.Fields.{le}
use Rattle.records.specs.Records.{block_at, count_of, walk_ok}
use Rattle.job.specs.File.{job_layout, file_most, job_counts, job_starts, owner_slot, rising, rest_ok, file_ok}
use Rattle.job.specs.Columns.{column, float_column}
use Rattle.records.proofs.Sequences.{block-end}
use Rattle.records.proofs.Walks.{over-turn}

-- ---- refusal 13

-- the owners' slots: one more, a fall, and all
pub rise-more : (s : List ℕ) (at k x y : ℕ) → x ≡ owner_slot s at k → y ≡ owner_slot s at (k + 1) → x < y
    → all k (λ j. ltb (owner_slot s at j) (owner_slot s at (j + 1))) ≡ true
    → all (k + 1) (λ j. ltb (owner_slot s at j) (owner_slot s at (j + 1))) ≡ true
rise-more s at k x y e g h a =
    all_more k (λ j. ltb (owner_slot s at j) (owner_slot s at (j + 1))) a
    (lt-ltb (owner_slot s at k) (owner_slot s at (k + 1)) (omega (arith, e, g)))

pub rise-fails : (s : List ℕ) (at n k x y : ℕ) → k + 1 < n → x ≡ owner_slot s at k → y ≡ owner_slot s at (k + 1) → y ≤ x
    → false ≡ rising s at n
unfolding rising
rise-fails s at n k x y h e g f =
    sym (all-fails (n - 1) k (λ j. ltb (owner_slot s at j) (owner_slot s at (j + 1))) (omega arith)
    (le-ltb (owner_slot s at k) (owner_slot s at (k + 1)) (omega (arith, e, g))))

pub rise-done : (s : List ℕ) (at n k : ℕ) → k ≤ n - 1 → n ≤ k + 1
    → all k (λ j. ltb (owner_slot s at j) (owner_slot s at (j + 1))) ≡ true → true ≡ rising s at n
unfolding rising
rise-done s at n k h g a = all_done (n - 1) k _ h (omega arith) a

-- the chain, link by link
module _ (s : List ℕ) (settings freezes at owners : ℕ) where
  pub rest-last : (r : Bool) → settings ≡ 1 → freezes ≤ 1 → r ≡ rising s at owners
      → r ≡ rest_ok s settings freezes at owners
  unfolding rest_ok
  rest-last r p q e = e ∙ sym (simp (eq-eqb _ _ p, le-leb _ _ q))

  pub rest-freezes : settings ≡ 1 → 1 < freezes → false ≡ rest_ok s settings freezes at owners
  unfolding rest_ok
  rest-freezes p q = sym (simp (eq-eqb _ _ p, lt-leb _ _ q))

  pub rest-settings : (settings ≡ 1 → ⊥) → false ≡ rest_ok s settings freezes at owners
  unfolding rest_ok
  rest-settings p = sym (simp (ne_eqb _ _ p))

-- the counts and the starts of the kinds, read from their arrays
module _ (s c : List ℕ) (counts : c ≡ job_counts s) where
  pub count_at : (i : ℕ) → i < 7 → get_or c i 0 ≡ count_of job_layout s i
  unfolding job_counts
  count_at i h =
      ap (λ (l : List ℕ). get_or l i 0) counts
      ∙ get_d_over (count_of job_layout s) 7 (replicate 8 0) i h (omega (arith, length-replicate {A = ℕ} 8 0))

module _ (s b : List ℕ) (starts : b ≡ job_starts s) where
  pub start-at : (i : ℕ) → i < 7 → get_or b i 0 ≡ block_at job_layout s i
  unfolding job_starts
  start-at i h =
      ap (λ (l : List ℕ). get_or l i 0) starts
      ∙ get_d_over (block_at job_layout s) 7 (replicate 8 0) i h (omega (arith, length-replicate {A = ℕ} 8 0))

module _ (s c b : List ℕ) (counts : c ≡ job_counts s) (starts : b ≡ job_starts s) where
  -- the owner records lie within the file
  pub owners-end : get_or b 5 0 + get_or c 5 0 * 8 ≤ length s
  owners-end =
      omega (arith, block-end job_layout s 5, ap (λ (n : ℕ). n * 8) (count_at s c counts 5 (lit< tt)), start-at s b starts 5 (lit< tt))

  -- the walk and the rest together
  pub file-ok : (w r : Bool) → w ≡ walk_ok job_layout file_most s → r ≡ rest_ok s (get_or c 0 0) (get_or c 4 0) (get_or b 5 0) (get_or c 5 0)
      → w && r ≡ file_ok s
  unfolding file_ok
  file-ok w r e f =
      ap₂ ◌&&◌ e (f
      ∙ ap₂ (λ (x y : ℕ). rest_ok s x y (get_or b 5 0) (get_or c 5 0)) (count_at s c counts 0 (lit< tt)) (count_at s c counts 4 (lit< tt))
      ∙ ap₂ (λ (x y : ℕ). rest_ok s (count_of job_layout s 0) (count_of job_layout s 4) x y) (start-at s b starts 5 (lit< tt))
      (count_at s c counts 5 (lit< tt)))

-- ---- columns

-- numbers of any width

module _ (width : ℕ) (s : List ℕ) (at stride : ℕ) where
  pub column-none : replicate 1024 0 ≡ column width s at stride 0
  unfolding column
  column-none = sym (over_none (λ j. le width s (at + j * stride)) (replicate 1024 0))

  pub column-more : (x : List ℕ) (k v : ℕ) → x ≡ column width s at stride k → v ≡ le width s (at + k * stride)
      → set x k v ≡ column width s at stride (k + 1)
  unfolding column
  column-more x k v e g = over-turn (λ j. le width s (at + j * stride)) (replicate 1024 0) x k v e g

  pub length-column : (n : ℕ) → length (column width s at stride n) ≡ 1024
  unfolding column
  length-column n = length_over (λ j. le width s (at + j * stride)) n (replicate 1024 0) ∙ length-replicate {A = ℕ} 1024 0

  pub column-at : (n k : ℕ) → k < n → n ≤ 1024 → get_or (column width s at stride n) k 0 ≡ le width s (at + k * stride)
  unfolding column
  column-at n k h few =
      get_d_over (λ j. le width s (at + j * stride)) n (replicate 1024 0) k h (omega (arith, length-replicate {A = ℕ} 1024 0))

-- the f64 of each entry
map-set : {A B : Type 0} (f : A → B) (l : List A) (k : ℕ) (v : A) → map f (set l k v) ≡ set (map f l) k (f v)
map-set f [] k v = refl
map-set f (x ∷ l) zero v = refl
map-set f (x ∷ l) (suc k) v = ap (λ (m : List _). f x ∷ m) (map-set f l k v)

map-replicate : {A B : Type 0} (f : A → B) (n : ℕ) (x : A) → map f (replicate n x) ≡ replicate n (f x)
map-replicate f zero x = refl
map-replicate f (suc n) x = ap (λ (m : List _). f x ∷ m) (map-replicate f n x)

module _ (s : List ℕ) (at stride : ℕ) where
  pub floats-none : replicate 1024 (of_bits binary64 0) ≡ float_column s at stride 0
  unfolding float_column
  floats-none = sym (map-replicate (of_bits binary64) 1024 0) ∙ ap (map (of_bits binary64)) (column-none 8 s at stride)

  pub floats-more : (x : List Float) (k : ℕ) (v : Float) → x ≡ float_column s at stride k → v ≡ of_bits binary64 (le 8 s (at + k * stride))
      → set x k v ≡ float_column s at stride (k + 1)
  unfolding float_column
  floats-more x k v e g =
      ap₂ (λ (y : List Float) (u : Float). set y k u) e g
      ∙ sym (map-set (of_bits binary64) (column 8 s at stride k) k (le 8 s (at + k * stride)))
      ∙ ap (map (of_bits binary64)) (column-more 8 s at stride (column 8 s at stride k) k (le 8 s (at + k * stride)) refl refl)

-- ---- patterns

pub no-nan-field : (b : ℕ) → (b % 9223372036854775808 / 4503599627370496 ≡ 2047 → ⊥) → T (not (nan_bits binary64 b))
unfolding nan_bits
no-nan-field b h = rw (ne_eqb (b % 9223372036854775808 / 4503599627370496) 2047 h) tt

pub no-nan-digits : (b : ℕ) → b % 4503599627370496 ≡ 0 → T (not (nan_bits binary64 b))
unfolding nan_bits
no-nan-digits b h =
    rw (eq-eqb (b % 4503599627370496) 0 h) (rw (and-false
    (eqb (b % 9223372036854775808 / 4503599627370496) 2047)) tt)

pub nan_pattern : (b : ℕ) → b % 9223372036854775808 / 4503599627370496 ≡ 2047 → (b % 4503599627370496 ≡ 0 → ⊥)
    → div binary64 (of_bits binary64 0) (of_bits binary64 0) ≡ of_bits binary64 b
unfolding of_bits of_fields div
nan_pattern b h g =
    sym (ap (λ (x : ℕ). of_fields binary64 (leb 9223372036854775808 b) x (b % 4503599627370496)) h
    ∙ ap (λ (t : Bool). cond t (inf (leb 9223372036854775808 b)) nan) (ne_eqb (b % 4503599627370496) 0 g))
