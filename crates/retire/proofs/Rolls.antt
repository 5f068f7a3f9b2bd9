-- A column moved to the front entry by entry: the one law of every width. Assumes nothing.
use mathlib.Core.Path.{◌≡◌, refl, sym, ap, ◌∙◌}
use mathlib.Core.Bool.{Bool, cond}
use mathlib.Core.Logic.{⊎_elim}
use mathlib.Core.List.{List}
use Prim.Native.Nat.{ℕ, ◌+◌, ◌-◌, min, ◌≤◌, ◌<◌}
use native.Mathlib.Omega.{arith}
use borrow.Author.Tests.{lt-ltb, le-ltb, leb-true}
use lib.ListN.{length, get_or, set, take, drop}
use Rattle.paper.specs.Count.{over}
use Rattle.paper.proofs.Count.{over_none, over-more, length_over, get_d_over, get_d-over-out}
use Rattle.paper.proofs.Logic.{lt-or-ge}
use Rattle.std.proofs.lemmas.Grind.{same_number_lists}
use Rattle.std.proofs.lemmas.List.{places}
use borrow.Rule.Slice.PartMut.{put_mid}
use Rattle.paper.specs.Limits.{number_of}
use Rattle.paper.proofs.Rows.{passed}
use Rattle.retire.specs.Column.{column_row}
use Rattle.retire.specs.Rolled.{entry, rolled, rolled_column, begin_then}

-- ---- one entry

module _ (gone kept : ℕ) (old new : ℕ → ℕ) where
  pub rolled-old : (k : ℕ) → k < kept → rolled gone kept old new k ≡ old (gone + k)
  unfolding rolled
  rolled-old k h = ap (λ (b : Bool). cond b (old (gone + k)) (new (k - kept))) (lt-ltb k kept h)

  pub rolled-new : (k : ℕ) → kept ≤ k → rolled gone kept old new k ≡ new (k - kept)
  unfolding rolled
  rolled-new k h = ap (λ (b : Bool). cond b (old (gone + k)) (new (k - kept))) (le-ltb k kept h)

-- ---- a column in two parts: the rest is copied to the front, and then what is new is written behind it

part-size : (a n : ℕ) (m : List ℕ) → a + n ≤ length m → length (take n (drop a m)) ≡ n
part-size a n m here = grind (arith, places)

module _ (a n : ℕ) (m ys : List ℕ) (here : a + n ≤ length m) (long : length ys ≡ n) where
  part-length : length (put_mid a n m ys) ≡ length m
  part-length = grind (arith, places)

  part-before : (k : ℕ) → k < a → get_or (put_mid a n m ys) k 0 ≡ get_or m k 0
  part-before k h = grind (arith, places)

  part-in : (k : ℕ) → a ≤ k → k < a + n → get_or (put_mid a n m ys) k 0 ≡ get_or ys (k - a) 0
  part-in k h g = grind (arith, places)

  part-after : (k : ℕ) → a + n ≤ k → get_or (put_mid a n m ys) k 0 ≡ get_or m k 0
  part-after k h = grind (arith, places)

-- m is l with its entries from `gone` on, `rest` of them, copied to the front
pub record Moved (gone rest : ℕ) (l m : List ℕ) : Type 0 where
  pub long : length m ≡ length l
  pub front : (k : ℕ) → k < rest → get_or m k 0 ≡ get_or l (gone + k) 0
  pub behind : (k : ℕ) → rest ≤ k → get_or m k 0 ≡ get_or l k 0

-- what `copy_within` says of it
pub moved : (gone rest : ℕ) (l m : List ℕ) → length m ≡ length l
    → ((k d : ℕ) → 0 ≤ k → k < 0 + (gone + rest - gone) → get_or m k d ≡ get_or l (gone + (k - 0)) d)
    → ((k d : ℕ) → 0 + (gone + rest - gone) ≤ k → get_or m k d ≡ get_or l k d) → Moved gone rest l m
moved gone rest l m long copied same = record {
  long = long;
  front = λ k h.
      let z : gone + (k - 0) ≡ gone + k = omega arith in
      copied k 0 (omega arith) (omega arith) ∙ ap (λ (i : ℕ). get_or l i 0) z;
  behind = λ k h. same k 0 (omega arith);
}

module _ (gone kept count rest : ℕ) (new : ℕ → ℕ) (l m ys : List ℕ) where
  pub roll_parts : rest ≡ min kept count → count ≤ length l → Moved gone rest l m
      → length ys ≡ length (take (count - rest) (drop rest m))
      → ((k : ℕ) → k < length (take (count - rest) (drop rest m)) → get_or ys k 0 ≡ new k)
      → put_mid rest (count - rest) m ys ≡ rolled_column gone kept count new l
  unfolding rolled_column
  roll_parts r room M size fresh =
      let f = rolled gone kept (entry l) new in
      let z = put_mid rest (count - rest) m ys in
      let here : rest + (count - rest) ≤ length m = omega (arith, M.long) in
      let wide = part-size rest (count - rest) m here in
      let long : length ys ≡ count - rest = size ∙ wide in
      same_number_lists z (over f count l) (part-length rest _ m ys here long ∙ M.long ∙ sym (length_over f count l))
      (λ k h.
      let inside : k < length l = omega (arith, part-length rest _ m ys here long, M.long) in
      ⊎_elim
      (λ (t : k < count).
      ⊎_elim
      (λ (o : k < kept). part-before rest _ m ys here long k (omega arith) ∙ M.front k (omega arith) ∙ sym (rolled-old gone kept (entry l) new k o))
      (λ (o : kept ≤ k).
      let q : k - rest ≡ k - kept = omega arith in
      part-in rest _ m ys here long k (omega arith) (omega arith) ∙ fresh (k - rest) (omega (arith, wide)) ∙ ap new q ∙ sym (rolled-new gone kept (entry l) new k o))
      (lt-or-ge k kept) ∙ sym (get_d_over f count l k t inside))
      (λ (u : count ≤ k). part-after rest _ m ys here long k (omega arith) ∙ M.behind k (omega arith) ∙ sym (get_d-over-out f count l k u))
      (lt-or-ge k count))

-- ---- unit starts, which count from another slot then

module _ (gone kept less more : ℕ) (l fresh : List ℕ) where
  pub begins-none : l ≡ over (begin_then gone kept less more l fresh) 0 l
  begins-none = sym (over_none _ l)

  pub begins-length : (k : ℕ) (m : List ℕ) → m ≡ over (begin_then gone kept less more l fresh) k l → length m ≡ length l
  begins-length k m e = ap length e ∙ length_over _ k l

  begins-more : (k v : ℕ) (m : List ℕ) → m ≡ over (begin_then gone kept less more l fresh) k l → v ≡ begin_then gone kept less more l fresh k
      → set m k v ≡ over (begin_then gone kept less more l fresh) (k + 1) l
  begins-more k v m e q =
      ap (λ (x : List ℕ). set x k v) e ∙ ap (set (over (begin_then gone kept less more l fresh) k l) k) q
      ∙ sym (over-more (begin_then gone kept less more l fresh) k l)

  pub begins-old : (k x v : ℕ) (m : List ℕ) → m ≡ over (begin_then gone kept less more l fresh) k l → k < kept → x ≡ get_or m (gone + k) 0
      → v ≡ x - less → set m k v ≡ over (begin_then gone kept less more l fresh) (k + 1) l
  unfolding begin_then
  begins-old k x v m e h p q =
      let read : x ≡ get_or l (gone + k) 0 =
      p ∙ ap (λ (y : List ℕ). get_or y (gone + k) 0) e ∙ get_d-over-out _ k l (gone + k) (omega arith) in
      begins-more k v m e (q ∙ ap (λ (y : ℕ). y - less) read ∙ sym (rolled-old gone kept _ _ k h))

  pub begins-new : (k x v : ℕ) (m : List ℕ) → m ≡ over (begin_then gone kept less more l fresh) k l → kept ≤ k → x ≡ get_or fresh (k - kept) 0
      → v ≡ more + x → set m k v ≡ over (begin_then gone kept less more l fresh) (k + 1) l
  unfolding begin_then
  begins-new k x v m e h p q =
      begins-more k v m e (q ∙ ap (λ (y : ℕ). more + y) p ∙ sym (rolled-new gone kept _ _ k h))

  pub begins-done : (k n : ℕ) (m : List ℕ) → m ≡ over (begin_then gone kept less more l fresh) k l → k ≤ n → n ≤ k
      → m ≡ over (begin_then gone kept less more l fresh) n l
  begins-done k n m e a b = let q : k ≡ n = omega arith in e ∙ ap (λ (x : ℕ). over (begin_then gone kept less more l fresh) x l) q

-- ---- what a published column's row of tests says where nothing is refused

pub record ColumnRight (before gone count : ℕ) (column : List ℕ) : Type 0 where
  pub fewer : gone ≤ before
  pub left : before - gone ≤ count
  pub before-room : before ≤ length column
  pub count_room : count ≤ length column

pub column-says : (before gone count : ℕ) (column : List ℕ) → number_of (column_row before gone count column) ≡ 0
    → ColumnRight before gone count column
unfolding column_row
column-says before gone count column z =
    let h = passed (column_row before gone count column) refl z in
    record {
      fewer = leb-true _ _ (h 2);
      left = leb-true _ _ (h 3);
      before-room = leb-true _ _ (h 4);
      count_room = leb-true _ _ (h 5);
    }
