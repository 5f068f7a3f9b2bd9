-- The owners that are read: published slot by slot, and shown part by part. Assumes nothing.
use mathlib.Core.Path.{◌≡◌, refl, sym, ap, ap₂, ◌∙◌}
use mathlib.Core.Bool.{Bool, true, false, cond}
use mathlib.Core.List.{List}
use Prim.Native.Nat.{ℕ, zero, suc, ◌+◌, ◌-◌, ◌≤◌, ◌<◌, min}
use native.Mathlib.Decide.{ℕ_discrete}
use native.Mathlib.Omega.{arith}
use lib.ListN.{length, drop, get_or, set, length-set, length-take, length-drop}
use lib.Seq.{get_or-set_same, get_or-set_other, ext_get_or, get_or-take, get_or-drop, paste, paste-suc}
use Rattle.std.proofs.Common.{append-nil}
use Rattle.std.proofs.lemmas.List.{take-append-drop}
use Rattle.std.proofs.lemmas.Slice.{put_mid-paste}
use borrow.Rule.Slice.PartMut.{put_mid}
use Rattle.paper.specs.Count.{over}
use Rattle.paper.proofs.Count.{length_over, over-more, get_d-over-out, get_d_over}
use Rattle.columns.specs.Parts.{is_frozen, next_change, part_at, owners_of}
use Rattle.columns.specs.Publishing.{owner_read}
use Rattle.columns.specs.Inside.{Sound}
use Rattle.columns.proofs.Parts.{change-is}

-- the owner read of a slot, by its flag
pub read-frozen : (p d f : List ℕ) (k : ℕ) → is_frozen f k ≡ true → owner_read p d f k ≡ get_or p k 0
unfolding owner_read
read-frozen p d f k e = ap (λ (b : Bool). cond b (get_or p k 0) (get_or d k 0)) e

pub read-open : (p d f : List ℕ) (k : ℕ) → is_frozen f k ≡ false → owner_read p d f k ≡ get_or d k 0
unfolding owner_read
read-open p d f k e = ap (λ (b : Bool). cond b (get_or p k 0) (get_or d k 0)) e

-- ---- slot by slot

-- an entry set to what it is
set_own : (l : List ℕ) (k v : ℕ) → k < length l → v ≡ get_or l k 0 → set l k v ≡ l
set_own l k v h e =
    ext_get_or 0 (set l k v) l (length-set l k v)
    (λ j b. elim (ℕ_discrete j k) [
      | yes q ↦ ap (λ (x : ℕ). get_or (set l k v) x 0) q ∙ get_or-set_same l k v 0 h ∙ e ∙ ap (λ (x : ℕ). get_or l x 0) (sym q)
      | no m ↦ get_or-set_other l k j v 0 m
    ])

-- one slot more: a frozen one stays, another gets the draft's owner
module _ (p d f now : List ℕ) (k : ℕ) (r : Bool) (is : r ≡ is_frozen f k) (so : now ≡ over (owner_read p d f) k p) where
  pub frozen-more : r ≡ true → k < length p → now ≡ over (owner_read p d f) (k + 1) p
  frozen-more t h =
      so ∙ sym (over-more (owner_read p d f) k p
      ∙ set_own (over (owner_read p d f) k p) k _ (omega (arith, length_over (owner_read p d f) k p))
      (read-frozen p d f k (sym is ∙ t) ∙ sym (get_d-over-out (owner_read p d f) k p k (let q : k ≤ k = omega arith in q))))

  pub open_more : r ≡ false → set now k (get_or d k 0) ≡ over (owner_read p d f) (k + 1) p
  open_more t =
      ap₂ (λ (l : List ℕ) (x : ℕ). set l k x) so (sym (read-open p d f k (sym is ∙ t))) ∙ sym (over-more (owner_read p d f) k p)

-- ---- part by part

-- a list of which every entry is set to another's is that one
pub put-whole : (p l : List ℕ) → length l ≡ length p → over (λ k. get_or p k 0) (length p) l ≡ p
put-whole p l e =
    ext_get_or 0 (over (λ k. get_or p k 0) (length p) l) p (length_over (λ k. get_or p k 0) (length p) l ∙ e)
    (λ j b. get_d_over (λ k. get_or p k 0) (length p) l j (omega (arith, length_over (λ k. get_or p k 0) (length p) l)) (omega (arith, length_over (λ k. get_or p k 0) (length p) l)))

-- what is pasted behind entries made anew makes anew that many more
pub pasted : (g : ℕ → ℕ) (at n : ℕ) (s l : List ℕ) → n ≤ length s → at + n ≤ length l → ((k : ℕ) → k < n → get_or s k 0 ≡ g (at + k))
    → paste (over g at l) at s n ≡ over g (at + n) l
pasted g at zero s l short room h =
    let z : at + 0 ≡ at = omega arith in rw (z, append-nil) (take-append-drop at (over g at l))
pasted g at (suc n) s l short room h =
    sym (paste-suc (over g at l) at s n 0 (omega (arith, length_over g at l)) (omega arith))
    ∙ ap₂ (λ (m : List ℕ) (x : ℕ). set m (at + n) x) (pasted g at n s l (omega arith) (omega arith) (λ k b. h k (omega arith))) (h n (omega arith))
    ∙ sym (over-more g (at + n) l) ∙ ap (λ (x : ℕ). over g x l) (let q : at + n + 1 ≡ at + suc n = omega arith in q)

-- a part has the owners that are read of its slots
module _ (slots : ℕ) (p d f : List ℕ) (S : Sound slots p d f) (i : ℕ) (inside : i < slots) where
  chosen-room : (b : Bool) → slots ≤ length (cond b p d)
  chosen-room true = S.room
  chosen-room false = omega (arith, S.room, S.same)

  read_by : (b : Bool) (k : ℕ) → is_frozen f k ≡ b → owner_read p d f k ≡ get_or (cond b p d) k 0
  read_by true k e = read-frozen p d f k e
  read_by false k e = read-open p d f k e

  pub part_length : length (owners_of (part_at slots f i) p d) ≡ next_change slots f i - i
  unfolding part_at
  part_length =
      let C = change-is slots f i inside in
      length-take (next_change slots f i - i) (drop i (cond (is_frozen f i) p d))
      ∙ ap (λ (n : ℕ). min (next_change slots f i - i) n) (length-drop i (cond (is_frozen f i) p d))
      ∙ (let r = chosen-room (is_frozen f i) in
      let q : min (next_change slots f i - i) (length (cond (is_frozen f i) p d) - i) ≡ next_change slots f i - i = omega
      (arith, r, C.within) in q)

  pub part-reads : (k : ℕ) → k < next_change slots f i - i → get_or (owners_of (part_at slots f i) p d) k 0 ≡ owner_read p d f (i + k)
  unfolding part_at
  part-reads k h =
      let C = change-is slots f i inside in
      get_or-take (next_change slots f i - i) (drop i (cond (is_frozen f i) p d)) k 0 h
      ∙ get_or-drop i (cond (is_frozen f i) p d) k 0
      ∙ sym (read_by (is_frozen f i) (i + k) (C.alike (i + k) (omega arith) (omega (arith, h))))

-- one part more
module _ (slots : ℕ) (p d f : List ℕ) (S : Sound slots p d f) (at : ℕ) (inside : at < slots) (r : List ℕ)
    (is : r ≡ owners_of (part_at slots f at) p d) where
  pub part-ends : (at < at + length r) × (at + length r ≤ slots)
  part-ends =
      let C = change-is slots f at inside in
      let n = ap (λ (l : List ℕ). length l) is ∙ part_length slots p d f S at inside in
      (omega (arith, n, C.later), omega (arith, n, C.later, C.within))

  pub part-more : (now l written : List ℕ) (k : ℕ) → k ≡ length r → written ≡ r → now ≡ over (owner_read p d f) at l → slots ≤ length l
      → put_mid at k now written ≡ over (owner_read p d f) (at + length r) l
  part-more now l written k long same so room =
      let n = ap (λ (x : List ℕ). length x) is ∙ part_length slots p d f S at inside in
      put_mid-paste at k now written r (length r) same (sym long) refl
      ∙ ap (λ (x : List ℕ). paste x at r (length r)) so
      ∙ pasted (owner_read p d f) at (length r) r l (omega arith) (omega (arith, part-ends.1))
      (λ k h. ap (λ (x : List ℕ). get_or x k 0) is ∙ part-reads slots p d f S at inside k (omega (arith, n, h)))
