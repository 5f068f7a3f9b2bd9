-- The members of a set: how many, after a change, and that the bits past the length don't count. Assumes nothing.
use mathlib.Core.Path.{◌≡◌, refl, ap, ◌∙◌}
use mathlib.Core.Bool.{Bool, ◌&&◌, cond}
use mathlib.Core.List.{List, [], ◌∷◌, ◌++◌}
use mathlib.Core.Logic.{⊎_elim, ◌≢◌}
use Prim.Native.Nat.{ℕ, zero, suc, ◌+◌, ◌*◌, ◌/◌, ◌≤◌, ◌<◌}
use native.Mathlib.Omega.{arith}
use borrow.Author.Tests.{eq-eqb, ne_eqb, le-ltb}
use lib.Dec.{eqb, ltb}
use lib.ListN.{length, length-append}
use Rattle.paper.specs.Count.{all, sum, among}
use Rattle.paper.proofs.Count.{sum_same, all_same}
use Rattle.paper.proofs.Logic.{by-test, lt-or-ge, zero_of}
use Rattle.slotset.specs.Slots.{Bits, slot, size, has, has_no_member, put_slot, same_slots}
use Rattle.slotset.specs.Runs.{ends_of_runs}
use Rattle.slotset.specs.Answers.{same_sets}
use Rattle.slotset.proofs.Puts.{slot-put}
use Rattle.slotset.proofs.Runs.{runs_same}

-- the size is the number of members
pub size-members : (f : ℕ → ℕ) (len : ℕ) → Bits f → size f len ≡ length (among (λ k. eqb (f k) 1) len)
unfolding size sum among
size-members f zero bits = refl
size-members f (suc n) bits =
    by-test (eqb (f n) 1) _
    (λ t. omega (
      arith,
      size-members f n bits,
      borrow.Author.Tests.eqb-true (f n) 1 t,
      length-append (among (λ k. eqb (f k) 1) n) (n ∷ []),
      ap (λ (b : Bool). length (among (λ k. eqb (f k) 1) n ++ cond b (n ∷ []) [])) t,
    ))
    (λ u. omega (
      arith,
      size-members f n bits,
      zero_of (f n) (bits n) (borrow.Author.Tests.eqb-false (f n) 1 u),
      length-append (among (λ k. eqb (f k) 1) n) [],
      ap (λ (b : Bool). length (among (λ k. eqb (f k) 1) n ++ cond b (n ∷ []) [])) u,
    ))

-- after slot i was put at v: that slot is v, and every other is as it was
module _ (b i v : ℕ) (ws : List ℕ) (small : v < 2) (room : b + i / 64 < length ws) where
  pub put-here : slot (put_slot b i v ws) b i ≡ v
  put-here = slot-put b i v ws b i small room ∙ ap (λ (t : Bool). cond t v (slot ws b i)) (eq-eqb (b * 64 + i) (b * 64 + i) refl)

  pub put-elsewhere : (k : ℕ) → k ≢ i → slot (put_slot b i v ws) b k ≡ slot ws b k
  put-elsewhere k n =
      slot-put b i v ws b k small room
      ∙ ap (λ (t : Bool). cond t v (slot ws b k)) (ne_eqb (b * 64 + k) (b * 64 + i) (λ q. n (omega arith)))

-- sets that agree below the length have the same members, size and runs, whatever their other bits
module _ (f g : ℕ → ℕ) (len : ℕ) (same : (k : ℕ) → k < len → f k ≡ g k) where
  pub size_same : size f len ≡ size g len
  unfolding size
  size_same = sum_same len f g same

  pub none-same : has_no_member f len ≡ has_no_member g len
  unfolding has_no_member
  none-same = all_same len (λ k. eqb (f k) 0) (λ k. eqb (g k) 0) (λ k h. ap (λ (x : ℕ). eqb x 0) (same k h))

  pub has_same : (i : ℕ) → has f len i ≡ has g len i
  unfolding has
  has_same i =
      ⊎_elim
      (λ (h : i < len). ap (λ (x : ℕ). ltb i len && eqb x 1) (same i h))
      (λ (h : len ≤ i). simp (le-ltb i len h))
      (lt-or-ge i len)

  pub all-runs-same : ends_of_runs f len ≡ ends_of_runs g len
  all-runs-same = runs_same f g len same len 0

-- everybody's sets compared with some whose slots are known
pub same-sets-by : (ws vs : List ℕ) (people len : ℕ) (g : ℕ → ℕ → ℕ) → ((p k : ℕ) → p < people → k < len → slot vs (16 * p) k ≡ g p k)
    → same_sets ws vs people len ≡ all people (λ p. all len (λ k. eqb (slot ws (16 * p) k) (g p k)))
unfolding same_sets same_slots
same-sets-by ws vs people len g is =
    all_same people _ _ (λ p h. all_same len _ _ (λ k l. ap (eqb (slot ws (16 * p) k)) (is p k h l)))
