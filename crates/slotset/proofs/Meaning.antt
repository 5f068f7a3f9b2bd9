-- The answers of the searches are the one answer to the question that each asks. Assumes nothing.
use Rattle.std.specs.Prelude.{Option, Some, None}
use mathlib.Core.Path.{◌≡◌, refl, sym, ap, ◌∙◌}
use mathlib.Core.Bool.{true, false}
use mathlib.Core.Logic.{⊎_elim}
use Prim.Native.Nat.{ℕ, zero, suc, ◌+◌, ◌-◌, ◌≤◌, ◌<◌, min}
use native.Mathlib.Decide.{ℕ_discrete}
use native.Mathlib.Omega.{arith}
use borrow.Author.Tests.{eq-eqb, ne_eqb}
use lib.Dec.{eqb}
use Rattle.paper.proofs.Count.{each_all, all-fails}
use Rattle.paper.proofs.Logic.{lt-or-ge, zero_of}
use Rattle.slotset.specs.Slots.{Bits, has_no_member}
use Rattle.slotset.specs.Search.{up, next_with, down, last_below, First, Last}
use Rattle.slotset.specs.Inside.{Below}
use Rattle.slotset.proofs.Scans.{next-end, next-hit, next-skip, down-hit, down-skip}

module _ (v : ℕ) (f : ℕ → ℕ) (len : ℕ) where
  -- whatever answers the question is what the scan says
  pub next-unique : (from : ℕ) (r : Option ℕ) → First v f len from r → r ≡ next_with v f len from
  next-unique from (Some i) w =
      let e : from + (i - from) ≡ i = omega (arith, w.0) in
      sym (next-skip v f len (i - from) from (λ k a b c. w.3 k a (omega arith))
      ∙ ap (next_with v f len) e ∙ next-hit v f len i w.1 w.2)
  next-unique from None w =
      sym (next-skip v f len len from (λ k a b c. w k a c) ∙ next-end v f len (from + len) (omega arith))

  pub last-unique : (end : ℕ) (r : Option ℕ) → Last v f len end r → r ≡ last_below v f len end
  unfolding last_below down
  last-unique end (Some i) w =
      let e : min end len ≡ suc i + (min end len - suc i) = omega (arith, w.0, w.1) in
      let q : suc i - 1 ≡ i = omega arith in
      sym (ap (down v f) e
      ∙ down-skip v f _ (suc i) (λ k a b. w.3 k (omega arith) (omega (arith, w.0, w.1)) (omega (arith, w.0, w.1)))
      ∙ down-hit v f (suc i) (omega arith) (ap f q ∙ w.2) ∙ ap Some q)
  last-unique end None w =
      let e : min end len ≡ 0 + min end len = omega arith in
      sym (ap (down v f) e ∙ down-skip v f (min end len) 0 (λ k a b. w k (omega arith) (omega arith)))

-- and the scan does answer it
first_step : (v : ℕ) (f : ℕ → ℕ) (len at : ℕ) (r : Option ℕ) → at < len → (f at ≡ v → ⊥) → First v f len (suc at) r → First v f len at r
first_step v f len at (Some i) h n w = (
  omega (arith, w.0),
  w.1,
  w.2,
  λ k a b e. ⊎_elim
      (λ (g : at < k). w.3 k g b e) (λ (g : k ≤ at). let q : k ≡ at = omega arith in n (ap f (sym q) ∙ e)) (lt-or-ge at k),
)
first_step v f len at None h n w = λ k a b e. ⊎_elim
    (λ (g : at < k). w k g b e) (λ (g : k ≤ at). let q : k ≡ at = omega arith in n (ap f (sym q) ∙ e)) (lt-or-ge at k)

up_first : (v : ℕ) (f : ℕ → ℕ) (len n at : ℕ) → n ≡ len - at → First v f len at (up v f n at)
unfolding up
up_first v f len zero at e = λ k a b q. let z : ⊥ = omega arith in z
up_first v f len (suc n) at e = elim (ℕ_discrete (f at) v) [
  | yes q ↦ rw (eq-eqb (f at) v q) (omega arith, omega arith, q, λ k a b g. let z : ⊥ = omega arith in z)
  | no m ↦ rw (ne_eqb (f at) v m) (first_step v f len at (up v f n (suc at)) (omega arith) m (up_first v f len n (suc at) (omega arith)))
]

pub next-is : (v : ℕ) (f : ℕ → ℕ) (len from : ℕ) → First v f len from (next_with v f len from)
unfolding next_with
next-is v f len from = up_first v f len (len - from) from refl

-- the last of the slots below n
abbrev LastOf : ℕ → (ℕ → ℕ) → ℕ → Option ℕ → Type 0
LastOf v f n (Some i) = (i < n) × (f i ≡ v) × ((k : ℕ) → i < k → k < n → f k ≡ v → ⊥)
LastOf v f n None = (k : ℕ) → k < n → f k ≡ v → ⊥

last_step : (v : ℕ) (f : ℕ → ℕ) (n : ℕ) (r : Option ℕ) → (f n ≡ v → ⊥) → LastOf v f n r → LastOf v f (suc n) r
last_step v f n (Some i) m w = (
  omega (arith, w.0),
  w.1,
  λ k a b e. ⊎_elim
      (λ (g : k < n). w.2 k a g e) (λ (g : n ≤ k). let q : k ≡ n = omega arith in m (ap f (sym q) ∙ e)) (lt-or-ge k n),
)
last_step v f n None m w = λ k b e. ⊎_elim
    (λ (g : k < n). w k g e) (λ (g : n ≤ k). let q : k ≡ n = omega arith in m (ap f (sym q) ∙ e)) (lt-or-ge k n)

down-last : (v : ℕ) (f : ℕ → ℕ) (n : ℕ) → LastOf v f n (down v f n)
unfolding down
down-last v f zero = λ k a q. let z : ⊥ = omega arith in z
down-last v f (suc n) = elim (ℕ_discrete (f n) v) [
  | yes q ↦ rw (eq-eqb (f n) v q) (omega arith, q, λ k a b g. let z : ⊥ = omega arith in z)
  | no m ↦ rw (ne_eqb (f n) v m) (last_step v f n (down v f n) m (down-last v f n))
]

within-last : (v : ℕ) (f : ℕ → ℕ) (len end : ℕ) (r : Option ℕ) → LastOf v f (min end len) r → Last v f len end r
within-last v f len end (Some i) w = (omega (arith, w.0), omega (arith, w.0), w.1, λ k a b c. w.2 k a (omega arith))
within-last v f len end None w = λ k a b. w k (omega arith)

pub last-is : (v : ℕ) (f : ℕ → ℕ) (len end : ℕ) → Last v f len end (last_below v f len end)
unfolding last_below
last-is v f len end = within-last v f len end (down v f (min end len)) (down-last v f (min end len))

-- an end past the length asks what the length asks
pub last-lowered : (v : ℕ) (f : ℕ → ℕ) (len end : ℕ) → len ≤ end → last_below v f len len ≡ last_below v f len end
unfolding last_below
last-lowered v f len end h = let e : min len len ≡ min end len = omega arith in ap (down v f) e

-- what is found is below the length
pub first_below : (v : ℕ) (f : ℕ → ℕ) (len from : ℕ) (r : Option ℕ) → First v f len from r → Below len r
first_below v f len from (Some i) w = w.1
first_below v f len from None w = tt

pub below_more : (n m : ℕ) (r : Option ℕ) → n ≤ m → Below n r → Below m r
below_more n m (Some i) h b = omega arith
below_more n m None h b = tt

-- sets that agree below the length are searched alike
pub next-same : (v : ℕ) (f g : ℕ → ℕ) (len from : ℕ) → ((k : ℕ) → k < len → f k ≡ g k) → next_with v f len from ≡ next_with v g len from
next-same v f g len from same = next-unique v g len from (next_with v f len from) (carry (next_with v f len from) (next-is v f len from))
  where
    carry : (r : Option ℕ) → First v f len from r → First v g len from r
    carry (Some i) w = (w.0, w.1, sym (same i w.1) ∙ w.2, λ k a b e. w.3 k a b (same k (omega (arith, w.1)) ∙ e))
    carry None w = λ k a b e. w k a b (same k b ∙ e)

pub last-same : (v : ℕ) (f g : ℕ → ℕ) (len end : ℕ) → ((k : ℕ) → k < len → f k ≡ g k) → last_below v f len end ≡ last_below v g len end
last-same v f g len end same = last-unique v g len end (last_below v f len end) (carry (last_below v f len end) (last-is v f len end))
  where
    carry : (r : Option ℕ) → Last v f len end r → Last v g len end r
    carry (Some i) w = (w.0, w.1, sym (same i w.1) ∙ w.2, λ k a b c e. w.3 k a b c (same k c ∙ e))
    carry None w = λ k a b e. w k a b (same k b ∙ e)

-- ---- no member

pub none_found : (f : ℕ → ℕ) (len : ℕ) → Bits f → First 1 f len 0 None → true ≡ has_no_member f len
unfolding has_no_member
none_found f len bits w =
    sym (each_all len (λ k. eqb (f k) 0) (λ k h. eq-eqb (f k) 0 (zero_of (f k) (bits k) (w k (omega arith) h))))

pub one_found : (f : ℕ → ℕ) (len i : ℕ) → First 1 f len 0 (Some i) → false ≡ has_no_member f len
unfolding has_no_member
one_found f len i w =
    sym (all-fails len i (λ k. eqb (f k) 0) w.1 (ne_eqb (f i) 0 (λ e. let z : ◌≡◌ {A = ℕ} 0 1 = sym e ∙ w.2 in omega arith)))
