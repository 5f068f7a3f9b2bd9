-- The steps of the loops: arrays filled from the front, the passes counted down; and a person's step. Assumes nothing.
use Rattle.std.proofs.Common.{◌≡◌, ℕ, zero, suc, ◌+◌, ◌-◌, ◌<◌, ◌≤◌, true, false, List, [], ◌∷◌, ◌++◌, length, get_or, take, drop, set, replicate, sym, refl, ◌∙◌, le_of_lt, add-one, arith, length-append, length-take-le, drop-cons, take-suc}
use lib.Ieee.{Float, lt}
use lib.Seq.{append_snoc, set_at}
use Rattle.targets.specs.declared.Standing.{Standing}
use Rattle.targets.specs.Figures.{zero_f, up_to}
use Rattle.targets.specs.Passes.{settled, rounded, Passed, pass, passes}

-- two constructors are never equal: `cc` turns such an equation into this one
pub differ : {A : Type 0} → ◌≡◌ {A = ℕ} 0 1 → A
differ z = absurd (no z)
  where
    no : ◌≡◌ {A = ℕ} 0 1 → ⊥
    no z = omega arith

-- ---- one person's step, by the tests that lead to it; y is the unrounded target as the code has it

module _ (l : Standing) {x y : Float} (e : y ≡ x) where
  pub at_pin : l.pinned ≡ false → lt y zero_f ≡ true
      → record { person = l.person; raw = l.raw; target = 0; pinned = true } ≡ settled x l
  unfolding settled
  at_pin p z = rw (p, ← e, z)

  pub at-kept : l.pinned ≡ false → lt y zero_f ≡ false → {t : ℕ} → t ≡ rounded y
      → record { person = l.person; raw = l.raw; target = t; pinned = l.pinned } ≡ settled x l
  unfolding settled
  at-kept p z h = rw (p, ← e, z, h)

-- ---- the passes, counted down

module _ (n k d : ℕ) (p : Passed) {z : Passed} where
  pub more : {q : Passed} → passes (n - k) d p ≡ z → q ≡ pass d p → k < n → passes (n - (k + 1)) d q ≡ z
  unfolding passes
  more h e l =
      let s : n - k ≡ suc (n - (k + 1)) = omega arith in
      rw e (rw s at h)

  pub no_more : passes (n - k) d p ≡ z → n ≤ k → p ≡ z
  unfolding passes
  no_more h l =
      let s : n - k ≡ 0 = omega arith in
      rw s at h

-- ---- a loop that fills the front of an array

module _ {A : Type 0} (f : ℕ → A) where
  pub length-up_to : (k : ℕ) → length (up_to f k) ≡ k
  length-up_to zero = refl
  length-up_to (suc k) = length-append (up_to f k) (f k ∷ []) ∙ (rw (length-up_to k) (add-one k))

  pub fill : (n i : ℕ) (p : A) {out : List A} {b : A} → out ≡ up_to f i ++ replicate (n - i) p → b ≡ f i → i < n
      → set out i b ≡ up_to f (i + 1) ++ replicate (n - (i + 1)) p
  fill n i p h e l =
      let s : n - i ≡ suc (n - suc i) = omega arith in
      rw (add-one, h, e, s)
      (set_at (up_to f i) p (replicate (n - suc i) p) (f i) i (length-up_to i)
      ∙ sym (append_snoc (up_to f i) (f i) (replicate (n - suc i) p)))

-- ---- a loop that copies the front of t over the front of o

module _ {A : Type 0} (t o : List A) (i : ℕ) {out : List A} where
  pub put : (d : A) {b : A} → out ≡ take i t ++ drop i o → b ≡ get_or t i d → i < length t → i < length o
      → set out i b ≡ take (i + 1) t ++ drop (i + 1) o
  put d h e l k =
      rw (add-one, h, e, take-suc t i d, drop-cons o i d)
      (set_at (take i t) (get_or o i d) (drop (suc i) o) (get_or t i d) i (length-take-le i t (le_of_lt l))
      ∙ sym (append_snoc (take i t) (get_or t i d) (drop (suc i) o)))
