-- Shifts: which slots open one, and where they end, by the owners of neighbouring slots. Assumes nothing.
use mathlib.Core.Path.{◌≡◌, refl, sym, ap, ap₂, ◌∙◌}
use mathlib.Core.Bool.{Bool, true, false, not, cond, ◌&&◌, ◌||◌}
use mathlib.Core.List.{List}
use mathlib.Core.Logic.{⊎_elim}
use Prim.Native.Nat.{ℕ, ◌+◌, ◌-◌, ◌≤◌, ◌<◌}
use native.Mathlib.Omega.{arith}
use borrow.Author.Tests.{eq-eqb, ne_eqb, eqb-true, eqb-false, lt-ltb, ltb-true}
use lib.Dec.{eqb, ltb, leb}
use lib.ListN.{get_or}
use Rattle.paper.specs.Limits.{nobody}
use Rattle.paper.proofs.Logic.{by-test, lt-or-ge, both, and-true, or_left, or-second, or-either, same_test}
use Rattle.slotset.specs.Runs.{last_around, Around}
use Rattle.slotset.proofs.Runs.{run-around, around-unique}
use Rattle.owners.specs.Derived.{held}
use Rattle.owners.proofs.Sets.{held-lt, held-own, held-not}
use Rattle.usable.specs.Rules.{shift_first, shift_last, opens_at, capped_at}
use Rattle.usable.specs.Inside.{opens_by_owners, goes_on, end_from, capped_by}

-- a test and its opposite
pub not-true : (b : Bool) → not b ≡ true → b ≡ false
not-true true e = absurd (mathlib.Core.Bool.false≢true e)
not-true false e = refl

pub not-false : (b : Bool) → not b ≡ false → b ≡ true
not-false true e = refl
not-false false e = absurd (mathlib.Core.Bool.true≢false e)

-- a slot of a person's set, and its owner
pub held_one : (o : List ℕ) (p k : ℕ) → held o p k ≡ 1 → get_or o k 0 ≡ p
held_one o p k e =
    by-test (eqb (get_or o k 0) p) _ (λ t. eqb-true _ _ t)
    (λ f. let z = held-not o p k (eqb-false _ _ f) in absurd (omega (arith, e, z)))

pub held-zero : (o : List ℕ) (p k : ℕ) → held o p k ≡ 0 → get_or o k 0 ≡ p → ⊥
held-zero o p k e q = let z = held-own o p k q in omega (arith, e, z)

-- the stretch around one slot is that around each slot in it
pub around-each : (v : ℕ) (f : ℕ → ℕ) (len i j a b : ℕ) → Around v f len i a b → a ≤ j → j ≤ b → Around v f len j a b
around-each v f len i j a b A h g =
    record { from = h; to = g; fits = A.fits; all = A.all; left = A.left; right = A.right }

module _ (slots : ℕ) (o : List ℕ) (k : ℕ) (h : k < slots) where
  -- the shift of slot k is the whole run of its owner's slots around it
  pub shift-around : Around 1 (held o (get_or o k 0)) slots k (shift_first slots o k) (shift_last slots o k)
  shift-around = run-around (held o (get_or o k 0)) (held-lt o (get_or o k 0)) slots k (h, held-own o (get_or o k 0) k refl)

  -- the slot before one that is the first of its stretch has another owner
  pub first-other : shift_first slots o k ≡ k → 0 < k → get_or o (k - 1) 0 ≡ get_or o k 0 → ⊥
  first-other e z q =
      let A = shift-around in
      let l : held o (get_or o k 0) (shift_first slots o k - 1) ≡ 0 = A.left (omega (arith, e)) in
      held-zero o (get_or o k 0) (k - 1) (sym (ap (λ (i : ℕ). held o (get_or o k 0) (i - 1)) e) ∙ l) q

  first_by : eqb k 0 || not (eqb (get_or o (k - 1) 0) (get_or o k 0)) ≡ eqb (shift_first slots o k) k
  first_by =
      let A = shift-around in
      same_test (eqb k 0 || not (eqb (get_or o (k - 1) 0) (get_or o k 0))) (eqb (shift_first slots o k) k)
      (λ t.
      eq-eqb (shift_first slots o k) k
      (⊎_elim (λ (z : eqb k 0 ≡ true). let q = eqb-true k 0 z in omega (arith, A.from, q))
      (λ (n : not (eqb (get_or o (k - 1) 0) (get_or o k 0)) ≡ true).
      ⊎_elim
      (λ (l : shift_first slots o k < k).
      absurd (eqb-false _ _ (not-true _ n) (held_one o (get_or o k 0) (k - 1) (A.all (k - 1) (omega arith) (omega (arith, A.to))))))
      (λ (l : k ≤ shift_first slots o k). omega (arith, A.from)) (lt-or-ge (shift_first slots o k) k))
      (or-either (eqb k 0) _ t)))
      (λ t.
      by-test (eqb k 0) _ (λ z. or_left (eqb k 0) _ z)
      (λ f.
      let n : k ≡ 0 → ⊥ = eqb-false k 0 f in
      or-second (eqb k 0) _ (ap not (ne_eqb _ _ (first-other (eqb-true _ _ t) (omega (arith, n)))))))

  -- so a slot opens a shift by what it and the slot before it have
  pub opens_by : opens_by_owners o k ≡ opens_at slots o k
  unfolding opens_by_owners opens_at
  opens_by = ap (λ (b : Bool). not (eqb (get_or o k 0) nobody) && b) first_by

  -- a stretch goes on where the next slot has the same owner ..
  pub last_goes : goes_on slots o k ≡ true → shift_last slots o k ≡ shift_last slots o (k + 1)
  unfolding goes_on
  last_goes t =
      let x = both (ltb (k + 1) slots) _ t in
      let g : k + 1 < slots = ltb-true _ _ x.0 in
      let q : get_or o (k + 1) 0 ≡ get_or o k 0 = eqb-true _ _ x.1 in
      let A = shift-around in
      let l : k + 1 ≤ shift_last slots o k = ⊎_elim
      (λ (l : shift_last slots o k < k + 1).
      let e : shift_last slots o k + 1 ≡ k + 1 = omega (arith, A.to) in
      absurd (held-zero o (get_or o k 0) (shift_last slots o k + 1) (A.right (omega arith)) (ap (λ (i : ℕ). get_or o i 0) e ∙ q)))
      (λ (l : k + 1 ≤ shift_last slots o k). l) (lt-or-ge (shift_last slots o k) (k + 1)) in
      let C = run-around (held o (get_or o k 0)) (held-lt o (get_or o k 0)) slots (k + 1) (g, held-own o (get_or o k 0) (k + 1) q) in
      let D = around-each 1 (held o (get_or o k 0)) slots k (k + 1) _ _ A (omega (arith, A.from)) l in
      (around-unique 1 (held o (get_or o k 0)) slots (k + 1) _ _ _ _ D C).1
      ∙ ap (λ (v : ℕ). last_around 1 (held o v) slots (k + 1)) (sym q)

  -- .. and ends where it hasn't, or is none
  pub last-stops : goes_on slots o k ≡ false → shift_last slots o k ≡ k
  unfolding goes_on
  last-stops f =
      let A = shift-around in
      ⊎_elim
      (λ (l : k < shift_last slots o k).
      let q : get_or o (k + 1) 0 ≡ get_or o k 0 = held_one o (get_or o k 0) (k + 1) (A.all (k + 1) (omega (arith, A.from)) (omega arith)) in
      let t : (ltb (k + 1) slots && eqb (get_or o (k + 1) 0) (get_or o k 0)) ≡ true
      = and-true _ _ (lt-ltb (k + 1) slots (omega (arith, A.fits))) (eq-eqb _ _ q) in
      absurd (mathlib.Core.Bool.true≢false (sym t ∙ f)))
      (λ (l : shift_last slots o k ≤ k). omega (arith, A.to)) (lt-or-ge k (shift_last slots o k))

  goes-below : goes_on slots o k ≡ true → k + 1 < slots
  unfolding goes_on
  goes-below t = ltb-true _ _ (both (ltb (k + 1) slots) _ t).0

  -- where the shift of slot k ends, from where that of the next one does
  pub end-from : (ends : List ℕ) (next : ℕ) → (k + 1 < slots → next ≡ get_or ends (shift_last slots o (k + 1)) 0)
      → end_from slots ends o k next ≡ get_or ends (shift_last slots o k) 0
  unfolding end_from
  end-from ends next e =
      by-test (goes_on slots o k) _
      (λ t.
      ap (λ (b : Bool). cond b next (get_or ends k 0)) t ∙ e (goes-below t) ∙ sym (ap (λ (i : ℕ). get_or ends i 0) (last_goes t)))
      (λ f. ap (λ (b : Bool). cond b next (get_or ends k 0)) f ∙ sym (ap (λ (i : ℕ). get_or ends i 0) (last-stops f)))

  -- rule 4 at slot k, by where its shift ends
  pub capped-by : (cap : ℕ) (starts ends : List ℕ) (end : ℕ) → end ≡ get_or ends (shift_last slots o k) 0
      → capped_by cap starts o k end ≡ capped_at slots cap starts ends o k
  unfolding capped_by capped_at
  capped-by cap starts ends end e =
      ap₂ (λ (b : Bool) (n : ℕ). cond b (leb (n - get_or starts k 0) cap) true) opens_by e
