-- Rest: that a person's last slot before a shift suffices is a theorem; the rule is over all their earlier shifts. Assumes nothing.
use mathlib.Core.Path.{◌≡◌, refl, sym, ap, ◌∙◌}
use mathlib.Core.Bool.{Bool, true, false, not, cond, ◌&&◌}
use mathlib.Core.List.{List}
use mathlib.Core.Logic.{◌⊎◌, inl, inr, ⊎_elim}
use Prim.Native.Nat.{ℕ, zero, suc, ◌+◌, ◌-◌, ◌≤◌, ◌<◌}
use native.Mathlib.Omega.{arith}
use borrow.Author.Tests.{eq-eqb, eqb-true, eqb-false, le-leb, leb-true}
use lib.Dec.{eqb, leb, ltb}
use lib.ListN.{get_or}
use Rattle.paper.specs.Limits.{nobody}
use Rattle.paper.specs.Count.{all}
use Rattle.paper.proofs.Logic.{by-test, lt-or-ge, below_suc, both, and-true, same_test}
use Rattle.paper.proofs.Count.{all-each, each_all}
use Rattle.slots.specs.Lent.{SlotsSound}
use Rattle.usable.specs.Rules.{opens_at, closes_at, rested_at}
use Rattle.usable.specs.Inside.{goes_on, free_from, rested_by}
use Rattle.usable.proofs.ShiftLaws.{opens_by, last-stops, first-other}

-- j is the last slot before k that w has
pub record LastOf (o : List ℕ) (k w j : ℕ) : Type 0 where
  pub below : j < k
  pub owner : get_or o j 0 ≡ w
  pub none : (i : ℕ) → j < i → i < k → get_or o i 0 ≡ w → ⊥

-- w has no slot before k, or there is a last one: `free_from` is made of that
abbrev pub Freed : ℕ → List ℕ → List ℕ → ℕ → ℕ → Type 0
Freed rest ends o k w =
    (((j : ℕ) → j < k → get_or o j 0 ≡ w → ⊥) × (free_from rest ends o k w ≡ 0))
    ⊎ ((j : ℕ) × LastOf o k w j × (free_from rest ends o k w ≡ get_or ends j 0 + rest))

pub free-is : (rest : ℕ) (ends o : List ℕ) (k w : ℕ) → Freed rest ends o k w
unfolding free_from
free-is rest ends o zero w = inl (λ j h q. absurd (omega arith), refl)
free-is rest ends o (suc k) w =
    by-test (eqb (get_or o k 0) w) _
    (λ t. inr (k, record { below = omega arith; owner = eqb-true _ _ t; none = λ i a b q. absurd (omega arith) }, more t))
    (λ f.
    ⊎_elim
    (λ (x : ((j : ℕ) → j < k → get_or o j 0 ≡ w → ⊥) × (free_from rest ends o k w ≡ 0)).
    inl (λ j h q. below_suc ⊥ h (λ e. eqb-false _ _ f (sym (ap (λ (i : ℕ). get_or o i 0) e) ∙ q)) (λ l. x.0 j l q), less f ∙ x.1))
    (λ (x : (j : ℕ) × LastOf o k w j × (free_from rest ends o k w ≡ get_or ends j 0 + rest)).
    inr (
      x.0,
      record {
        below = omega (arith, x.1.below);
        owner = x.1.owner;
        none = λ i a b q. below_suc ⊥ b (λ e. eqb-false _ _ f (sym (ap (λ (i : ℕ). get_or o i 0) e) ∙ q)) (λ l. x.1.none i a l q);
      },
      less f ∙ x.2,
    ))
    (free-is rest ends o k w))
  where
    more : eqb (get_or o k 0) w ≡ true → free_from rest ends o (suc k) w ≡ get_or ends k 0 + rest
    more t = ap (λ (b : Bool). cond b (get_or ends k 0 + rest) (free_from rest ends o k w)) t

    less : eqb (get_or o k 0) w ≡ false → free_from rest ends o (suc k) w ≡ free_from rest ends o k w
    less f = ap (λ (b : Bool). cond b (get_or ends k 0 + rest) (free_from rest ends o k w)) f

-- a later slot ends later
pub ends-rise : (slots : ℕ) (starts ends : List ℕ) → SlotsSound slots starts ends → (i j : ℕ) → i ≤ j → j < slots
    → get_or ends i 0 ≤ get_or ends j 0
ends-rise slots starts ends S i j h g =
    ⊎_elim (λ (l : i < j). omega (arith, S.ascending i j l g, S.ordered j g))
    (λ (l : j ≤ i). let e : i ≡ j = omega arith in omega (arith, ap (λ (x : ℕ). get_or ends x 0) e)) (lt-or-ge i j)

module _ (slots rest : ℕ) (starts ends o : List ℕ) (S : SlotsSound slots starts ends) (k : ℕ) (h : k < slots) where
  -- rule 5 of an earlier slot j, which closes a shift of the same owner
  abbrev earlier : ℕ → Bool
  earlier j = eqb (get_or o j 0) (get_or o k 0) && closes_at slots o j

  abbrev gap_ok : ℕ → Bool
  gap_ok j = cond (earlier j) (leb rest (get_or starts k 0 - get_or ends j 0)) true

  -- the last slot of the owner before k, where k opens a shift, closes one
  pub last-closes : opens_at slots o k ≡ true → (j : ℕ) → LastOf o k (get_or o k 0) j → closes_at slots o j ≡ true
  unfolding opens_at closes_at goes_on
  last-closes t j L =
      let x = both (not (eqb (get_or o k 0) nobody)) _ t in
      eq-eqb _ _
      (last-stops slots o j (omega (arith, L.below))
      (by-test (goes_on slots o j) _
      (λ g.
      let y = both (ltb (j + 1) slots) (eqb (get_or o (j + 1) 0) (get_or o j 0)) g in
      let q : get_or o (j + 1) 0 ≡ get_or o k 0 = eqb-true _ _ y.1 ∙ L.owner in
      ⊎_elim (λ (l : j + 1 < k). absurd (L.none (j + 1) (omega arith) l q))
      (λ (l : k ≤ j + 1).
      let e : k - 1 ≡ j = omega (arith, L.below) in
      absurd (first-other slots o k h (eqb-true _ _ x.1) (omega (arith, L.below)) (ap (λ (i : ℕ). get_or o i 0) e ∙ L.owner)))
      (lt-or-ge (j + 1) k))
      (λ f. f)))

  gap-last : opens_at slots o k ≡ true → (j : ℕ) → LastOf o k (get_or o k 0) j → all k gap_ok ≡ true → get_or ends j 0 + rest ≤ get_or starts k 0
  gap-last t j L a =
      let e : earlier j ≡ true = and-true _ _ (eq-eqb _ _ L.owner) (last-closes t j L) in
      let g : leb rest (get_or starts k 0 - get_or ends j 0) ≡ true
      = sym (ap (λ (b : Bool). cond b (leb rest (get_or starts k 0 - get_or ends j 0)) true) e) ∙ all-each k gap_ok a j L.below in
      omega (arith, leb-true rest (get_or starts k 0 - get_or ends j 0) g, S.ascending j k L.below h)

  gap-each : (j : ℕ) → LastOf o k (get_or o k 0) j → get_or ends j 0 + rest ≤ get_or starts k 0 → (i : ℕ) → i < k → gap_ok i ≡ true
  gap-each j L g i l =
      by-test (earlier i) _
      (λ e.
      let q = eqb-true _ _ (both (eqb (get_or o i 0) (get_or o k 0)) _ e).0 in
      let b : i ≤ j = ⊎_elim (λ (x : j < i). absurd (L.none i x l q)) (λ (x : i ≤ j). x) (lt-or-ge j i) in
      let m = ends-rise slots starts ends S i j b (omega (arith, L.below)) in
      ap (λ (b : Bool). cond b (leb rest (get_or starts k 0 - get_or ends i 0)) true) e ∙ le-leb rest (get_or starts k 0 - get_or ends i 0) (omega (arith, g, m)))
      (λ f. ap (λ (b : Bool). cond b (leb rest (get_or starts k 0 - get_or ends i 0)) true) f)

  gap-none : ((j : ℕ) → j < k → get_or o j 0 ≡ get_or o k 0 → ⊥) → (i : ℕ) → i < k → gap_ok i ≡ true
  gap-none n i l =
      by-test (earlier i) _ (λ e. absurd (n i l (eqb-true _ _ (both (eqb (get_or o i 0) (get_or o k 0)) _ e).0)))
      (λ f. ap (λ (b : Bool). cond b (leb rest (get_or starts k 0 - get_or ends i 0)) true) f)

  -- of all earlier shifts of its owner the last alone need be asked
  last-suffices : opens_at slots o k ≡ true → leb (free_from rest ends o k (get_or o k 0)) (get_or starts k 0) ≡ all k gap_ok
  last-suffices t =
      same_test (leb (free_from rest ends o k (get_or o k 0)) (get_or starts k 0)) (all k gap_ok)
      (λ l.
      ⊎_elim
      (λ (x : ((j : ℕ) → j < k → get_or o j 0 ≡ get_or o k 0 → ⊥) × (free_from rest ends o k (get_or o k 0) ≡ 0)). each_all k gap_ok (gap-none x.0))
      (λ (x : (j : ℕ) × LastOf o k (get_or o k 0) j × (free_from rest ends o k (get_or o k 0) ≡ get_or ends j 0 + rest)).
      let g : get_or ends x.0 0 + rest ≤ get_or starts k 0 = omega (arith, leb-true (free_from rest ends o k (get_or o k 0)) (get_or starts k 0) l, x.2) in
      each_all k gap_ok (gap-each x.0 x.1 g))
      (free-is rest ends o k (get_or o k 0)))
      (λ a.
      le-leb (free_from rest ends o k (get_or o k 0)) (get_or starts k 0)
      (⊎_elim
      (λ (x : ((j : ℕ) → j < k → get_or o j 0 ≡ get_or o k 0 → ⊥) × (free_from rest ends o k (get_or o k 0) ≡ 0)). omega (arith, x.1))
      (λ (x : (j : ℕ) × LastOf o k (get_or o k 0) j × (free_from rest ends o k (get_or o k 0) ≡ get_or ends j 0 + rest)).
      omega (arith, x.2, gap-last t x.0 x.1 a))
      (free-is rest ends o k (get_or o k 0))))

  -- rule 5 at slot k, by from when its owner may start again
  pub rested-by : (free : ℕ) → free ≡ free_from rest ends o k (get_or o k 0) → rested_by starts o k free ≡ rested_at slots rest starts ends o k
  unfolding rested_by rested_at
  rested-by free e =
      by-test (opens_at slots o k) _
      (λ t.
      ap (λ (b : Bool). cond b (leb free (get_or starts k 0)) true) (opens_by slots o k h ∙ t)
      ∙ ap (λ (n : ℕ). leb n (get_or starts k 0)) e ∙ last-suffices t
      ∙ sym (ap (λ (b : Bool). cond b (all k gap_ok) true) t))
      (λ f.
      ap (λ (b : Bool). cond b (leb free (get_or starts k 0)) true) (opens_by slots o k h ∙ f)
      ∙ sym (ap (λ (b : Bool). cond b (all k gap_ok) true) f))
