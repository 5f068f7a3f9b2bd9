-- Runs and holes: what `run_at` and the reader give, said of every slot, and the list of all runs. Assumes nothing.
use Rattle.std.specs.Prelude.{Option, Some, None}
use mathlib.Core.Path.{◌≡◌, refl, sym, ap, ap₂, ◌∙◌, subst}
use mathlib.Core.Bool.{Bool, true, false, ◌&&◌, not, cond}
use mathlib.Core.List.{List, [], ◌∷◌}
use mathlib.Core.Logic.{inl, inr, ⊎_elim}
use Prim.Native.Nat.{ℕ, zero, suc, ◌+◌, ◌-◌, ◌≤◌, ◌<◌}
use native.Mathlib.Decide.{ℕ_discrete}
use native.Mathlib.Numerals.{add-one}
use native.Mathlib.Omega.{arith}
use borrow.Author.Tests.{lt-ltb, le-ltb, eq-eqb, ne_eqb, ltb-true, eqb-true}
use lib.Dec.{ltb, eqb}
use Rattle.paper.proofs.Logic.{lt-or-ge, both, zero_of}
use Rattle.slotset.specs.declared.Run.{Run}
use Rattle.slotset.specs.declared.Run.TheVariants as run
use Rattle.slotset.specs.Slots.{Bits, Member, value_of, has}
use Rattle.slotset.specs.Search.{First, Last, next_set, next_with, last_below}
use Rattle.slotset.specs.Inside.{Above}
use Rattle.slotset.specs.Runs.{start_of, end_of, first_around, last_around, Around, Ends, when_found, runs, AreRuns, InRuns, Among}
use Rattle.slotset.specs.Answers.{stretch_as, run_at, Holds}
use Rattle.slotset.proofs.Meaning.{next-is, last-is, next-same, last-same}

-- membership, as a fact and as a test
pub has-member : (f : ℕ → ℕ) (len i : ℕ) → has f len i ≡ true → Member f len i
unfolding has
has-member f len i e = let x = both (ltb i len) (eqb (f i) 1) e in (ltb-true _ _ x.0, eqb-true _ _ x.1)

pub member-has : (f : ℕ → ℕ) (len i : ℕ) → Member f len i → has f len i ≡ true
unfolding has
member-has f len i m = simp (lt-ltb i len m.0, eq-eqb (f i) 1 m.1)

-- ---- what the code asks of what was found

pub start-le : (v : ℕ) (f : ℕ → ℕ) (len end : ℕ) (r : Option ℕ) → Last v f len end r → start_of r ≤ len
start-le v f len end (Some i) w = omega (arith, w.1)
start-le v f len end None w = omega arith

pub first_above : (v : ℕ) (f : ℕ → ℕ) (len from : ℕ) (r : Option ℕ) → First v f len from r → 0 < from → Above 0 r
first_above v f len from (Some i) w h = omega (arith, w.0)
first_above v f len from None w h = tt

pub end_lt : (v : ℕ) (f : ℕ → ℕ) (len from : ℕ) (r : Option ℕ) → First v f len from r → 0 < len → end_of len r < len
end_lt v f len from (Some i) w h = omega (arith, w.1)
end_lt v f len from None w h = omega arith

pub next-after : (v : ℕ) (f : ℕ → ℕ) (len i : ℕ) → next_with v f len (i + 1) ≡ next_with v f len (suc i)
next-after v f len i = ap (next_with v f len) (add-one i)

-- membership of a slot below the length, as a bit, is the slot
pub has_value : (f : ℕ → ℕ) → Bits f → (len i : ℕ) → i < len → value_of (has f len i) ≡ f i
unfolding has
has_value f bits len i h = elim (ℕ_discrete (f i) 1) [
  | yes e ↦ ap₂ (λ (a b : Bool). value_of (a && b)) (lt-ltb i len h) (eq-eqb (f i) 1 e) ∙ sym e
  | no n ↦ ap₂ (λ (a b : Bool). value_of (a && b)) (lt-ltb i len h) (ne_eqb (f i) 1 n) ∙ sym (zero_of (f i) (bits i) n)
]

-- the bit that is not wanted is the other one
other-value : (b : Bool) → value_of (not b) ≡ 1 - value_of b
other-value true = refl
other-value false = refl

-- what the searches for it on both sides of a slot come to
pub ends-around : (b : Bool) (f : ℕ → ℕ) (len i first last : ℕ) → first ≡ start_of (last_below (value_of (not b)) f len i)
    → last ≡ end_of len (next_with (value_of (not b)) f len (i + 1))
    → (first ≡ first_around (value_of b) f len i) × (last ≡ last_around (value_of b) f len i)
ends-around b f len i first last p q = (
  p ∙ ap (λ (v : ℕ). start_of (last_below v f len i)) (other-value b),
  q ∙ ap₂ (λ (v k : ℕ). end_of len (next_with v f len k)) (other-value b) (add-one i),
)

-- ---- the stretch around a slot

-- a bit that is not the other one
is-bit : (v x : ℕ) → v < 2 → x < 2 → (x ≡ 1 - v → ⊥) → x ≡ v
is-bit v x small bit other = omega (arith, other)

module _ (v : ℕ) (small : v < 2) (f : ℕ → ℕ) (bits : Bits f) (len i : ℕ) (m : (i < len) × (f i ≡ v)) where
  left-side : (p : Option ℕ) → Last (1 - v) f len i p
      → (start_of p ≤ i) × ((k : ℕ) → start_of p ≤ k → k ≤ i → f k ≡ v) × (0 < start_of p → f (start_of p - 1) ≡ 1 - v)
  left-side (Some p) l =
      let q : p + 1 - 1 ≡ p = omega arith in (
        omega (arith, l.0),
        λ k a b. ⊎_elim
            (λ (x : k < i). is-bit v (f k) small (bits k) (l.3 k (omega arith) x (omega (arith, m.0))))
            (λ (x : i ≤ k). let e : k ≡ i = omega arith in ap f e ∙ m.1) (lt-or-ge k i),
        λ h. ap f q ∙ l.2,
      )
  left-side None l = (
    omega arith,
    λ k a b. ⊎_elim
        (λ (x : k < i). is-bit v (f k) small (bits k) (l k x (omega (arith, m.0))))
        (λ (x : i ≤ k). let e : k ≡ i = omega arith in ap f e ∙ m.1) (lt-or-ge k i),
    λ h. let z : ⊥ = omega arith in absurd z,
  )

  right_side : (n : Option ℕ) → First (1 - v) f len (suc i) n
      → (i ≤ end_of len n) × (end_of len n < len) × ((k : ℕ) → i ≤ k → k ≤ end_of len n → f k ≡ v)
      × (end_of len n + 1 < len → f (end_of len n + 1) ≡ 1 - v)
  right_side (Some n) w =
      let q : n - 1 + 1 ≡ n = omega (arith, w.0) in (
        omega (arith, w.0),
        omega (arith, w.1),
        λ k a b. ⊎_elim
            (λ (x : i < k). is-bit v (f k) small (bits k) (w.3 k x (omega (arith, w.0))))
            (λ (x : k ≤ i). let e : k ≡ i = omega arith in ap f e ∙ m.1) (lt-or-ge i k),
        λ h. ap f q ∙ w.2,
      )
  right_side None w = (
    omega (arith, m.0),
    omega (arith, m.0),
    λ k a b. ⊎_elim
        (λ (x : i < k). is-bit v (f k) small (bits k) (w k x (omega (arith, m.0))))
        (λ (x : k ≤ i). let e : k ≡ i = omega arith in ap f e ∙ m.1) (lt-or-ge i k),
    λ h. let z : ⊥ = omega (arith, m.0) in absurd z,
  )

  -- what lies between the nearest slots of the other value is a maximal stretch
  pub stretch-around : Around v f len i (first_around v f len i) (last_around v f len i)
  stretch-around =
      let l = left-side (last_below (1 - v) f len i) (last-is (1 - v) f len i) in
      let r = right_side (next_with (1 - v) f len (suc i)) (next-is (1 - v) f len (suc i)) in
      record {
        from = l.0;
        to = r.0;
        fits = r.1;
        all = λ k a b. ⊎_elim (λ (h : i < k). r.2 k (omega arith) b) (λ (h : k ≤ i). l.1 k a h) (lt-or-ge i k);
        left = l.2;
        right = r.3;
      }

-- the run of a member
pub run-around : (f : ℕ → ℕ) → Bits f → (len i : ℕ) → Member f len i → Around 1 f len i (first_around 1 f len i) (last_around 1 f len i)
run-around f bits len i m = stretch-around 1 (omega arith) f bits len i m

-- only one stretch is the whole one around i
module _ (v : ℕ) (f : ℕ → ℕ) (len i a b c d : ℕ) (x : Around v f len i a b) (y : Around v f len i c d) where
  same_first : a ≡ c
  same_first =
      ⊎_elim
      (λ (h : a < c).
      let z : 1 - v ≡ v = sym (y.left (omega arith)) ∙ x.all (c - 1) (omega arith) (omega (arith, x.to, y.from)) in
      omega arith)
      (λ (h : c ≤ a). ⊎_elim
      (λ (g : c < a).
      let z : 1 - v ≡ v = sym (x.left (omega arith)) ∙ y.all (a - 1) (omega arith) (omega (arith, y.to, x.from)) in
      omega arith)
      (λ (g : a ≤ c). omega arith) (lt-or-ge c a))
      (lt-or-ge a c)

  same-last : b ≡ d
  same-last =
      ⊎_elim
      (λ (h : b < d). let z : 1 - v ≡ v = sym (x.right (omega (arith, y.fits))) ∙ y.all (b + 1) (omega (arith, y.from, x.to))
      (omega arith) in omega arith)
      (λ (h : d ≤ b). ⊎_elim
      (λ (g : d < b). let z : 1 - v ≡ v = sym (y.right (omega (arith, x.fits))) ∙ x.all (d + 1) (omega (arith, x.from, y.to))
      (omega arith) in omega arith)
      (λ (g : b ≤ d). omega arith) (lt-or-ge d b))
      (lt-or-ge b d)

  pub around-unique : (a ≡ c) × (b ≡ d)
  around-unique = (same_first, same-last)

-- ---- the answer of the lookup

module _ (v : ℕ) (f : ℕ → ℕ) (len i : ℕ) where
  abbrev stretch_if : Bool → Run
  stretch_if b = cond b (run.Span (first_around v f len i) (last_around v f len i)) (run.Hole (first_around v f len i) (last_around v f len i))

  pub stretch-run : v ≡ 1 → run.Span (first_around v f len i) (last_around v f len i) ≡ stretch_as v f len i
  unfolding stretch_as
  stretch-run e = ap stretch_if (sym (eq-eqb v 1 e))

  pub stretch-hole : v ≡ 0 → run.Hole (first_around v f len i) (last_around v f len i) ≡ stretch_as v f len i
  unfolding stretch_as
  stretch-hole e = ap stretch_if (sym (ne_eqb v 1 (λ q. omega arith)))

module _ (f : ℕ → ℕ) (len i : ℕ) where
  pub answers-below : i < len → run_at f len i ≡ stretch_as (f i) f len i
  unfolding run_at
  answers-below h = ap (λ (b : Bool). cond b (stretch_as (f i) f len i) run.Outside) (lt-ltb i len h)

  pub answers-outside : len ≤ i → run_at f len i ≡ run.Outside
  unfolding run_at
  answers-outside h = ap (λ (b : Bool). cond b (stretch_as (f i) f len i) run.Outside) (le-ltb i len h)

  pub answers-run : Member f len i → run_at f len i ≡ run.Span (first_around 1 f len i) (last_around 1 f len i)
  unfolding stretch_as
  answers-run m = answers-below m.0 ∙ ap (λ (v : ℕ). stretch_as v f len i) m.1

  pub answers-hole : (i < len) × (f i ≡ 0) → run_at f len i ≡ run.Hole (first_around 0 f len i) (last_around 0 f len i)
  unfolding stretch_as
  answers-hole m = answers-below m.0 ∙ ap (λ (v : ℕ). stretch_as v f len i) m.1

  -- it is the stretch that holds the slot
  pub lookup-is : Bits f → Holds f len i (run_at f len i)
  lookup-is bits =
      ⊎_elim
      (λ (h : i < len). elim (ℕ_discrete (f i) 1) [
        | yes e ↦ subst (Holds f len i) (sym (answers-run (h, e))) (run-around f bits len i (h, e))
        | no n ↦
            let z = zero_of (f i) (bits i) n in
            subst (Holds f len i) (sym (answers-hole (h, z))) (stretch-around 0 (omega arith) f bits len i (h, z))
      ])
      (λ (h : len ≤ i). subst (Holds f len i) (sym (answers-outside h)) h)
      (lt-or-ge i len)

  -- a slot that has a stretch of v around it is below the length, and v
  pub around-slot : (v a b : ℕ) → Around v f len i a b → (i < len) × (f i ≡ v)
  around-slot v a b x = (omega (arith, x.to, x.fits), x.all i x.from x.to)

  -- and no other answer is
  pub lookup-unique : Bits f → (r : Run) → Holds f len i r → r ≡ run_at f len i
  lookup-unique bits (run.Span a b) x =
      let m = around-slot 1 a b x in
      let u = around-unique 1 f len i a b _ _ x (run-around f bits len i m) in
      ap₂ run.Span u.0 u.1 ∙ sym (answers-run m)
  lookup-unique bits (run.Hole a b) x =
      let m = around-slot 0 a b x in
      let u = around-unique 0 f len i a b _ _ x (stretch-around 0 (omega arith) f bits len i m) in
      ap₂ run.Hole u.0 u.1 ∙ sym (answers-hole m)
  lookup-unique bits run.Outside x = sym (answers-outside x)

-- ---- the list of all runs

module _ (f : ℕ → ℕ) (bits : Bits f) (len : ℕ) where
  are-step : (n at : ℕ) (r : Option ℕ) → ((at' : ℕ) → len < n + at' + 1 → AreRuns f len at' (runs n f len at')) → len < suc n + at + 1
      → First 1 f len at r → AreRuns f len at
      (when_found r (λ lo. record { first = lo; last = last_around 1 f len lo } ∷ runs n f len (last_around 1 f len lo + 1)))
  are-step n at (Some lo) ih h w =
      let r = run-around f bits len lo (w.1, w.2) in (
        w.0,
        r.to,
        r.fits,
        w.3,
        λ k a b. r.all k (omega (arith, r.from)) b,
        λ g e. let z : ◌≡◌ {A = ℕ} 0 1 = sym (r.right g) ∙ e in omega arith,
        ih (last_around 1 f len lo + 1) (omega (arith, r.to, w.0)),
      )
  are-step n at None ih h w = w

  -- what the reader gives, as a whole list, is the list of the runs
  pub runs-are : (n at : ℕ) → len < n + at + 1 → AreRuns f len at (runs n f len at)
  unfolding runs
  runs-are zero at h = λ k a b e. let z : ⊥ = omega arith in z
  runs-are (suc n) at h = are-step n at (next_set f len at) (runs-are n) h (next-is 1 f len at)

  -- and no other list is
  pub runs-unique : (at : ℕ) (l m : List Ends) → AreRuns f len at l → AreRuns f len at m → l ≡ m
  runs-unique at [] [] x y = refl
  runs-unique at [] (r ∷ m) x y = absurd (x r.first y.0 (omega (arith, y.1, y.2)) (y.4 r.first (omega arith) y.1))
  runs-unique at (r ∷ l) [] x y = absurd (y r.first x.0 (omega (arith, x.1, x.2)) (x.4 r.first (omega arith) x.1))
  runs-unique at (r ∷ l) (s ∷ m) x y =
      let e : r.first ≡ s.first = ⊎_elim
      (λ (h : r.first < s.first). absurd (y.3 r.first x.0 h (x.4 r.first (omega arith) x.1)))
      (λ (h : s.first ≤ r.first). ⊎_elim
      (λ (g : s.first < r.first). absurd (x.3 s.first y.0 g (y.4 s.first (omega arith) y.1)))
      (λ (g : r.first ≤ s.first). omega arith) (lt-or-ge s.first r.first))
      (lt-or-ge r.first s.first) in
      let d : r.last ≡ s.last = ⊎_elim
      (λ (h : r.last < s.last). absurd (x.5 (omega (arith, y.2)) (y.4 (r.last + 1) (omega (arith, x.1)) (omega arith))))
      (λ (h : s.last ≤ r.last). ⊎_elim
      (λ (g : s.last < r.last). absurd (y.5 (omega (arith, x.2)) (x.4 (s.last + 1) (omega (arith, y.1)) (omega arith))))
      (λ (g : r.last ≤ s.last). omega arith) (lt-or-ge s.last r.last))
      (lt-or-ge r.last s.last) in
      let same : r ≡ s = ap₂ {C = Ends} (λ (a b : ℕ). record { first = a; last = b }) e d in
      ap₂ (λ (z : Ends) (t : List Ends). z ∷ t) same (runs-unique (r.last + 1) l m x.6 (rw d y.6))

  -- the runs hold every member from the cursor on, and nothing else
  pub runs-hold : (at : ℕ) (l : List Ends) → AreRuns f len at l → (k : ℕ) → at ≤ k → Member f len k → InRuns k l
  runs-hold at [] x k h m = x k h m.0 m.1
  runs-hold at (r ∷ l) x k h m =
      ⊎_elim
      (λ (a : k < r.first). absurd (x.3 k h a m.1))
      (λ (a : r.first ≤ k). ⊎_elim
      (λ (b : r.last < k). inr (runs-hold (r.last + 1) l x.6 k (omega arith) m))
      (λ (b : k ≤ r.last). inl (a, b)) (lt-or-ge r.last k))
      (lt-or-ge k r.first)

  pub runs-only : (at : ℕ) (l : List Ends) → AreRuns f len at l → (k : ℕ) → InRuns k l → Member f len k
  runs-only at [] x k h = absurd h
  runs-only at (r ∷ l) x k h =
      ⊎_elim (λ i. (omega (arith, x.2, i.1), x.4 k i.0 i.1)) (λ i. runs-only (r.last + 1) l x.6 k i) h

module _ (f : ℕ → ℕ) (bits : Bits f) (len i : ℕ) where
  -- no run goes on over the cursor
  abbrev Apart : ℕ → Type 0
  Apart at = 0 < at → at < len → f (at - 1) ≡ 1 → f at ≡ 1 → ⊥

  -- the first run of the list is the whole stretch around each of its slots
  first-whole : (at : ℕ) (r : Ends) (l : List Ends) → AreRuns f len at (r ∷ l) → Apart at → r.first ≤ i → i ≤ r.last
      → Around 1 f len i r.first r.last
  first-whole at r l x apart a b = record {
    from = a;
    to = b;
    fits = x.2;
    all = x.4;
    left = λ p. zero_of (f (r.first - 1)) (bits _) (λ e. ⊎_elim
        (λ (g : r.first - 1 < at).
        let q : r.first ≡ at = omega (arith, x.0) in
        apart (omega arith) (omega (arith, x.1, x.2)) (ap (λ (z : ℕ). f (z - 1)) (sym q) ∙ e)
        (ap f (sym q) ∙ x.4 r.first (omega arith) x.1))
        (λ (g : at ≤ r.first - 1). x.3 (r.first - 1) g (omega arith) e)
        (lt-or-ge (r.first - 1) at));
    right = λ p. zero_of (f (r.last + 1)) (bits _) (x.5 p);
  }

  -- the run of a member is the one of the list that holds it
  pub run-among : Member f len i → (at : ℕ) (l : List Ends) → AreRuns f len at l → at ≤ i → Apart at
      → Among (first_around 1 f len i) (last_around 1 f len i) l
  run-among m at [] x h apart = x i h m.0 m.1
  run-among m at (r ∷ l) x h apart =
      ⊎_elim
      (λ (a : i < r.first). absurd (x.3 i h a m.1))
      (λ (a : r.first ≤ i). ⊎_elim
      (λ (b : r.last < i). inr (run-among m (r.last + 1) l x.6 (omega arith) (λ p q u v. x.5 q v)))
      (λ (b : i ≤ r.last).
      let whole = first-whole at r l x apart a b in
      let u = around-unique 1 f len i r.first r.last _ _ whole (run-around f bits len i m) in
      inl (u.0, u.1)) (lt-or-ge r.last i))
      (lt-or-ge i r.first)

  -- and each run of the list is the whole stretch around its slots
  pub among-around : (a b at : ℕ) (l : List Ends) → AreRuns f len at l → Apart at → Among a b l → a ≤ i → i ≤ b → Around 1 f len i a b
  among-around a b at [] x apart h p q = absurd h
  among-around a b at (r ∷ l) x apart h p q =
      ⊎_elim
      (λ (e : (r.first ≡ a) × (r.last ≡ b)).
      let whole = first-whole at r l x apart (omega (arith, e.0)) (omega (arith, e.1)) in
      subst (λ (z : ℕ). Around 1 f len i z b) e.0 (subst (λ (z : ℕ). Around 1 f len i r.first z) e.1 whole))
      (λ (g : Among a b l). among-around a b (r.last + 1) l x.6 (λ p q u v. x.5 q v) g p q)
      h

-- ---- sets that agree below the length have the same stretches

module _ (f g : ℕ → ℕ) (len : ℕ) (same : (k : ℕ) → k < len → f k ≡ g k) where
  pub around-same : (v i : ℕ) → (first_around v f len i ≡ first_around v g len i) × (last_around v f len i ≡ last_around v g len i)
  around-same v i = (ap start_of (last-same (1 - v) f g len i same), ap (end_of len) (next-same (1 - v) f g len (suc i) same))

  pub runs_same : (n at : ℕ) → runs n f len at ≡ runs n g len at
  unfolding runs
  runs_same zero at = refl
  runs_same (suc n) at =
      ap (λ (r : Option ℕ). when_found r (λ lo. record { first = lo; last = last_around 1 f len lo } ∷ runs n f len (last_around 1 f len lo + 1)))
      (next-same 1 f g len at same)
      ∙ step (next_set g len at) (runs_same n)
    where
      step : (r : Option ℕ) → ((at' : ℕ) → runs n f len at' ≡ runs n g len at')
          → when_found r (λ lo. record { first = lo; last = last_around 1 f len lo } ∷ runs n f len (last_around 1 f len lo + 1))
          ≡ when_found r (λ lo. record { first = lo; last = last_around 1 g len lo } ∷ runs n g len (last_around 1 g len lo + 1))
      step (Some lo) ih =
          ap (λ (z : ℕ). record { first = lo; last = z } ∷ runs n f len (z + 1)) (around-same 1 lo).1
          ∙ ap (λ (t : List Ends). record { first = lo; last = last_around 1 g len lo } ∷ t) (ih (last_around 1 g len lo + 1))
      step None ih = refl
