-- What right unit starts give: every unit has a slot, units follow one another, and every slot is in exactly one. Assumes nothing.
use mathlib.Core.Path.{◌≡◌, refl, sym, ap, ◌∙◌}
use mathlib.Core.Logic.{⊎_elim}
use mathlib.Core.Bool.{Bool, true, false, ◌&&◌, and-false}
use mathlib.Core.List.{List}
use Prim.Native.Nat.{ℕ, zero, suc, ◌+◌, ◌-◌, ◌≤◌, ◌<◌}
use native.Mathlib.Nat.{not-suc-le-zero}
use native.Mathlib.Numerals.{add-one}
use native.Mathlib.Omega.{arith}
use borrow.Author.Tests.{ltb-true, leb-true, eqb-true, lt-ltb, le-ltb, le-leb, lt-leb, leb-false}
use lib.Dec.{eqb, ltb, leb}
use lib.ListN.{length}
use Rattle.paper.specs.Count.{all}
use Rattle.paper.proofs.Logic.{by-test, both, three, below_suc, lt-or-ge}
use Rattle.paper.proofs.Count.{all-each}
use Rattle.units.specs.Units.{unit_start, unit_end, start_rises, start_ok, units_ok, InUnit, unit_of}

-- ---- one start

-- a start that is the first, or a later one
pub rises-first : (begins : List ℕ) (u : ℕ) → u ≡ 0 → start_rises begins u ≡ eqb (unit_start begins u) 0
rises-first begins zero e = refl
rises-first begins (suc u) e = absurd (omega arith)

pub rises-later : (begins : List ℕ) (u : ℕ) → (u ≡ 0 → ⊥) → start_rises begins u ≡ ltb (unit_start begins (u - 1)) (unit_start begins u)
rises-later begins zero n = absurd (n refl)
rises-later begins (suc u) n =
    let e : suc u - 1 ≡ u = omega arith in
    ap (λ (v : ℕ). ltb (unit_start begins v) (unit_start begins (suc u))) (sym e)

pub start-past : (slots : ℕ) (begins : List ℕ) (u : ℕ) → slots ≤ unit_start begins u → start_ok slots begins u ≡ false
unfolding start_ok
start-past slots begins u h = ap (λ (b : Bool). start_rises begins u && b) (le-ltb _ _ h) ∙ and-false (start_rises begins u)

pub start-within : (slots : ℕ) (begins : List ℕ) (u : ℕ) (b : Bool)
    → unit_start begins u < slots → start_rises begins u ≡ b → start_ok slots begins u ≡ b
unfolding start_ok
start-within slots begins u true h e = ap (λ (x : Bool). x && ltb (unit_start begins u) slots) e ∙ lt-ltb _ _ h
start-within slots begins u false h e = ap (λ (x : Bool). x && ltb (unit_start begins u) slots) e

-- ---- all of them

module _ (slots units : ℕ) (begins : List ℕ) (ok : units_ok slots units begins ≡ true) where
  -- at least one unit, and room for the starts
  pub units-some : 1 ≤ units
  unfolding units_ok
  units-some = leb-true _ _ (three (leb 1 units) (leb units (length begins)) (all units (start_ok slots begins)) ok).0

  pub units-room : units ≤ length begins
  unfolding units_ok
  units-room = leb-true _ _ (three (leb 1 units) (leb units (length begins)) (all units (start_ok slots begins)) ok).1

  start-each : (u : ℕ) → u < units → start_ok slots begins u ≡ true
  unfolding units_ok
  start-each =
      all-each units (start_ok slots begins)
      (three (leb 1 units) (leb units (length begins)) (all units (start_ok slots begins)) ok).2

  -- starts begin at 0, rise strictly, stay below the slot count
  pub starts-begin : unit_start begins 0 ≡ 0
  unfolding start_ok
  starts-begin = eqb-true _ _ (both (start_rises begins 0) _ (start-each 0 units-some)).0

  pub starts-rise : (u : ℕ) → u + 1 < units → unit_start begins u < unit_start begins (u + 1)
  unfolding start_ok
  starts-rise u h =
      let e : suc u ≡ u + 1 = omega arith in
      let r : unit_start begins u < unit_start begins (suc u)
      = ltb-true _ _ (both (start_rises begins (suc u)) _ (start-each (suc u) (omega arith))).0 in
      omega (arith, r, ap (unit_start begins) e)

  pub starts-below : (u : ℕ) → u < units → unit_start begins u < slots
  unfolding start_ok
  starts-below u h = ltb-true _ _ (both (start_rises begins u) _ (start-each u h)).1

  -- a unit ends where the next starts, and the last with the slots
  pub ends_next : (u : ℕ) → u + 1 < units → unit_end slots units begins u ≡ unit_start begins (u + 1)
  unfolding unit_end
  ends_next u h = simp (lt-ltb _ _ h)

  pub ends_last : (u : ℕ) → units ≤ u + 1 → unit_end slots units begins u ≡ slots
  unfolding unit_end
  ends_last u h = simp (le-ltb _ _ h)

  -- each has a slot, and none past the last one
  pub unit-some : (u : ℕ) → u < units → unit_start begins u < unit_end slots units begins u
  unit-some u h =
      ⊎_elim (λ (g : u + 1 < units). omega (arith, ends_next u g, starts-rise u g))
      (λ (g : units ≤ u + 1). omega (arith, ends_last u g, starts-below u h)) (lt-or-ge (u + 1) units)

  pub unit-within : (u : ℕ) → u < units → unit_end slots units begins u ≤ slots
  unit-within u h =
      ⊎_elim (λ (g : u + 1 < units). omega (arith, ends_next u g, starts-below (u + 1) g))
      (λ (g : units ≤ u + 1). omega (arith, ends_last u g)) (lt-or-ge (u + 1) units)

  -- so no more units than slots
  start-least : (u : ℕ) → u < units → u ≤ unit_start begins u
  start-least zero h = omega arith
  start-least (suc u) h = omega (arith, start-least u (omega arith), starts-rise u (omega arith), ap (unit_start begins) (add-one u))

  pub units-within : units ≤ slots
  units-within =
      let h : units - 1 < units = omega (arith, units-some) in
      omega (arith, start-least (units - 1) h, starts-below (units - 1) h)

  -- a later unit starts at or after the end of an earlier one
  pub units-apart : (u v : ℕ) → u < v → v < units → unit_end slots units begins u ≤ unit_start begins v
  units-apart u zero h g = absurd (not-suc-le-zero h)
  units-apart u (suc v) h g =
      let n : unit_start begins v < unit_start begins (suc v)
      = omega (arith, starts-rise v (omega arith), ap (unit_start begins) (add-one v)) in
      below_suc (unit_end slots units begins u ≤ unit_start begins (suc v)) h
      (λ (q : u ≡ v).
      omega (arith, ends_next u (omega arith), ap (unit_start begins) (add-one u), ap (λ (x : ℕ). unit_start begins (suc x)) q))
      (λ (l : u < v). omega (arith, units-apart u v l (omega arith), n))

  pub starts-far : (u v : ℕ) → u ≤ v → v < units → unit_start begins u ≤ unit_start begins v
  starts-far u v h l =
      ⊎_elim (λ (g : u < v). omega (arith, unit-some u (omega arith), units-apart u v g l))
      (λ (g : v ≤ u). let e : u ≡ v = omega arith in omega (arith, ap (unit_start begins) e)) (lt-or-ge u v)

  -- a slot is in at most one unit
  pub unit-only : (k u v : ℕ) → InUnit slots units begins k u → InUnit slots units begins k v → u ≡ v
  unit-only k u v a b =
      ⊎_elim (λ (h : u < v). absurd (omega (arith, units-apart u v h b.known, a.to, b.from)))
      (λ (h : v ≤ u).
      ⊎_elim (λ (g : v < u). absurd (omega (arith, units-apart v u g a.known, b.to, a.from)))
      (λ (g : u ≤ v). omega arith) (lt-or-ge v u)) (lt-or-ge u v)

  -- of the first n units the last that starts at or before k holds it, if k is below where the n-th ends
  unit-of-below : (n k : ℕ) → suc n ≤ units → k < unit_end slots units begins n → InUnit slots units begins k (unit_of (suc n) begins k)
  unfolding unit_of
  unit-of-below zero k h g =
      let e : leb (unit_start begins 0) k ≡ true = le-leb (unit_start begins 0) k (omega (arith, starts-begin)) in
      let r : InUnit slots units begins k 0 = record { known = h; from = omega (arith, starts-begin); to = g } in
      simp e r
  unit-of-below (suc n) k h g =
      by-test (leb (unit_start begins (suc n)) k) _
      (λ t. let r : InUnit slots units begins k (suc n) = record { known = h; from = leb-true _ _ t; to = g } in simp t r)
      (λ f.
      let b : k < unit_start begins (suc n) = leb-false _ _ f in
      let r : InUnit slots units begins k (unit_of (suc n) begins k)
      = unit-of-below n k (omega arith) (omega (arith, ends_next n (omega arith), ap (unit_start begins) (add-one n))) in
      simp f r)

  -- every slot is in one: that of `unit_of`, and only in that
  pub unit-of-in : (k : ℕ) → k < slots → InUnit slots units begins k (unit_of units begins k)
  unit-of-in k h =
      let e : suc (units - 1) ≡ units = omega (arith, units-some) in
      let g : k < unit_end slots units begins (units - 1) = omega (arith, ends_last (units - 1) (omega arith)) in
      mathlib.Core.Path.subst (λ (n : ℕ). InUnit slots units begins k (unit_of n begins k)) e
      (unit-of-below (units - 1) k (omega arith) g)

  pub unit-of-only : (k u : ℕ) → InUnit slots units begins k u → unit_of units begins k ≡ u
  unit-of-only k u a = unit-only k (unit_of units begins k) u (unit-of-in k (omega (arith, a.to, unit-within u a.known))) a

-- ---- the search for a slot's unit, from the last down

of-pred : (n : ℕ) (begins : List ℕ) (k : ℕ) → 0 < n → unit_of n begins k ≡ unit_of (suc (n - 1)) begins k
of-pred n begins k h = let e : n ≡ suc (n - 1) = omega arith in ap (λ (m : ℕ). unit_of m begins k) e

pub of-here : (n : ℕ) (begins : List ℕ) (k r : ℕ) → 0 < n → r ≡ unit_start begins (n - 1) → r ≤ k → unit_of n begins k ≡ n - 1
unfolding unit_of
of-here n begins k r h e g =
    let t : leb (unit_start begins (n - 1)) k ≡ true = le-leb (unit_start begins (n - 1)) k (omega (arith, e)) in
    of-pred n begins k h ∙ simp t

pub of-before : (n : ℕ) (begins : List ℕ) (k r : ℕ) → 0 < n → r ≡ unit_start begins (n - 1) → k < r
    → unit_of n begins k ≡ unit_of (n - 1) begins k
unfolding unit_of
of-before n begins k r h e g =
    let f : leb (unit_start begins (n - 1)) k ≡ false = lt-leb (unit_start begins (n - 1)) k (omega (arith, e)) in
    of-pred n begins k h ∙ simp f

pub of_none : (n : ℕ) (begins : List ℕ) (k : ℕ) → n ≤ 0 → unit_of n begins k ≡ 0
unfolding unit_of
of_none n begins k h = let e : n ≡ 0 = omega arith in ap (λ (m : ℕ). unit_of m begins k) e
