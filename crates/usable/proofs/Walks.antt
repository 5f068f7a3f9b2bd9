-- What the walks keep: the unit of the slot, the first fault from a slot on, from when on each owner may start again. Assumes nothing.
use mathlib.Core.Path.{◌≡◌, sym, ap, ◌∙◌}
use mathlib.Core.Bool.{Bool, true, false, cond}
use mathlib.Core.List.{List}
use mathlib.Core.Logic.{⊎_elim}
use Prim.Native.Nat.{ℕ, ◌+◌, ◌-◌, ◌≤◌, ◌<◌}
use Rattle.std.proofs.Common.{Option, None, Some, le_antisymm}
use native.Mathlib.Decide.{ℕ_discrete}
use native.Mathlib.Numerals.{add-one}
use native.Mathlib.Omega.{arith}
use borrow.Author.Tests.{eq-eqb, ne_eqb}
use lib.Dec.{eqb}
use lib.ListN.{length, get_or, set, replicate, length-replicate, get_or-replicate, get_or-eq_default}
use lib.Seq.{get_or-set_same, get_or-set_other}
use Rattle.paper.specs.Count.{all, FirstWhere}
use Rattle.paper.proofs.Count.{each_all, all-fails}
use Rattle.paper.proofs.Logic.{lt-or-ge}
use Rattle.units.specs.Units.{unit_start, unit_end, units_ok, unit_of, InUnit}
use Rattle.units.proofs.Units.{starts-begin, ends_next, ends_last, units-some, unit-some, unit-of-only}
use Rattle.owners.proofs.Scans.{scan-fails}
use Rattle.usable.specs.Rules.{uniform_at, shift_last, capped_at}
use Rattle.usable.specs.Inside.{ByUnit, end_from, capped_by, free_from, fault}
use Rattle.usable.proofs.ShiftLaws.{end-from, capped-by}

-- ---- units

-- a slot that is just behind unit u is in the next one
pub unit-behind : (slots units : ℕ) (begins : List ℕ) (u k e : ℕ) → ByUnit slots units begins u k → k < slots
    → e ≡ unit_end slots units begins u → e ≤ k → InUnit slots units begins k (u + 1)
unit-behind slots units begins u k e B h q g =
    ⊎_elim
    (λ (l : u + 1 < units).
    let n = ends_next slots units begins B.right u l in
    record {
      known = l;
      from = omega (arith, n, q);
      to = omega (arith, unit-some slots units begins B.right (u + 1) l, n, B.upto);
    })
    (λ (l : units ≤ u + 1). absurd (omega (arith, ends_last slots units begins B.right u l, q)))
    (lt-or-ge (u + 1) units)

-- the walk starts in the first unit, and a slot in unit u leaves the next one in it or just behind it
pub unit-start : (slots units : ℕ) (begins : List ℕ) → units_ok slots units begins ≡ true → ByUnit slots units begins 0 0
unit-start slots units begins ok =
    record {
      right = ok;
      known = units-some slots units begins ok;
      from = omega (arith, starts-begin slots units begins ok);
      upto = omega arith;
    }

pub unit-more : (slots units : ℕ) (begins : List ℕ) (u k : ℕ) → units_ok slots units begins ≡ true → InUnit slots units begins k u
    → ByUnit slots units begins u (k + 1)
unit-more slots units begins u k ok I =
    record { right = ok; known = I.known; from = omega (arith, I.from); upto = omega (arith, I.to) }

-- rule 3 at slot k, by its unit
module _ (slots units : ℕ) (begins o : List ℕ) (k u w v a : ℕ) (ok : units_ok slots units begins ≡ true)
    (I : InUnit slots units begins k u) (ew : w ≡ get_or o k 0) (ea : a ≡ unit_start begins u) (ev : v ≡ get_or o a 0) where
  first-owner : v ≡ get_or o (unit_start begins (unit_of units begins k)) 0
  first-owner =
      ev ∙ ap (λ (i : ℕ). get_or o i 0) (ea ∙ sym (ap (unit_start begins) (unit-of-only slots units begins ok k u I)))

  pub uniform-yes : w ≡ v → uniform_at units begins o k ≡ true
  unfolding uniform_at
  uniform-yes q = eq-eqb _ _ (sym ew ∙ q ∙ first-owner)

  pub uniform-no : (w ≡ v → ⊥) → uniform_at units begins o k ≡ false
  unfolding uniform_at
  uniform-no n = ne_eqb _ _ (λ q. n (ew ∙ q ∙ sym first-owner))

-- ---- from the last slot down

-- the first fault from slot k on, where that after k is known
pub fault-down : (p : ℕ → Bool) (n k r : ℕ) (b : Bool) → 0 < k → k ≤ n → b ≡ p (k - 1) → FirstWhere false p k n r
    → FirstWhere false p (k - 1) n (cond b r (k - 1))
fault-down p n k r true z h e F =
    record {
      from = omega (arith, F.from);
      within = F.within;
      here = F.here;
      before = λ i a b. ⊎_elim (λ (l : i < k). let q : i ≡ k - 1 = omega arith in ap p q ∙ sym e) (λ (l : k ≤ i). F.before i l b)
          (lt-or-ge i k);
    }
fault-down p n k r false z h e F =
    record {
      from = omega arith;
      within = omega arith;
      here = λ l. sym e;
      before = λ i a b. absurd (omega arith);
    }

pub fault-none : (p : ℕ → Bool) (n : ℕ) → FirstWhere false p n n n
fault-none p n =
    record { from = omega arith; within = omega arith; here = λ l. absurd (omega arith); before = λ i a b. absurd (omega arith) }

-- the same of a fault that may not be there
abbrev pub IsFault : (ℕ → Bool) → ℕ → ℕ → Option ℕ → Type 0
IsFault p k n None = FirstWhere false p k n n
IsFault p k n (Some r) = (r < n) × FirstWhere false p k n r

pub fault-kept : (p : ℕ → Bool) (n k : ℕ) (x : Option ℕ) → 0 < k → k ≤ n → p (k - 1) ≡ true → IsFault p k n x → IsFault p (k - 1) n x
fault-kept p n k None z h e F = fault-down p n k n true z h (sym e) F
fault-kept p n k (Some r) z h e F = (F.0, fault-down p n k r true z h (sym e) F.1)

pub fault-here : (p : ℕ → Bool) (n k : ℕ) → 0 < k → k ≤ n → p (k - 1) ≡ false → IsFault p (k - 1) n (Some (k - 1))
fault-here p n k z h e =
    (omega arith, record { from = omega arith; within = omega arith; here = λ l. e; before = λ i a b. absurd (omega arith) })

-- from slot 0 on, it is the first of all
pub fault-first : (p : ℕ → Bool) (n k : ℕ) (x : Option ℕ) → k ≤ 0 → IsFault p k n x → x ≡ fault n p
unfolding fault
fault-first p n k None z F = simp (each_all n p (λ i l. F.before i (omega arith) l))
fault-first p n k (Some r) z F =
    let a : all r p ≡ true = each_all r p (λ i l. F.1.before i (omega arith) l) in
    let f : p r ≡ false = F.1.here F.0 in
    simp (all-fails n r p F.0 f) (ap Some (scan-fails n r p F.0 a f))

-- from the first slot up: all below i pass, and i does not; or all pass
pub fault-at : (n i : ℕ) (p : ℕ → Bool) → i < n → all i p ≡ true → p i ≡ false → Some i ≡ fault n p
unfolding fault
fault-at n i p h a f = simp (all-fails n i p h f) (ap Some (scan-fails n i p h a f))

pub fault-ends : (n i : ℕ) (p : ℕ → Bool) → i ≤ n → n ≤ i → all i p ≡ true → None ≡ fault n p
unfolding fault
fault-ends n i p h g a = let t : all n p ≡ true = ap (λ (m : ℕ). all m p) (le_antisymm g h) ∙ a in simp t

-- ---- from when on each owner may start again

pub free-none : (rest : ℕ) (ends o : List ℕ) (n w : ℕ) → get_or (replicate n 0) w 0 ≡ free_from rest ends o 0 w
unfolding free_from
free-none rest ends o n w =
    ⊎_elim (λ (h : w < n). get_or-replicate n w 0 0 h)
    (λ (h : n ≤ w). get_or-eq_default {A = ℕ} (replicate n 0) 0 {n = w} (omega (arith, length-replicate {A = ℕ} n 0)))
    (lt-or-ge w n)

pub free_more : (rest : ℕ) (ends o free : List ℕ) (k w n : ℕ) → length free ≡ 256 → w ≡ get_or o k 0 → w < 256
    → n ≡ get_or ends k 0 + rest → ((v : ℕ) → v < 256 → get_or free v 0 ≡ free_from rest ends o k v)
    → (v : ℕ) → v < 256 → get_or (set free w n) v 0 ≡ free_from rest ends o (k + 1) v
unfolding free_from
free_more rest ends o free k w n len ew hw en f v h =
    elim (ℕ_discrete v w) [
      | yes q ↦ ap (λ (i : ℕ). get_or (set free w n) i 0) q ∙ get_or-set_same free w n 0 (omega (arith, len))
          ∙ en ∙ sym (at (eq-eqb (get_or o k 0) v (sym ew ∙ sym q)))
      | no m ↦ get_or-set_other free w v n 0 m ∙ f v h ∙ sym (at (ne_eqb (get_or o k 0) v (λ q. m (sym q ∙ sym ew))))
    ]
  where
    at : {b : Bool} → eqb (get_or o k 0) v ≡ b → free_from rest ends o (k + 1) v ≡ cond b (get_or ends k 0 + rest) (free_from rest ends o k v)
    at {b} e =
        ap (λ (i : ℕ). free_from rest ends o i v) (add-one k)
        ∙ ap (λ (c : Bool). cond c (get_or ends k 0 + rest) (free_from rest ends o k v)) e

-- rule 4, one slot further down: where its shift ends, and the first fault from it on
module _ (slots cap : ℕ) (starts ends o : List ℕ) (end k e : ℕ) (t : Bool) (z : 0 < k) (h : k ≤ slots)
    (q : k < slots → end ≡ get_or ends (shift_last slots o k) 0)
    (ee : e ≡ end_from slots ends o (k - 1) end) (et : t ≡ capped_by cap starts o (k - 1) e) where
  down : k - 1 + 1 ≡ k
  down = omega arith

  pub capped-end : e ≡ get_or ends (shift_last slots o (k - 1)) 0
  capped-end =
      ee
      ∙ end-from slots o (k - 1) (omega arith) ends end
      (λ l. q (omega (arith, down)) ∙ sym (ap (λ (i : ℕ). get_or ends (shift_last slots o i) 0) down))

  pub capped-here : t ≡ capped_at slots cap starts ends o (k - 1)
  capped-here = et ∙ capped-by slots o (k - 1) (omega arith) cap starts ends e capped-end
