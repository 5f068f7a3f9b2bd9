-- What each slot of the mended owners is: it keeps its owner, or is nobody's. Assumes nothing.
use mathlib.Core.Path.{◌≡◌, refl, sym, ap, ap₂, ◌∙◌}
use mathlib.Core.Bool.{Bool, true, false, cond, ◌&&◌}
use mathlib.Core.List.{List}
use Prim.Native.Nat.{ℕ, zero, suc, ◌≤◌, ◌<◌}
use native.Mathlib.Omega.{arith}
use borrow.Author.Tests.{eqb-true, eq-eqb}
use lib.Dec.{eqb}
use lib.ListN.{length, get_or}
use Rattle.paper.specs.Limits.{nobody}
use Rattle.paper.proofs.Logic.{by-test, both, and-true}
use Rattle.paper.proofs.Count.{in-each, each_in, length_over, get_d_over, get_d-over-out, over-right}
use Rattle.units.specs.Units.{unit_start, unit_end, units_ok, InUnit, unit_of}
use Rattle.units.proofs.Units.{unit-some, unit-within, unit-of-in}
use Rattle.owners.specs.Derived.{Plan, known_by}
use Rattle.owners.specs.Recount.{available_for, known_at, available_at, even_at}
use Rattle.owners.proofs.Minutes.{known-nobody}
use Rattle.owners.proofs.Scans.{available-nobody}
use Rattle.mend.specs.Mended.{may_keep, left_to, barred_cleared, uneven_cleared, mended, Keeps}
use Rattle.mend.proofs.Cleared.{even-same, uneven-none, uneven-yes, uneven-length, uneven-out, uneven-in}

-- ---- step 1

module _ (people : ℕ) (avail o : List ℕ) where
  left-kept : (k : ℕ) → may_keep people avail o k ≡ true → left_to people avail o k ≡ get_or o k 0
  unfolding left_to
  left-kept k t = ap (λ (b : Bool). cond b (get_or o k 0) nobody) t

  left-gone : (k : ℕ) → may_keep people avail o k ≡ false → left_to people avail o k ≡ nobody
  unfolding left_to
  left-gone k f = ap (λ (b : Bool). cond b (get_or o k 0) nobody) f

  -- whoever is left is known, and available
  left-known : (k : ℕ) → known_by people (left_to people avail o k) ≡ true
  unfolding may_keep known_at
  left-known k =
      by-test (may_keep people avail o k) _ (λ t. ap (known_by people) (left-kept k t) ∙ (both (known_at people o k) (available_at avail o
      k) t).0)
      (λ f. ap (known_by people) (left-gone k f) ∙ known-nobody people)

  left-available : (k : ℕ) → available_for avail (left_to people avail o k) k ≡ true
  unfolding may_keep available_at
  left-available k =
      by-test (may_keep people avail o k) _
      (λ t. ap (λ (w : ℕ). available_for avail w k) (left-kept k t) ∙ (both (known_at people o k) (available_at avail o k) t).1)
      (λ f. sym (available-nobody avail (left_to people avail o k) k (left-gone k f)))

  module _ (slots : ℕ) where
    pub barred-length : length (barred_cleared people slots avail o) ≡ length o
    unfolding barred_cleared
    barred-length = length_over (left_to people avail o) slots o

    pub barred-at : (k : ℕ) → k < slots → slots ≤ length o → get_or (barred_cleared people slots avail o) k 0 ≡ left_to people avail o k
    unfolding barred_cleared
    barred-at k h room = get_d_over (left_to people avail o) slots o k h (omega arith)

    pub barred-past : (k : ℕ) → slots ≤ k → get_or (barred_cleared people slots avail o) k 0 ≡ get_or o k 0
    unfolding barred_cleared
    barred-past k h = get_d-over-out (left_to people avail o) slots o k h

    -- owners that may all be kept stay
    pub barred-none : ((k : ℕ) → k < slots → may_keep people avail o k ≡ true) → o ≡ barred_cleared people slots avail o
    unfolding barred_cleared
    barred-none f = over-right (left_to people avail o) slots o (λ k h. sym (left-kept k (f k h)))

    -- only the owner of slot k matters to what is left to it
    pub left-same : (o' : List ℕ) (k : ℕ) → get_or o k 0 ≡ get_or o' k 0 → left_to people avail o k ≡ left_to people avail o' k
    unfolding left_to may_keep known_at available_at
    left-same o' k e = ap (λ (w : ℕ). cond (known_by people w && available_for avail w k) w nobody) e

-- ---- step 2, where every unit has one owner

uneven-idle : (slots units : ℕ) (begins o : List ℕ) (n : ℕ) → ((u : ℕ) → u < n → even_at slots units begins o u ≡ true)
    → o ≡ uneven_cleared slots units begins o n
uneven-idle slots units begins o zero f = uneven-none slots units begins o
uneven-idle slots units begins o (suc u) f =
    uneven-idle slots units begins o u (λ v h. f v (omega arith)) ∙ sym (uneven-yes slots units begins o u (f u (omega arith)))

-- ---- both steps

module _ (P : Plan) (avail : List ℕ) (units : ℕ) (begins o : List ℕ) where
  abbrev left : List ℕ
  left = barred_cleared P.people P.slots avail o

  pub mended-length : length (mended P avail units begins o) ≡ length o
  unfolding mended
  mended-length = uneven-length P.slots units begins left units ∙ barred-length P.people avail o P.slots

  module _ (ok : units_ok P.slots units begins ≡ true) where
    -- what lies past the last slot stays
    pub mended-past : (k : ℕ) → P.slots ≤ k → get_or (mended P avail units begins o) k 0 ≡ get_or o k 0
    unfolding mended
    mended-past k h =
        uneven-out P.slots units begins left units k (λ u x a b. omega (arith, unit-within P.slots units begins ok u x))
        ∙ barred-past P.people avail o P.slots k h

    module _ (room : P.slots ≤ length o) where
      -- slot k of unit u
      pub mended-in : (k u : ℕ) → InUnit P.slots units begins k u
          → get_or (mended P avail units begins o) k 0 ≡ cond (even_at P.slots units begins left u) (left_to P.people avail o k) nobody
      unfolding mended
      mended-in k u I =
          let h : k < P.slots = omega (arith, I.to, unit-within P.slots units begins ok u I.known) in
          uneven-in P.slots units begins left ok units u k I.known (omega arith) I
          (omega (arith, barred-length P.people avail o P.slots))
          ∙ ap (λ (w : ℕ). cond (even_at P.slots units begins left u) w nobody) (barred-at P.people avail o P.slots k h room)

      -- slot k holds whoever is left to it, or nobody
      by-slot : (X : ℕ → Type 0) (k : ℕ) → k < P.slots → X (left_to P.people avail o k) → X nobody → X (get_or (mended P avail units
          begins o) k 0)
      by-slot X k h x y =
          let I = unit-of-in P.slots units begins ok k h in
          let u = unit_of units begins k in
          let e = mended-in k u I in
          by-test (even_at P.slots units begins left u) _
          (λ t. mathlib.Core.Path.subst X (sym (e ∙ ap (λ (b : Bool). cond b (left_to P.people avail o k) nobody) t)) x)
          (λ f. mathlib.Core.Path.subst X (sym (e ∙ ap (λ (b : Bool). cond b (left_to P.people avail o k) nobody) f)) y)

      pub mended-known : (k : ℕ) → k < P.slots → known_by P.people (get_or (mended P avail units begins o) k 0) ≡ true
      mended-known k h =
          by-slot (λ w. known_by P.people w ≡ true) k h (left-known P.people avail o k) (known-nobody P.people)

      pub mended-available : (k : ℕ) → k < P.slots → available_for avail (get_or (mended P avail units begins o) k 0) k ≡ true
      mended-available k h =
          by-slot (λ w. available_for avail w k ≡ true) k h (left-available P.people avail o k) (sym (available-nobody avail nobody k
          refl))

      -- each unit has one owner
      pub mended-even : (u k : ℕ) → u < units → unit_start begins u ≤ k → k < unit_end P.slots units begins u
          → get_or (mended P avail units begins o) k 0 ≡ get_or (mended P avail units begins o) (unit_start begins u) 0
      unfolding even_at
      mended-even u k h a b =
          let s = unit_start begins u in
          let some = unit-some P.slots units begins ok u h in
          let within = unit-within P.slots units begins ok u h in
          let here = mended-in k u record { known = h; from = a; to = b } in
          let first = mended-in s u record { known = h; from = omega arith; to = some } in
          by-test (even_at P.slots units begins left u) _
          (λ t.
          let e : get_or left k 0 ≡ get_or left s 0
          = eqb-true _ _ (in-each s (unit_end P.slots units begins u) (λ j. eqb (get_or left j 0) (get_or left s 0)) t k a b) in
          here ∙ ap (λ (x : Bool). cond x (left_to P.people avail o k) nobody) t
          ∙ sym (barred-at P.people avail o P.slots k (omega arith) room) ∙ e
          ∙ barred-at P.people avail o P.slots s (omega arith) room
          ∙ sym (first ∙ ap (λ (x : Bool). cond x (left_to P.people avail o s) nobody) t))
          (λ f.
          here ∙ ap (λ (x : Bool). cond x (left_to P.people avail o k) nobody) f
          ∙ sym (first ∙ ap (λ (x : Bool). cond x (left_to P.people avail o s) nobody) f))

      -- ---- the least: a slot keeps its owner exactly when that can be

      -- whether unit u is left with one owner, slot by slot
      one_left : (u : ℕ) → u < units → (w : ℕ) → ((j : ℕ) → InUnit P.slots units begins j u → left_to P.people avail o j ≡ w)
          → even_at P.slots units begins left u ≡ true
      unfolding even_at
      one_left u h w f =
          let s = unit_start begins u in
          let some = unit-some P.slots units begins ok u h in
          let within = unit-within P.slots units begins ok u h in
          let at : (j : ℕ) → s ≤ j → j < unit_end P.slots units begins u → get_or left j 0 ≡ w
          = λ j a b. barred-at P.people avail o P.slots j (omega arith) room ∙ f j record { known = h; from = a; to = b } in
          each_in s (unit_end P.slots units begins u) (λ j. eqb (get_or left j 0) (get_or left s 0))
          (λ j a b. eq-eqb _ _ (at j a b ∙ sym (at s (omega arith) some)))

      left_one : (u j k : ℕ) → InUnit P.slots units begins j u → InUnit P.slots units begins k u
          → even_at P.slots units begins left u ≡ true → left_to P.people avail o j ≡ left_to P.people avail o k
      unfolding even_at
      left_one u j k J K t =
          let s = unit_start begins u in
          let within = unit-within P.slots units begins ok u K.known in
          let at : (i : ℕ) → InUnit P.slots units begins i u → left_to P.people avail o i ≡ get_or left s 0
          = λ i I.
          sym (barred-at P.people avail o P.slots i (omega (arith, I.to)) room)
          ∙ eqb-true _ _ (in-each s (unit_end P.slots units begins u) (λ x. eqb (get_or left x 0) (get_or left s 0)) t i I.from I.to) in
          at j J ∙ sym (at k K)

      pub keeps-kept : (k : ℕ) → k < P.slots → Keeps P avail units begins o k → get_or (mended P avail units begins o) k 0 ≡ get_or o k 0
      unfolding may_keep
      keeps-kept k h K =
          let u = unit_of units begins k in
          let I = unit-of-in P.slots units begins ok k h in
          let t = one_left u I.known (get_or o k 0) (λ j J. K.alike u j I J) in
          mended-in k u I ∙ ap (λ (b : Bool). cond b (left_to P.people avail o k) nobody) t
          ∙ left-kept P.people avail o k (and-true _ _ K.known K.available)

      pub kept-keeps : (k : ℕ) → k < P.slots → (get_or o k 0 ≡ nobody → ⊥) → get_or (mended P avail units begins o) k 0 ≡ get_or o k 0
          → Keeps P avail units begins o k
      unfolding may_keep
      kept-keeps k h n e =
          let I = unit-of-in P.slots units begins ok k h in
          let even : (u : ℕ) → InUnit P.slots units begins k u → even_at P.slots units begins left u ≡ true
          = λ u J.
          by-test (even_at P.slots units begins left u) _ (λ t. t)
          (λ f.
          absurd (n (sym e ∙ mended-in k u J ∙ ap (λ (b : Bool). cond b (left_to P.people avail o k) nobody) f))) in
          let stays : left_to P.people avail o k ≡ get_or o k 0
          = sym (mended-in k (unit_of units begins k) I
          ∙ ap (λ (b : Bool). cond b (left_to P.people avail o k) nobody) (even (unit_of units begins k) I))
          ∙ e in
          let may : may_keep P.people avail o k ≡ true
          = by-test (may_keep P.people avail o k) _ (λ t. t) (λ f. absurd (n (sym stays ∙ left-gone P.people avail o k f))) in
          let x = both (known_at P.people o k) (available_at avail o k) may in
          record {
            known = x.0;
            available = x.1;
            alike = λ u j K J. left_one u j k J K (even u K) ∙ stays;
          }

      -- what isn't kept is nobody's
      pub kept-or-nobody : (k : ℕ) → k < P.slots → (get_or (mended P avail units begins o) k 0 ≡ get_or o k 0 → ⊥)
          → get_or (mended P avail units begins o) k 0 ≡ nobody
      kept-or-nobody k h n =
          let I = unit-of-in P.slots units begins ok k h in
          let u = unit_of units begins k in
          let e = mended-in k u I in
          by-test (even_at P.slots units begins left u) _
          (λ t.
          let q = e ∙ ap (λ (b : Bool). cond b (left_to P.people avail o k) nobody) t in
          by-test (may_keep P.people avail o k) _ (λ m. absurd (n (q ∙ left-kept P.people avail o k m)))
          (λ m. q ∙ left-gone P.people avail o k m))
          (λ f. e ∙ ap (λ (b : Bool). cond b (left_to P.people avail o k) nobody) f)

  -- owners that pass the recount stay
  pub mended-none : ((k : ℕ) → k < P.slots → known_by P.people (get_or o k 0) ≡ true)
      → ((k : ℕ) → k < P.slots → available_for avail (get_or o k 0) k ≡ true)
      → ((u : ℕ) → u < units → even_at P.slots units begins o u ≡ true) → o ≡ mended P avail units begins o
  unfolding mended may_keep known_at available_at
  mended-none known available even =
      let e = barred-none P.people avail o P.slots (λ k h. and-true _ _ (known k h) (available k h)) in
      e ∙ uneven-idle P.slots units begins left units
      (λ u h. ap (λ (l : List ℕ). even_at P.slots units begins l u) (sym e) ∙ even u h)

-- only owners below the slot count matter
pub mended-same : (P : Plan) (avail : List ℕ) (units : ℕ) (begins o o' : List ℕ) → units_ok P.slots units begins ≡ true
    → P.slots ≤ length o → P.slots ≤ length o' → ((k : ℕ) → k < P.slots → get_or o k 0 ≡ get_or o' k 0) → (k : ℕ) → k < P.slots
    → get_or (mended P avail units begins o) k 0 ≡ get_or (mended P avail units begins o') k 0
mended-same P avail units begins o o' ok room room' same k h =
    let people = P.people in
    let slots = P.slots in
    let u = unit_of units begins k in
    let I = unit-of-in slots units begins ok k h in
    let within = unit-within slots units begins ok u I.known in
    let alike : (j : ℕ) → j < slots → left_to people avail o j ≡ left_to people avail o' j
    = λ j g. left-same people avail o slots o' j (same j g) in
    mended-in P avail units begins o ok room k u I
    ∙ ap₂ (λ (b : Bool) (w : ℕ). cond b w nobody)
    (even-same slots units begins (left P avail units begins o) (left P avail units begins o') u
    (unit-some slots units begins ok u I.known)
    (λ j a b.
    barred-at people avail o slots j (omega arith) room ∙ alike j (omega arith)
    ∙ sym (barred-at people avail o' slots j (omega arith) room')))
    (alike k h)
    ∙ sym (mended-in P avail units begins o' ok room' k u I)
