-- The part that a slot has: it ends at the next change, and only there; and what the rows of tests say. Assumes nothing.
use Rattle.std.specs.Prelude.{Option, Some, None, Result, Ok}
use mathlib.Core.Path.{◌≡◌, refl, sym, ap, subst, ◌∙◌}
use mathlib.Core.Bool.{Bool, true, false, true≢false, not, cond}
use mathlib.Core.Logic.{⊎_elim}
use mathlib.Core.List.{List}
use Prim.Native.Nat.{ℕ, suc, ◌+◌, ◌-◌, ◌≤◌, ◌<◌}
use native.Mathlib.Numerals.{add-one}
use native.Mathlib.Decide.{ℕ_discrete}
use native.Mathlib.Omega.{arith}
use borrow.Author.Tests.{leb-true, ltb-true, eqb-true, eqb-false, eq-eqb, ne_eqb}
use lib.Dec.{eqb}
use lib.ListN.{length, take, drop}
use denote.Ref.{Bor}
use Rattle.paper.specs.Limits.{people_ok, number_of}
use Rattle.paper.proofs.Rows.{passed, worked, kept}
use Rattle.paper.proofs.Logic.{slot-count-says, lt-or-ge, zero_of, one_of}
use Rattle.slotset.specs.Slots.{slot}
use Rattle.slotset.specs.Search.{First, next_with, next_set, next_unset_after}
use Rattle.slotset.specs.Answers.{person_row}
use Rattle.paper.specs.Rows.{answer_as}
use Rattle.slotset.proofs.Puts.{slot_lt}
use Rattle.slotset.proofs.Meaning.{next-is}
use Rattle.slotset.proofs.Refusals.{says_row}
use Rattle.columns.specs.Parts.{columns_row, stretch_row, is_frozen, found_or, next_change, EndsAt, Part, part_at, no_part, stretch_of}
use Rattle.columns.specs.Parts.{IsPart}
use Rattle.columns.specs.Publishing.{show_row}
use Rattle.columns.specs.Inside.{Sound, answered_or}

-- ---- where nothing is refused

module _ (slots : ℕ) (published draft frozen : List ℕ) where
  sound : slots ≤ 1024 → eqb (length published) (length draft) ≡ true → slots ≤ length published → 16 ≤ length frozen
      → Sound slots published draft frozen
  sound few same room flags =
      record { few = few; same = eqb-true (length published) (length draft) same; room = room; flags = flags }

  pub columns-says : number_of (columns_row slots published draft frozen) ≡ 0 → Sound slots published draft frozen
  unfolding columns_row
  columns-says z =
      let h = passed (columns_row slots published draft frozen) refl z in
      sound (slot-count-says slots (h 0)).1 (h 1) (leb-true _ _ (h 2)) (leb-true _ _ (h 3))

  pub stretch-says : (i : ℕ) → number_of (stretch_row slots published draft frozen i) ≡ 0
      → Sound slots published draft frozen × (i < slots)
  unfolding stretch_row columns_row
  stretch-says i z =
      let h = passed (stretch_row slots published draft frozen i) refl z in
      (sound (slot-count-says slots (h 0)).1 (h 1) (leb-true _ _ (h 2)) (leb-true _ _ (h 3)), ltb-true _ _ (h 4))

  pub show-says : (shown : List ℕ) → number_of (show_row slots published draft frozen shown) ≡ 0
      → Sound slots published draft frozen × (slots ≤ length shown)
  unfolding show_row columns_row
  show-says shown z =
      let h = passed (show_row slots published draft frozen shown) refl z in
      (sound (slot-count-says slots (h 0)).1 (h 1) (leb-true _ _ (h 2)) (leb-true _ _ (h 3)), leb-true _ _ (h 4))

-- ---- the next change

-- a bit that is not the other one is the same
same_bit : (a b : ℕ) → a < 2 → b < 2 → (b ≡ 1 - a → ⊥) → b ≡ a
same_bit a b ha hb n = elim (ℕ_discrete b a) [
  | yes q ↦ q
  | no m ↦ absurd (n (elim (ℕ_discrete b 0) [
    | yes z ↦ z ∙ (let q : 0 ≡ 1 - a = omega (arith, one_of a ha (λ y. m (z ∙ sym y))) in q)
    | no w ↦ (let u = one_of b hb w in u ∙ (let q : 1 ≡ 1 - a = omega (arith, zero_of a ha (λ y. m (u ∙ sym y))) in q))
  ]))
]

other-bit : (a b : ℕ) → a < 2 → b ≡ 1 - a → eqb b 1 ≡ not (eqb a 1)
other-bit a b ha e = elim (ℕ_discrete a 1) [
  | yes q ↦ ne_eqb b 1 (λ y. omega (arith, y, q, e)) ∙ ap not (sym (eq-eqb a 1 q))
  | no m ↦ eq-eqb b 1 (e ∙ (let z = zero_of a ha m in (let q : 1 - a ≡ 1 = omega (arith, z) in q))) ∙ ap not (sym (ne_eqb a 1 m))
]

-- slots alike up to a place, from the slot after i on, are so from i on
module _ (frozen : List ℕ) (i e : ℕ) where
  alike_from : ((k : ℕ) → suc i ≤ k → k < e → slot frozen 0 k ≡ 1 - slot frozen 0 i → ⊥)
      → (k : ℕ) → i ≤ k → k < e → is_frozen frozen k ≡ is_frozen frozen i
  unfolding is_frozen
  alike_from n k a b = ⊎_elim
      (λ (h : i < k). ap (λ (x : ℕ). eqb x 1) (same_bit _ _ (slot_lt frozen 0 i) (slot_lt frozen 0 k) (n k h b)))
      (λ (h : k ≤ i). let q : k ≡ i = omega arith in ap (λ (x : ℕ). eqb (slot frozen 0 x) 1) q)
      (lt-or-ge i k)

  other_at : slot frozen 0 e ≡ 1 - slot frozen 0 i → is_frozen frozen e ≡ not (is_frozen frozen i)
  unfolding is_frozen
  other_at q = other-bit (slot frozen 0 i) (slot frozen 0 e) (slot_lt frozen 0 i) q

ends_by : (slots : ℕ) (frozen : List ℕ) (i : ℕ) (r : Option ℕ) → i < slots
    → First (1 - slot frozen 0 i) (slot frozen 0) slots (suc i) r → EndsAt slots frozen i (found_or slots r)
ends_by slots frozen i (Some k) h w =
    record {
      later = w.0;
      within = omega (arith, w.1);
      alike = alike_from frozen i k w.3;
      changes = λ _. other_at frozen i k w.2;
    }
ends_by slots frozen i None h w =
    record { later = h; within = omega arith; alike = alike_from frozen i slots w; changes = λ b. absurd (omega (arith, b)) }

-- the part of a slot ends at the next change
pub change-is : (slots : ℕ) (frozen : List ℕ) (i : ℕ) → i < slots → EndsAt slots frozen i (next_change slots frozen i)
unfolding next_change
change-is slots frozen i h =
    ends_by slots frozen i (next_with (1 - slot frozen 0 i) (slot frozen 0) slots (suc i)) h
    (next-is (1 - slot frozen 0 i) (slot frozen 0) slots (suc i))

-- and only there
not_own : (b : Bool) → b ≡ not b → ⊥
not_own true e = true≢false e
not_own false e = true≢false (sym e)

no-earlier : (slots : ℕ) (frozen : List ℕ) (i d e : ℕ) → EndsAt slots frozen i d → EndsAt slots frozen i e → d < e → ⊥
no-earlier slots frozen i d e D E h =
    not_own (is_frozen frozen i) (sym (E.alike d (omega (arith, D.later)) h) ∙ D.changes (omega (arith, E.within)))

pub change-unique : (slots : ℕ) (frozen : List ℕ) (i e : ℕ) → i < slots → EndsAt slots frozen i e → e ≡ next_change slots frozen i
change-unique slots frozen i e h E =
    let C = change-is slots frozen i h in
    ⊎_elim (λ (l : e < next_change slots frozen i). absurd (no-earlier slots frozen i _ _ E C l))
    (λ (g : next_change slots frozen i ≤ e).
    ⊎_elim (λ (l : next_change slots frozen i < e). absurd (no-earlier slots frozen i _ _ C E l))
    (λ (k : e ≤ next_change slots frozen i). let q : e ≡ next_change slots frozen i = omega (arith, g, k) in q)
    (lt-or-ge (next_change slots frozen i) e)) (lt-or-ge e (next_change slots frozen i))

-- ---- how the code finds it: by a search of a row of its own

module _ (slots : ℕ) (frozen : List ℕ) (few : slots ≤ 1024) (room : 16 ≤ length frozen) where
  search-says : (x : Option ℕ) (r : Result (Option ℕ) ℕ) → r ≡ answer_as (number_of (person_row frozen 1 0 slots)) x → r ≡ Ok x
  unfolding answer_as people_ok
  search-says x r e =
      e ∙ worked _ _ (Ok x) (says_row frozen 1 0 slots refl few room (let q : 0 < 1 = omega arith in q))

  module _ (i : ℕ) (inside : i < slots) where
    change-by : (r : Result (Option ℕ) ℕ) (e : ℕ) → r ≡ Ok (next_with (1 - slot frozen 0 i) (slot frozen 0) slots (suc i)) → e ≡ answered_or slots r
        → (e ≡ next_change slots frozen i) × (i < e) × (e ≤ slots)
    unfolding next_change
    change-by r e q p =
        let C = change-is slots frozen i inside in
        let same : e ≡ next_change slots frozen i = p ∙ ap (answered_or slots) q in
        (same, omega (arith, same, C.later), omega (arith, same, C.within))

    pub change-of-frozen : (f : Bool) → f ≡ is_frozen frozen i → f ≡ true → (r : Result (Option ℕ) ℕ)
        → r ≡ answer_as (number_of (person_row frozen 1 0 slots)) (next_unset_after (slot frozen 0) slots i) → (e : ℕ) → e ≡ answered_or slots r
        → (e ≡ next_change slots frozen i) × (i < e) × (e ≤ slots)
    unfolding is_frozen
    change-of-frozen f is t r a e p =
        let one = eqb-true (slot frozen 0 i) 1 (sym is ∙ t) in
        let none : 0 ≡ 1 - slot frozen 0 i = omega (arith, one) in
        change-by r e (search-says _ r a ∙ ap (λ (v : ℕ). Ok (next_with v (slot frozen 0) slots (suc i))) none) p

    pub change-of-open : (f : Bool) → f ≡ is_frozen frozen i → f ≡ false → (r : Result (Option ℕ) ℕ)
        → r ≡ answer_as (number_of (person_row frozen 1 0 slots)) (next_set (slot frozen 0) slots (i + 1)) → (e : ℕ) → e ≡ answered_or slots r
        → (e ≡ next_change slots frozen i) × (i < e) × (e ≤ slots)
    unfolding is_frozen
    change-of-open f is t r a e p =
        let none = zero_of (slot frozen 0 i) (slot_lt frozen 0 i) (eqb-false (slot frozen 0 i) 1 (sym is ∙ t)) in
        let one : 1 ≡ 1 - slot frozen 0 i = omega (arith, none) in
        change-by r e
        (search-says _ r a ∙ ap (λ (n : ℕ). Ok (next_with 1 (slot frozen 0) slots n)) (add-one i)
        ∙ ap (λ (v : ℕ). Ok (next_with v (slot frozen 0) slots (suc i))) one) p

-- ---- the part that is handed back

-- a stretch of the column that the slot's flag chooses
pub part-is : (slots : ℕ) (frozen : List ℕ) (i : ℕ) (published draft r : Bor (List ℕ)) (b : Bool) → b ≡ is_frozen frozen i → (e : ℕ)
    → e ≡ next_change slots frozen i
    → (r.ref_ptr.0 ≡ (cond b published draft).ref_ptr.0) × (r.ref_ptr.1 ≡ (cond b published draft).ref_ptr.1 + i)
    × (r.now ≡ take (e - i) (drop i (cond b published.now draft.now)))
    → IsPart (part_at slots frozen i) published draft r
unfolding part_at
part-is slots frozen i published draft r b is e ends w =
    subst (λ (x : Bool). IsPart (record { is_published = x; from = i; upto = next_change slots frozen i }) published draft r) is
    (subst (λ (y : ℕ). IsPart (record { is_published = b; from = i; upto = y }) published draft r) ends
    (record { block = w.0; place = w.1; entries = w.2 }))

module _ (slots : ℕ) (p d f : List ℕ) (i : ℕ) (published draft r : Bor (List ℕ)) (n : ℕ)
    (e : n ≡ number_of (stretch_row slots p d f i)) where
  pub handed : n ≡ 0 → IsPart (part_at slots f i) published draft r → IsPart (stretch_of slots p d f i) published draft r
  unfolding stretch_of
  handed z w = subst (λ (x : Part). IsPart x published draft r) (sym (worked _ no_part (part_at slots f i) (sym e ∙ z))) w

  pub nothing-handed : (n ≡ 0 → ⊥) → IsPart no_part published draft r → IsPart (stretch_of slots p d f i) published draft r
  unfolding stretch_of
  nothing-handed z w = subst (λ (x : Part). IsPart x published draft r) (sym (kept _ no_part (part_at slots f i) (λ q. z (e ∙ q)))) w
