-- What the outcomes mean, slot by slot, and that only one fits. Assumes nothing.
use Rattle.std.specs.Prelude.{Result}
use mathlib.Core.Path.{◌≡◌, refl, sym, ap, ap₂, ◌∙◌}
use mathlib.Core.Bool.{Bool, true, ◌&&◌, cond}
use mathlib.Core.Logic.{⊎_elim}
use mathlib.Core.List.{List, ◌++◌}
use Prim.Native.Nat.{ℕ, zero, suc, ◌+◌, ◌-◌, ◌*◌, ◌≤◌, ◌<◌}
use native.Mathlib.Nat.{not-suc-le-zero}
use native.Mathlib.Omega.{arith}
use borrow.Author.Tests.{le-leb, lt-ltb, eq-eqb, ne_eqb}
use lib.Dec.{leb, ltb, eqb}
use lib.ListN.{length, get_or, drop, length-set, get_or-append}
use lib.Seq.{get_or-append-add, get_or-drop}
use Rattle.paper.specs.Limits.{slot_count_ok}
use Rattle.paper.specs.Count.{all, onto}
use Rattle.paper.proofs.Logic.{by-test, lt-or-ge, below_suc, and-true, both, slot-count-says}
use Rattle.paper.proofs.Count.{all_same, sum_same, length-onto}
use Rattle.slotset.specs.Slots.{slot, put_slot, put_slots, value_of}
use Rattle.slotset.proofs.Puts.{slot-put, slot-puts-here, slot-puts-other, value-lt}
use Rattle.slots.specs.Lent.{slot_ok, prev_end, slot_ok_at, slot_room_ok, slots_ok, minutes_at, demand_of}
use Rattle.slots.specs.Ranges.{Ranges, available}
use Rattle.slots.specs.Merged.{MergedOut, MergedEnd}
use Rattle.slots.specs.Atomic.{atom_starts, atom_ends, Atoms, AtomsEnd}
use Rattle.slots.specs.Availability.{available_bit, rows}
use Rattle.slots.specs.Freeze.{ends_by, marked}
use Rattle.slots.proofs.LentLaws.{slots-each}
use Rattle.slots.proofs.AvailLaws.{length-rows}
use Rattle.slots.proofs.SplitLaws.{atoms-ok, atoms-even, atoms-some, atoms-demand}

-- ---- freezing: exactly the marks said

pub length_marked : (n : ℕ) (ends : List ℕ) (instant : ℕ) (ws : List ℕ) → length (marked n ends instant ws) ≡ length ws
unfolding marked put_slot
length_marked zero ends instant ws = refl
length_marked (suc n) ends instant ws =
    by-test (ends_by ends instant n) _
    (λ t. simp (t, length-set) (length_marked n ends instant ws))
    (λ f. simp f (length_marked n ends instant ws))

-- slot k after slot n was marked
mark-at : (n k : ℕ) (ws : List ℕ) → n < 1024 → 16 ≤ length ws → slot (put_slot 0 n 1 ws) 0 k ≡ cond (eqb k n) 1 (slot ws 0 k)
mark-at n k ws h r =
    let e : 0 * 64 + k ≡ k = omega arith in
    let d : 0 * 64 + n ≡ n = omega arith in
    slot-put 0 n 1 ws 0 k (omega arith) (omega arith) ∙ ap₂ (λ (x y : ℕ). cond (eqb x y) 1 (slot ws 0 k)) e d

module _ (ends : List ℕ) (instant : ℕ) (ws : List ℕ) (room : 16 ≤ length ws) (k : ℕ) where
  mark-next : (n : ℕ) → n < 1024 → slot (put_slot 0 n 1 (marked n ends instant ws)) 0 k ≡ cond (eqb k n) 1 (slot
      (marked n ends instant ws) 0 k)
  mark-next n h = mark-at n k (marked n ends instant ws) h (omega (arith, length_marked n ends instant ws))

  -- a slot that ends by the instant is marked
  pub frozen-marked : (n : ℕ) → n ≤ 1024 → k < n → ends_by ends instant k ≡ true → slot (marked n ends instant ws) 0 k ≡ 1
  unfolding marked
  frozen-marked zero h l e = absurd (not-suc-le-zero l)
  frozen-marked (suc n) h l e =
      below_suc _ l
      (λ (q : k ≡ n).
      let t : ends_by ends instant n ≡ true = ap (ends_by ends instant) (sym q) ∙ e in
      simp t (mark-next n (omega arith) ∙ simp (eq-eqb k n q)))
      (λ (b : k < n).
      by-test (ends_by ends instant n) _
      (λ t. simp t (mark-next n (omega arith) ∙ simp (ne_eqb k n (λ q. omega arith)) (frozen-marked n (omega arith) b e)))
      (λ f. simp f (frozen-marked n (omega arith) b e)))

  -- any other keeps its mark, or has none as before
  pub frozen-kept : (n : ℕ) → n ≤ 1024 → (k < n → ends_by ends instant k ≡ true → ⊥) → slot (marked n ends instant ws) 0 k ≡ slot ws 0 k
  unfolding marked
  frozen-kept zero h f = refl
  frozen-kept (suc n) h f =
      by-test (ends_by ends instant n) _
      (λ t.
      let ne : k ≡ n → ⊥ = λ q. f (omega arith) (ap (ends_by ends instant) q ∙ t) in
      simp t (mark-next n (omega arith) ∙ simp (ne_eqb k n ne) (frozen-kept n (omega arith) (λ l. f (omega arith)))))
      (λ u. simp u (frozen-kept n (omega arith) (λ l. f (omega arith))))

-- ---- availability: exactly the slots said, and no other bit

module _ (g : ℕ → ℕ → ℕ) (bits : (p k : ℕ) → g p k < 2) (slots : ℕ) (few : slots ≤ 1024) (ws : List ℕ) where
  row_fits : (q : ℕ) → 16 * suc q ≤ length ws → 16 * q * 64 + (0 + slots) ≤ length (rows g slots q ws) * 64
  row_fits q h = omega (arith, length-rows g slots q ws)

  pub set-slot : (people : ℕ) → 16 * people ≤ length ws → (p k : ℕ) → p < people → k < slots
      → slot (rows g slots people ws) (16 * p) k ≡ g p k
  unfolding rows
  set-slot zero room p k h l = absurd (not-suc-le-zero h)
  set-slot (suc q) room p k h l =
      below_suc _ h
      (λ (e : p ≡ q).
      let here = slot-puts-here (g q) (16 * q) 0 slots (rows g slots q ws) k (bits q) (row_fits q room) in
      let t : leb 0 k && ltb k (0 + slots) ≡ true = and-true _ _ (le-leb 0 k (omega arith)) (lt-ltb k (0 + slots) (omega arith)) in
      ap (λ (x : ℕ). slot (put_slots (g q) (16 * q) 0 slots (rows g slots q ws)) (16 * x) k) e ∙ here
      ∙ ap (λ (b : Bool). cond b (g q k) (slot (rows g slots q ws) (16 * q) k)) t ∙ ap (λ (x : ℕ). g x k) (sym e))
      (λ (b : p < q).
      slot-puts-other (g q) (16 * q) 0 slots (rows g slots q ws) (16 * p) k (bits q) (row_fits q room) (λ x y. omega arith)
      ∙ set-slot q (omega arith) p k b l)

  -- bits at or past the slot count, and sets past the people, stay
  pub other-slot : (people : ℕ) → 16 * people ≤ length ws → (p k : ℕ) → (p < people → slots ≤ k) → k < 1024
      → slot (rows g slots people ws) (16 * p) k ≡ slot ws (16 * p) k
  unfolding rows
  other-slot zero room p k h l = refl
  other-slot (suc q) room p k h l =
      slot-puts-other (g q) (16 * q) 0 slots (rows g slots q ws) (16 * p) k (bits q) (row_fits q room)
      (λ x y.
      ⊎_elim
      (λ (a : p < q). omega arith)
      (λ (a : q ≤ p).
      ⊎_elim (λ (b : q < p). omega arith) (λ (b : p ≤ q). let e : p ≡ q = omega arith in omega (arith, h (omega arith))) (lt-or-ge q p))
      (lt-or-ge p q))
      ∙ other-slot q (omega arith) p k (λ a. h (omega arith)) l

pub bit-lt-two : (R : Ranges) (starts ends : List ℕ) (p k : ℕ) → available_bit R starts ends p k < 2
unfolding available_bit
bit-lt-two R starts ends p k = value-lt (available R p (get_or starts k 0) (get_or ends k 0))

-- slot k of a person's set is 1 exactly where they are available for it
pub available-slot : (R : Ranges) (starts ends : List ℕ) (slots people : ℕ) (ws : List ℕ) → slots ≤ 1024 → 16 * people ≤ length ws
    → (p k : ℕ) → p < people → k < slots
    → slot (rows (available_bit R starts ends) slots people ws) (16 * p) k ≡ value_of (available R p (get_or starts k 0) (get_or ends k 0))
unfolding available_bit
available-slot R starts ends slots people ws few room p k h l =
    set-slot (available_bit R starts ends) (bit-lt-two R starts ends) slots few ws people room p k h l

-- ---- a list at the front of a column

pub onto-at : (l old : List ℕ) (k : ℕ) → k < length l → get_or (onto l old) k 0 ≡ get_or l k 0
unfolding onto
onto-at l old k h = get_or-append l (drop (length l) old) 0 k h

-- what lies past the list's end stays
pub onto-past : (l old : List ℕ) (k : ℕ) → length l ≤ k → get_or (onto l old) k 0 ≡ get_or old k 0
unfolding onto
onto-past l old k h =
    let e : length l + (k - length l) ≡ k = omega arith in
    ap (λ (j : ℕ). get_or (l ++ drop (length l) old) j 0) (sym e) ∙ get_or-append-add l (drop (length l) old) (k - length l) 0
    ∙ get_or-drop (length l) old (k - length l) 0 ∙ ap (λ (j : ℕ). get_or old j 0) e

-- ---- atomic slots in the columns that they were written to

-- columns that agree on the slots give the same test and the same demand
module _ (n : ℕ) (s e s' e' : List ℕ) (a : (k : ℕ) → k < n → get_or s k 0 ≡ get_or s' k 0) (b : (k : ℕ) → k < n
    → get_or e k 0 ≡ get_or e' k 0) where
  prev-same : (k : ℕ) → k < n → prev_end e k ≡ prev_end e' k
  unfolding prev_end
  prev-same zero h = refl
  prev-same (suc k) h = b k (omega arith)

  pub tests_same : (k : ℕ) → k < n → slot_ok_at s e k ≡ slot_ok_at s' e' k
  unfolding slot_ok_at
  tests_same k h =
      ap (λ (x : ℕ). slot_ok x (get_or s k 0) (get_or e k 0)) (prev-same k h) ∙ ap₂ (λ (x y : ℕ). slot_ok (prev_end e' k) x y) (a k h) (b k h)

  pub demand-same : demand_of n s e ≡ demand_of n s' e'
  unfolding demand_of minutes_at
  demand-same = sum_same n (λ k. get_or e k 0 - get_or s k 0) (λ k. get_or e' k 0 - get_or s' k 0) (λ k h. ap₂ ◌-◌ (b k h) (a k h))

-- the atomic slots of base slots that pass, in columns s and e with room for them
module _ (cut : ℕ → Bool) (slots : ℕ) (starts ends s e : List ℕ) (ok : slots_ok slots starts ends ≡ true)
    (rs : length (atom_starts cut slots starts ends) ≤ length s) (re : length (atom_starts cut slots starts ends) ≤ length e) where
  abbrev A : List ℕ
  A = atom_starts cut slots starts ends

  abbrev E : List ℕ
  E = atom_ends cut slots starts ends

  at-starts : (k : ℕ) → k < length A → get_or (onto A s) k 0 ≡ get_or A k 0
  at-starts k h = onto-at A s k h

  at-ends : (k : ℕ) → k < length A → get_or (onto E e) k 0 ≡ get_or E k 0
  at-ends k h = onto-at E e k (omega (arith, atoms-even cut slots starts ends))

  -- they pass the test of lent slots
  pub atoms-lent : slots_ok (length (atom_starts cut slots starts ends)) (onto (atom_starts cut slots starts ends) s)
      (onto (atom_ends cut slots starts ends) e) ≡ true
  unfolding slots_ok slot_room_ok
  atoms-lent =
      let w = both (slot_room_ok (length A) A E) (all (length A) (slot_ok_at A E)) (atoms-ok cut slots starts ends ok) in
      let q = atoms-even cut slots starts ends in
      and-true _ _
      (and-true _ _ (le-leb (length A) (length (onto A s)) (omega (arith, length-onto A s rs)))
      (le-leb (length A) (length (onto E e)) (omega (arith, length-onto E e (omega (arith, q))))))
      (all_same (length A) (slot_ok_at (onto A s) (onto E e)) (slot_ok_at A E)
      (tests_same (length A) (onto A s) (onto E e) A E at-starts at-ends)
      ∙ w.1)

  -- and their demand is that of the base slots
  pub atoms-lent-demand : demand_of (length (atom_starts cut slots starts ends)) (onto (atom_starts cut slots starts ends) s)
      (onto (atom_ends cut slots starts ends) e) ≡ demand_of slots starts ends
  atoms-lent-demand =
      demand-same (length A) (onto A s) (onto E e) A E at-starts at-ends
      ∙ atoms-demand cut slots starts ends (slots-each slots starts ends ok) slots (omega arith)

-- where they are not refused, their number is one of 1 to 1,024
pub atoms-count-ok : (cut : ℕ → Bool) (slots : ℕ) (starts ends : List ℕ) → slot_count_ok slots ≡ true
    → length (atom_starts cut slots starts ends) ≤ 1024 → slot_count_ok (length (atom_starts cut slots starts ends)) ≡ true
unfolding slot_count_ok
atoms-count-ok cut slots starts ends ok few =
    let one = (slot-count-says slots ok).0 in
    let n = length (atom_starts cut slots starts ends) in
    and-true _ _ (le-leb 1 n (omega (arith, atoms-some cut slots starts ends))) (le-leb n 1024 few)

-- ---- only one outcome fits

-- merged_ranges
pub one-merged-end : (x : MergedOut) (r r' : Result ℕ ℕ) (p p' s s' e e' : List ℕ) → MergedEnd x r p s e → MergedEnd x r' p' s' e'
    → (r ≡ r') × (p ≡ p') × (s ≡ s') × (e ≡ e')
one-merged-end x r r' p p' s s' e e' a b =
    (a.said ∙ sym b.said, a.persons ∙ sym b.persons, a.starts ∙ sym b.starts, a.ends ∙ sym b.ends)

-- atomise
pub one-atoms-end : (x : Atoms) (r r' : Result ℕ ℕ) (s s' e e' : List ℕ) → AtomsEnd x r s e → AtomsEnd x r' s' e'
    → (r ≡ r') × (s ≡ s') × (e ≡ e')
one-atoms-end x r r' s s' e e' a b = (a.said ∙ sym b.said, a.starts ∙ sym b.starts, a.ends ∙ sym b.ends)
