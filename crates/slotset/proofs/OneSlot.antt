-- One slot of a person's row, put by way of a set by value: loaded, changed and stored it is a stretch of one. Assumes nothing.
use mathlib.Core.Path.{◌≡◌, refl, sym, ap, ◌∙◌}
use mathlib.Core.List.{List}
use mathlib.Core.Logic.{⊎_elim}
use Prim.Native.Nat.{ℕ, ◌+◌, ◌*◌, ◌/◌, ◌≤◌, ◌<◌}
use native.Mathlib.Omega.{arith}
use borrow.Author.Tests.{le-leb, lt-leb, lt-ltb, le-ltb}
use lib.ListN.{length, take, drop, length-take, length-drop}
use Rattle.paper.specs.Limits.{number_of}
use Rattle.paper.proofs.Rows.{passed, worked}
use Rattle.paper.proofs.Logic.{lt-or-ge}
use Rattle.slotset.specs.declared.SlotSet.{SlotSet}
use Rattle.slotset.specs.Slots.{slot, put_slot, put_slots}
use Rattle.slotset.specs.Answers.{slot_row, stretch_ok, sets_row, person_row, person_stretch_row}
use Rattle.slotset.specs.Answers.{empty_set, changed_as, load_of, put_of, store_of, row_stretch_of}
use Rattle.slotset.proofs.Puts.{slot-loaded, stored-put, puts_one}
use Rattle.slotset.proofs.Members.{put-here, put-elsewhere}
use Rattle.slotset.proofs.Refusals.{row-says, slot-says}

-- what is loaded where nothing is refused
pub load_is : (ws : List ℕ) (people person len : ℕ) → number_of (person_row ws people person len) ≡ 0
    → (load_of ws people person len).set ≡ record { words = take 16 (drop (16 * person) ws); len = len }
unfolding load_of changed_as
load_is ws people person len z = worked _ (empty_set 0) (record { words = take 16 (drop (16 * person) ws); len = len }) z

-- the tests of the set and then of the slot are those of the stretch
pub one-given : (ws : List ℕ) (people person len i : ℕ) → number_of (person_row ws people person len) ≡ 0
    → number_of (slot_row len i) ≡ number_of (person_stretch_row ws people person len i (i + 1))
unfolding slot_row person_stretch_row person_row sets_row stretch_ok number_of
one-given ws people person len i z =
    let r = row-says ws people person len z in
    let h = passed (person_row ws people person len) refl z in
    ⊎_elim
    (λ (g : i < len).
    simp (h 0, h 1, h 2, h 3, lt-ltb i len g, lt-leb (i + 1) i (omega arith), le-leb (i + 1) len (omega arith)))
    (λ (g : len ≤ i).
    simp (h 0, h 1, h 2, h 3, le-ltb i len g, lt-leb (i + 1) i (omega arith), lt-leb (i + 1) len (omega arith)))
    (lt-or-ge i len)

module _ (v : ℕ) (ws : List ℕ) (people person len i : ℕ) (small : v < 2) (z : number_of (person_row ws people person len) ≡ 0)
    (y : number_of (slot_row len i) ≡ 0) where
  abbrev loaded : List ℕ
  loaded = take 16 (drop (16 * person) ws)

  abbrev changed : SlotSet
  changed = record { words = put_slot 0 i v loaded; len = len }

  changed-is : (put_of v (load_of ws people person len).set i).set ≡ changed
  unfolding put_of changed_as
  changed-is =
      ap (λ (s : SlotSet). (put_of v s i).set) (load_is ws people person len z)
      ∙ worked _ (record { words = loaded; len = len }) changed y

  stored : put_slots (slot (put_slot 0 i v loaded) 0) (16 * person) 0 len ws ≡ put_slot (16 * person) i v ws
  stored =
      let r = row-says ws people person len z in
      let s = slot-says len i y in
      let long : length loaded ≡ 16 = simp (length-take, length-drop) (omega (arith, r.words)) in
      let room : 0 + i / 64 < length loaded = omega (arith, r.short, s.1) in
      stored-put (slot (put_slot 0 i v loaded) 0) (16 * person) i len v ws s.1 (omega (arith, r.words, r.short)) small
      (put-here 0 i v loaded small room)
      (λ k h n. put-elsewhere 0 i v loaded small room k n ∙ slot-loaded ws person k (omega (arith, r.short)))

  pub one-stored : store_of (put_of v (load_of ws people person len).set i).set ws people person
      ≡ row_stretch_of v ws people person len i (i + 1)
  unfolding store_of row_stretch_of
  one-stored =
      ap (λ (s : SlotSet). store_of s ws people person) changed-is
      ∙ worked _ ws (put_slots (slot (put_slot 0 i v loaded) 0) (16 * person) 0 len ws) z
      ∙ stored ∙ sym (puts_one v (16 * person) i ws)
      ∙ sym (worked _ ws _ (sym (one-given ws people person len i z) ∙ y))
