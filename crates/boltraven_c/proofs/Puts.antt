-- A slot put by way of a set by value is a stretch of one: what is answered, and the words at exit, done and refused. Assumes nothing.
use mathlib.Core.Path.{◌≡◌, refl, sym, ap, ◌∙◌}
use mathlib.Core.List.{List, [], ◌∷◌, ◌++◌}
use Prim.Native.Nat.{ℕ, ◌+◌, ◌-◌, ◌*◌, ◌<◌}
use lib.ListN.{take, drop}
use Rattle.paper.specs.Limits.{Test, number_of}
use Rattle.paper.proofs.Logic.{by-test}
use Rattle.paper.proofs.Refusals.{number-pass, number-fail}
use Rattle.paper.proofs.Rows.{worked, kept}
use Rattle.slotset.specs.declared.SlotSet.{SlotSet}
use Rattle.slotset.specs.declared.Changed.{Changed}
use Rattle.slotset.specs.Slots.{put_slot, put_slots}
use Rattle.slotset.specs.Answers.{slot_row, person_row, person_stretch_row, changed_as, load_of, put_of, store_of, row_stretch_of}
use Rattle.slotset.proofs.OneSlot.{load_is, one-given, one-stored}

-- what the first tests of a row refuse, the row refuses
front-number : (ts us : List Test) → (number_of ts ≡ 0 → ⊥) → number_of ts ≡ number_of (ts ++ us)
unfolding number_of
front-number [] us h = absurd (h refl)
front-number (t ∷ ts) us h =
    by-test t.passes _
    (λ e. number-pass t ts e ∙ front-number ts us (λ z. h (number-pass t ts e ∙ z)) ∙ sym (number-pass t (ts ++ us) e))
    (λ e. number-fail t ts e ∙ sym (number-fail t (ts ++ us) e))

module _ (v : ℕ) (ws : List ℕ) (people person len i : ℕ) (small : v < 2)
    (loaded : Changed) (is-loaded : loaded ≡ load_of ws people person len)
  where
    abbrev row : SlotSet
    row = record { words = take 16 (drop (16 * person) ws); len = len }

    load-number : (load_of ws people person len).number ≡ number_of (person_row ws people person len)
    unfolding load_of changed_as
    load-number = refl

    row_is : loaded.number ≡ number_of (person_row ws people person len)
    row_is = ap (λ (l : Changed). l.number) is-loaded ∙ load-number

    module _ (changed : Changed) (is-changed : changed ≡ put_of v loaded.set i) (fine : loaded.number ≡ 0) where
      sound : number_of (person_row ws people person len) ≡ 0
      sound = sym row_is ∙ fine

      put_is : changed ≡ put_of v (load_of ws people person len).set i
      put_is = is-changed ∙ ap (λ (l : Changed). put_of v l.set i) is-loaded

      by_row : changed ≡ put_of v row i
      by_row = put_is ∙ ap (λ (s : SlotSet). put_of v s i) (load_is ws people person len sound)

      slot-number : changed.number ≡ number_of (slot_row len i)
      unfolding put_of changed_as
      slot-number = ap (λ (l : Changed). l.number) by_row

      -- done: the set is stored
      pub done : (r : ℕ) (words : List ℕ) → changed.number ≡ 0
          → (r ≡ number_of (person_row ws people person changed.set.len)) × (words ≡ store_of changed.set ws people person)
          → (r ≡ number_of (person_stretch_row ws people person len i (i + 1))) × (words ≡ row_stretch_of v ws people person len i (i + 1))
      unfolding put_of changed_as
      done r words fine2 stored =
          let y : number_of (slot_row len i) ≡ 0 = sym slot-number ∙ fine2 in
          let zero = sym (one-given ws people person len i sound) ∙ y in
          let new : SlotSet = record { words = put_slot 0 i v row.words; len = len } in
          let same_len : changed.set.len ≡ len =
          ap (λ (l : Changed). l.set.len) by_row ∙ ap (λ (s : SlotSet). s.len) (worked (number_of (slot_row len i)) row new y) in (
            stored.0 ∙ ap (λ (n : ℕ). number_of (person_row ws people person n)) same_len ∙ sound ∙ sym zero,
            stored.1 ∙ ap (λ (l : Changed). store_of l.set ws people person) put_is ∙ one-stored v ws people person len i small sound y,
          )

      -- the slot is refused: its number, and the words as they were
      pub slot-refused : (changed.number ≡ 0 → ⊥)
          → (changed.number ≡ number_of (person_stretch_row ws people person len i (i + 1)))
          × (ws ≡ row_stretch_of v ws people person len i (i + 1))
      unfolding row_stretch_of
      slot-refused bad =
          let same = slot-number ∙ one-given ws people person len i sound in
          (same, sym (kept _ ws (put_slots (λ _. v) (16 * person) i (i + 1 - i) ws) (λ z. bad (same ∙ z))))

    -- the row is refused: its number, and the words as they were
    pub row-refused : (loaded.number ≡ 0 → ⊥)
        → (loaded.number ≡ number_of (person_stretch_row ws people person len i (i + 1)))
        × (ws ≡ row_stretch_of v ws people person len i (i + 1))
    unfolding row_stretch_of person_stretch_row
    row-refused bad =
        let same = row_is ∙ front-number (person_row ws people person len) _ (λ z. bad (row_is ∙ z)) in
        (same, sym (kept _ ws (put_slots (λ _. v) (16 * person) i (i + 1 - i) ws) (λ z. bad (same ∙ z))))
