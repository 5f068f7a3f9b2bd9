-- The slots that end by an instant open the list: their count, and their marks. Assumes nothing.
use Rattle.std.specs.Prelude.{Ok, Err}
use mathlib.Core.Path.{◌≡◌, refl, sym, ap, ap₂, ◌∙◌}
use mathlib.Core.Bool.{true, false}
use mathlib.Core.Logic.{⊎_elim}
use mathlib.Core.List.{List}
use Prim.Native.Nat.{ℕ, zero, suc, ◌+◌, ◌-◌, ◌≤◌, ◌<◌}
use native.Mathlib.Omega.{arith}
use borrow.Author.Tests.{le-leb, lt-leb, leb-true, leb-false, eq-eqb, ne_eqb}
use lib.Dec.{eqb, leb}
use lib.ListN.{length, get_or}
use Rattle.std.specs.List.Sorted.{IsPartitionedBy, IsPartitionPoint}
use Rattle.std.proofs.lemmas.List.Sorted.{IsPartitionedBy-leb, IsNonDecreasingBy-from_default}
use Rattle.paper.specs.Limits.{people_ok, number_of}
use Rattle.paper.specs.Rows.{unless, answer_as}
use Rattle.paper.proofs.Logic.{lt-or-ge, slot-count-says}
use Rattle.paper.proofs.Rows.{passed}
use Rattle.paper.proofs.Count.{count-opening}
use Rattle.slotset.specs.Slots.{put_slot, put_slots}
use Rattle.slotset.specs.Answers.{row_stretch_of}
use Rattle.slotset.proofs.Refusals.{says_row, stretch-puts}
use Rattle.slots.specs.Lent.{SlotsSound}
use Rattle.slots.specs.Freeze.{ends_by, ended_by, marked, freeze_row, freeze_of}
use Rattle.slots.specs.Inside.{Opening}
use Rattle.slots.proofs.LentLaws.{slots-sound}

-- ---- an opening stretch

marked-opening : (n r : ℕ) (ends : List ℕ) (instant : ℕ) (ws : List ℕ) → r ≤ n → ((k : ℕ) → k < r → ends_by ends instant k ≡ true)
    → ((k : ℕ) → r ≤ k → k < n → ends_by ends instant k ≡ false) → marked n ends instant ws ≡ put_slots (λ _. 1) 0 0 r ws
unfolding marked put_slots
marked-opening zero zero ends instant ws h f g = refl
marked-opening zero (suc r) ends instant ws h f g = absurd (omega arith)
marked-opening (suc n) zero ends instant ws h f g =
    let e = g n (omega arith) (omega arith) in
    simp e (marked-opening n zero ends instant ws (omega arith) f (λ k b d. g k b (omega arith)))
marked-opening (suc n) (suc r) ends instant ws h f g =
    ⊎_elim
    (λ (a : n < suc r).
    let q : r ≡ n = omega arith in
    let e = f n a in
    let z : 0 + r ≡ n = omega arith in
    let i = marked-opening n n ends instant ws (omega arith) (λ k b. f k (omega arith)) (λ k b d. absurd (omega arith)) in
    simp e (ap₂ (λ (k : ℕ) (l : List ℕ). put_slot 0 k 1 l) (sym z) (i ∙ ap (λ (m : ℕ). put_slots (λ _. 1) 0 0 m ws) (sym q))))
    (λ (a : suc r ≤ n).
    let e = g n a (omega arith) in
    simp e (marked-opening n (suc r) ends instant ws a f (λ k b d. g k b (omega arith))))
    (lt-or-ge n (suc r))

module _ (slots : ℕ) (ends : List ℕ) (instant r : ℕ) (O : Opening slots (λ k. get_or ends k 0) instant r) where
  passes : (k : ℕ) → k < r → ends_by ends instant k ≡ true
  unfolding ends_by
  passes k h = le-leb (get_or ends k 0) instant (O.by k h)

  fails : (k : ℕ) → r ≤ k → k < slots → ends_by ends instant k ≡ false
  unfolding ends_by
  fails k a b = lt-leb (get_or ends k 0) instant (O.after k a b)

  pub opening-count : ended_by slots ends instant ≡ r
  unfolding ended_by
  opening-count = count-opening slots r (ends_by ends instant) O.few passes fails

  pub opening-marked : (ws : List ℕ) → marked slots ends instant ws ≡ put_slots (λ _. 1) 0 0 r ws
  opening-marked ws = marked-opening slots r ends instant ws O.few passes fails

-- ends ascend
pub ends-rise : (slots : ℕ) (starts ends : List ℕ) → SlotsSound slots starts ends → (k j : ℕ) → k < j → j < slots
    → get_or ends k 0 ≤ get_or ends j 0
ends-rise slots starts ends S k j h l = omega (arith, S.ascending k j h l, S.ordered j l)

-- ---- the search for the opening stretch: what `partition_point` finds in the places from `low` on
module _ (n low : ℕ) (f : ℕ → ℕ) (bound : ℕ) (rise : (k j : ℕ) → k < j → j < n → f k ≤ f j) (few : low ≤ n)
    (known : (k : ℕ) → k < low → f k ≤ bound) where
  no-later : (k j : ℕ) → k ≤ j → j < n → f k ≤ f j
  no-later k j a b =
      ⊎_elim (λ (h : k < j). rise k j h b) (λ (h : j ≤ k). let e : k ≡ j = omega arith in omega (arith, ap f e)) (lt-or-ge k j)

  pub opening-found : (g : ℕ → ℕ) (xs : List ℕ) → length xs + low ≡ n → ((k : ℕ) → k < length xs → g (get_or xs k 0) ≡ f (low + k))
      → (r : ℕ) → r ≤ length xs
      → (IsPartitionedBy (λ x. leb (g x) bound) xs → IsPartitionPoint (λ x. leb (g x) bound ≡ true) (λ x. leb (g x) bound ≡ false) xs r)
      → Opening n f bound (low + r)
  opening-found g xs len same r fits found =
      let at = found (IsPartitionedBy-leb g xs bound (IsNonDecreasingBy-from_default g xs 0
      (λ i j a b. omega (arith, same i (omega arith), same j b, no-later (low + i) (low + j) (omega arith) (omega arith))))) in
      record {
        few = omega arith;
        by = λ k h. ⊎_elim (known k)
            (λ (a : low ≤ k).
            let e : low + (k - low) ≡ k = omega arith in
            omega (arith, ap f e, same (k - low) (omega arith), leb-true _ _ (at.0 (k - low) 0 (omega arith) (omega arith))))
            (lt-or-ge k low);
        after = λ k a b.
            let e : low + (k - low) ≡ k = omega arith in
            omega (arith, ap f e, same (k - low) (omega arith), leb-false _ _ (at.1 (k - low) 0 (omega arith) (omega arith)));
      }

-- ---- the numbers

-- what no refusal leaves known
pub freeze-says : (slots : ℕ) (starts ends frozen : List ℕ) → number_of (freeze_row slots starts ends frozen) ≡ 0
    → (slots ≤ 1024) × (16 ≤ length frozen) × SlotsSound slots starts ends
unfolding freeze_row
freeze-says slots starts ends frozen e =
    let h = passed (freeze_row slots starts ends frozen) refl e in
    ((slot-count-says slots (h 0)).1, leb-true 16 (length frozen) (h 2), slots-sound slots starts ends (h 3))

-- the flags are one set, of which any opening stretch may be put
stretch-put : (slots n : ℕ) (ws : List ℕ) → slots ≤ 1024 → 16 ≤ length ws → n ≤ slots
    → row_stretch_of 1 ws 1 0 slots 0 n ≡ put_slots (λ _. 1) 0 0 n ws
unfolding people_ok
stretch-put slots n ws a b h =
    let z : n - 0 ≡ n = omega arith in
    stretch-puts 1 ws 1 0 slots 0 n (says_row ws 1 0 slots refl a b (omega arith)) h ∙ ap (λ (m : ℕ). put_slots (λ _. 1) 0 0 m ws) z

-- the two outcomes
module _ (slots : ℕ) (starts ends frozen : List ℕ) (instant no : ℕ) (e : no ≡ number_of (freeze_row slots starts ends frozen)) where
  pub freeze-refused : (no ≡ 0 → ⊥)
      → (Err no ≡ (freeze_of slots starts ends frozen instant).answer) ×
      (frozen ≡ (freeze_of slots starts ends frozen instant).flags)
  unfolding freeze_of answer_as unless
  freeze-refused h =
      let z : eqb (number_of (freeze_row slots starts ends frozen)) 0 ≡ false = ne_eqb _ _ (λ q. h (e ∙ q)) in
      (simp z (ap Err e), simp z)

  pub freeze-done : no ≡ 0 → (n : ℕ) → Opening slots (λ k. get_or ends k 0) instant n → (ws : List ℕ)
      → ws ≡ row_stretch_of 1 frozen 1 0 slots 0 n
      → (Ok n ≡ (freeze_of slots starts ends frozen instant).answer) × (ws ≡ (freeze_of slots starts ends frozen instant).flags)
  unfolding freeze_of answer_as unless
  freeze-done h n O ws w =
      let z : eqb (number_of (freeze_row slots starts ends frozen)) 0 ≡ true = eq-eqb _ _ (sym e ∙ h) in
      let k = freeze-says slots starts ends frozen (sym e ∙ h) in (
        simp z (ap Ok (sym (opening-count slots ends instant n O))),
        simp z (w ∙ stretch-put slots n frozen k.0 k.1 O.few ∙ sym (opening-marked slots ends instant n O frozen)),
      )
