-- Sets moved to the front slot by slot, and everybody's, row by row. Assumes nothing.
use mathlib.Core.Path.{◌≡◌, refl, sym, ap, ◌∙◌}
use mathlib.Core.Bool.{Bool, true, false, ◌&&◌, cond}
use mathlib.Core.List.{List}
use Prim.Native.Nat.{ℕ, zero, suc, ◌+◌, ◌-◌, ◌*◌, ◌≤◌, ◌<◌}
use native.Mathlib.Omega.{arith}
use borrow.Author.Tests.{le-ltb}
use lib.Dec.{eqb, ltb, leb}
use lib.ListN.{length, replicate}
use Rattle.paper.specs.Limits.{people_ok}
use Rattle.paper.proofs.Logic.{by-test, lt-or-ge}
use Rattle.slotset.specs.Slots.{slot, put_slot, put_slots, value_of}
use Rattle.slotset.specs.Answers.{row_stretch_of}
use Rattle.slotset.proofs.Puts.{slot_lt, slot-puts-here, slot-none, puts-same}
use Rattle.slots.specs.Availability.{rows}
use Rattle.slots.proofs.AvailLaws.{row_put, row_more, row-length, rows_more}
use Rattle.slots.proofs.Meaning.{other-slot}
use Rattle.retire.specs.Rolled.{rolled}
use Rattle.retire.proofs.Rolls.{rolled-old, rolled-new}

-- a slot is 0 or 1, then as before
pub rolled-lt : (gone kept : ℕ) (old new : ℕ → ℕ) → ((k : ℕ) → old k < 2) → ((k : ℕ) → new k < 2) → (k : ℕ) → rolled gone kept old new k < 2
unfolding rolled
rolled-lt gone kept old new a b k =
    by-test (ltb k kept) _ (λ t. simp t (a (gone + k))) (λ f. simp f (b (k - kept)))

-- the same entries where those that it reads are the same
pub rolled-same : (gone kept : ℕ) (old old' new new' : ℕ → ℕ) (k : ℕ) → (k < kept → old (gone + k) ≡ old' (gone + k))
    → (kept ≤ k → new (k - kept) ≡ new' (k - kept)) → rolled gone kept old new k ≡ rolled gone kept old' new' k
rolled-same gone kept old old' new new' k a b =
    mathlib.Core.Logic.⊎_elim
    (λ (h : k < kept). rolled-old gone kept old new k h ∙ a h ∙ sym (rolled-old gone kept old' new' k h))
    (λ (h : kept ≤ k). rolled-new gone kept old new k h ∙ b h ∙ sym (rolled-new gone kept old' new' k h))
    (lt-or-ge k kept)

-- the bit that is wanted, of a test whether a slot is 1
bit-value : (x : ℕ) → x < 2 → value_of (eqb x 1) ≡ x
bit-value zero h = refl
bit-value (suc zero) h = refl
bit-value (suc (suc x)) h = absurd (omega arith)

-- ---- one row

module _ (people person count gone kept : ℕ) (fresh ws₀ : List ℕ) (ok : people_ok people ≡ true) (few : count ≤ 1024) (known : person < people)
    (room : 16 * people ≤ length ws₀) where
  abbrev pub then : ℕ → ℕ
  then = rolled gone kept (slot ws₀ (16 * person)) (slot fresh (16 * person))

  then-lt : (k : ℕ) → then k < 2
  then-lt = rolled-lt gone kept _ _ (slot_lt ws₀ (16 * person)) (slot_lt fresh (16 * person))

  -- a slot further on is still as it was lent
  still : (k : ℕ) (ws : List ℕ) → ws ≡ put_slots then (16 * person) 0 k ws₀ → k ≤ count → (j : ℕ) → k ≤ j
      → slot ws (16 * person) j ≡ slot ws₀ (16 * person) j
  still k ws e l j h =
      ap (λ (x : List ℕ). slot x (16 * person) j) e
      ∙ slot-puts-here then (16 * person) 0 k ws₀ j then-lt (omega arith)
      ∙ ap (λ (b : Bool). cond (leb 0 j && b) (then j) (slot ws₀ (16 * person) j)) (le-ltb j (0 + k) (omega arith))
      ∙ out (leb 0 j)
    where
      out : (b : Bool) → cond (b && false) (then j) (slot ws₀ (16 * person) j) ≡ slot ws₀ (16 * person) j
      out true = refl
      out false = refl

  pub row-turn : (k : ℕ) (ws next : List ℕ) (want : Bool) → ws ≡ put_slots then (16 * person) 0 k ws₀ → k < count
      → want ≡ eqb (rolled gone kept (slot ws (16 * person)) (slot fresh (16 * person)) k) 1
      → next ≡ row_stretch_of (value_of want) ws people person count k (k + 1) → next ≡ put_slots then (16 * person) 0 (k + 1) ws₀
  row-turn k ws next want e h w d =
      let same : rolled gone kept (slot ws (16 * person)) (slot fresh (16 * person)) k ≡ then k =
      rolled-same gone kept _ _ _ _ k (λ l. still k ws e (omega arith) (gone + k) (omega arith)) (λ l. refl) in
      let mark : value_of want ≡ then k = ap value_of w ∙ ap (λ (x : ℕ). value_of (eqb x 1)) same ∙ bit-value (then k) (then-lt k) in
      row_more then (16 * person) k ws₀ ws next e
      (d ∙ row_put people person count ok few known ws (omega (arith, row-length then (16 * person) k ws₀ ws e)) k (value_of want) h
      ∙ ap (λ (v : ℕ). put_slot (16 * person) k v ws) mark)

-- ---- all rows

module _ (people count gone kept : ℕ) (fresh ws₀ : List ℕ) (few : count ≤ 1024) (within : gone + kept ≤ 1024) (room : 16 * people ≤ length ws₀) where
  abbrev pub set_then : ℕ → ℕ → ℕ
  set_then p = rolled gone kept (slot ws₀ (16 * p)) (slot fresh (16 * p))

  pub rows-turn : (p : ℕ) (ws next : List ℕ) → ws ≡ rows set_then count p ws₀ → p < people
      → next ≡ put_slots (rolled gone kept (slot ws (16 * p)) (slot fresh (16 * p))) (16 * p) 0 count ws → next ≡ rows set_then count (p + 1) ws₀
  rows-turn p ws next e h d =
      let still : (j : ℕ) → j < 1024 → slot ws (16 * p) j ≡ slot ws₀ (16 * p) j = λ j l.
      ap (λ (x : List ℕ). slot x (16 * p) j) e
      ∙ other-slot set_then (λ q k. rolled-lt gone kept _ _ (slot_lt ws₀ (16 * q)) (slot_lt fresh (16 * q)) k) count few ws₀ p (omega arith) p j
      (λ x. absurd (omega arith)) l in
      rows_more set_then count p ws₀ ws next e
      (d ∙ puts-same _ (set_then p) (16 * p) 0 count ws (λ k a b. rolled-same gone kept _ _ _ _ k (λ l. still (gone + k) (omega arith)) (λ l. refl)))

-- ---- flags: one set, and no new slot of it is set

pub frozen-by : (gone kept count n : ℕ) (ws : List ℕ)
    → put_slots (rolled gone kept (slot ws (16 * 0)) (slot (replicate n 0) (16 * 0))) (16 * 0) 0 count ws
    ≡ put_slots (rolled gone kept (slot ws 0) (λ _. 0)) 0 0 count ws
frozen-by gone kept count n ws =
    puts-same _ _ 0 0 count ws (λ k a b. rolled-same gone kept _ _ _ _ k (λ _. refl) (λ _. slot-none n 0 (k - kept)))
