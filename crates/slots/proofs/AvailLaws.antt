-- A slot is available exactly where one merged range holds it whole; and the sets, row by row. Assumes nothing.
use Rattle.std.specs.Prelude.{Result, Err}
use mathlib.Core.Path.{◌≡◌, refl, sym, ap, ◌∙◌}
use mathlib.Core.Bool.{Bool, true, false}
use mathlib.Core.Logic.{⊎_elim}
use mathlib.Core.List.{List, [], ◌∷◌}
use Prim.Native.Nat.{ℕ, zero, suc, ◌+◌, ◌-◌, ◌*◌, ◌≤◌, ◌<◌}
use native.Mathlib.Numerals.{add-one}
use native.Mathlib.Omega.{arith}
use borrow.Author.Tests.{leb-true, ltb-true, ltb-false, le-leb, lt-ltb, le-ltb, eq-eqb, ne_eqb}
use lib.Dec.{leb, ltb, eqb}
use lib.ListN.{length, get_or, take}
use lib.Seq.{get_or-take, length-take-le}
use Rattle.paper.specs.Limits.{people_ok, number_of}
use Rattle.paper.specs.Rows.{unless, answer_as}
use Rattle.paper.specs.Count.{all_in}
use Rattle.paper.proofs.Logic.{by-test, lt-or-ge, both, and-true, or_left, or-second, or-either, same_test}
use Rattle.paper.proofs.Logic.{slot-count-says}
use Rattle.paper.proofs.Rows.{passed}
use Rattle.paper.proofs.Count.{in-each, each_in}
use Rattle.slotset.specs.Slots.{put_slot, put_slots, value_of, has}
use Rattle.slotset.specs.Answers.{row_refusal, row_slots, row_stretch_of}
use Rattle.slotset.proofs.Puts.{length-puts, puts_one, puts-same}
use Rattle.slotset.proofs.Refusals.{says_row, stretch-puts}
use Rattle.slots.specs.Lent.{SlotsSound}
use Rattle.slots.specs.Ranges.{Ranges, in_ranges, available}
use Rattle.slots.specs.Availability.{available_bit, rows, availability_row, availability_of, available_row, is_available}
use Rattle.slots.specs.Inside.{any_of, opens, closes, SpacedKeys, RangesSound, MergedFrom, Opening, spans, reaches, held_bit}
use Rattle.slots.proofs.Keys.{merged_keys}
use Rattle.slots.proofs.Entries.{any_here, any-one}
use Rattle.slots.proofs.Keys.{in_line, in-line, line-in}
use Rattle.slots.proofs.LentLaws.{slots-sound}
use Rattle.slots.proofs.Merging.{before-none, spaced-filled, spaced-apart, any-minutes}
use Rattle.slots.proofs.RangeLaws.{ranges-sound, merged-is}
use Rattle.slots.proofs.MergedLaws.{held-list}

-- ---- spaced lists, place by place

module _ (a b x : ℕ) where
  pub spans-says : spans a b x ≡ true → (opens x ≤ a) × (b ≤ closes x)
  unfolding spans
  spans-says e = let w = both (leb (opens x) a) (leb b (closes x)) e in (leb-true _ _ w.0, leb-true _ _ w.1)

  pub says-spans : opens x ≤ a → b ≤ closes x → spans a b x ≡ true
  unfolding spans
  says-spans p q = and-true _ _ (le-leb _ _ p) (le-leb _ _ q)

-- a range that holds all places holds each
held_all : (a b : ℕ) (l : List ℕ) → any_of (spans a b) l ≡ true → (q : ℕ) → a ≤ q → q < b → any_of (in_line q) l ≡ true
unfolding any_of
held_all a b [] e q h g = e
held_all a b (x ∷ l) e q h g =
    ⊎_elim
    (λ i. let w = spans-says a b x i in or_left (in_line q x) _ (line-in q x (omega arith) (omega arith)))
    (λ i. or-second (in_line q x) _ (held_all a b l i q h g))
    (or-either (spans a b x) (any_of (spans a b) l) e)

-- where each place is held, one range holds all of them: there is a gap after each
all_held : (from a b : ℕ) (l : List ℕ) → SpacedKeys from l → a < b → ((q : ℕ) → a ≤ q → q < b → any_of (in_line q) l ≡ true)
    → any_of (spans a b) l ≡ true
unfolding any_of
all_held from a b [] s h f = f a (omega arith) h
all_held from a b (x ∷ l) s h f =
    ⊎_elim
    (λ (g : a < closes x).
    let o : opens x ≤ a =
    ⊎_elim (λ i. (in-line a x i).0) (λ i. absurd (before-none (suc (closes x)) a l s.2 (omega arith) i))
    (or-either (in_line a x) (any_of (in_line a) l) (f a (omega arith) h)) in
    let c : b ≤ closes x =
    ⊎_elim
    (λ (k : closes x < b).
    ⊎_elim (λ i. absurd (omega (arith, (in-line (closes x) x i).1)))
    (λ i. absurd (before-none (suc (closes x)) (closes x) l s.2 (omega arith) i))
    (or-either (in_line (closes x) x) (any_of (in_line (closes x)) l) (f (closes x) (omega arith) k)))
    (λ k. k) (lt-or-ge (closes x) b) in
    or_left (spans a b x) _ (says-spans a b x o c))
    (λ (g : closes x ≤ a).
    or-second (spans a b x) _
    (all_held (suc (closes x)) a b l s.2 h
    (λ q p r. ⊎_elim (λ i. absurd (omega (arith, (in-line q x i).1))) (λ i. i) (or-either (in_line q x) (any_of (in_line q) l) (f q p r)))))
    (lt-or-ge a (closes x))

-- available, over minutes, exactly where one merged range holds the whole slot
pub held-available : (R : Ranges) → RangesSound R → (p s e : ℕ) → s < e → e ≤ 100000000
    → any_of (spans (p * 268435456 + s) (p * 268435456 + e)) (merged_keys R) ≡ available R p s e
unfolding available
held-available R S p s e h g =
    let M = merged-is R S in
    let l = merged_keys R in
    same_test (any_of (spans (p * 268435456 + s) (p * 268435456 + e)) l) (all_in s e (in_ranges R p))
    (λ t. each_in s e (in_ranges R p)
    (λ k a b.
    sym (M.minutes p k) ∙ any-minutes p k l (omega arith)
    ∙ held_all (p * 268435456 + s) (p * 268435456 + e) l t (p * 268435456 + k) (omega arith) (omega arith)))
    (λ t. all_held 0 (p * 268435456 + s) (p * 268435456 + e) l M.spaced (omega arith)
    (λ q a b.
    let k = q - p * 268435456 in
    let m : p * 268435456 + k ≡ q = omega arith in
    ap (λ (x : ℕ). any_of (in_line x) l) (sym m) ∙ sym (any-minutes p k l (omega arith)) ∙ M.minutes p k
    ∙ in-each s e (in_ranges R p) t k (omega arith) (omega arith)))

-- ---- the one candidate

-- the merged ranges as the code holds them: the first n of the keys
module _ (keys : List ℕ) (n : ℕ) (fits : n ≤ length keys) (s : SpacedKeys 0 (take n keys)) where
  pub at_front : (k : ℕ) → k < n → (k < length (take n keys)) × (get_or (take n keys) k 0 ≡ get_or keys k 0)
  at_front k h = (omega (arith, length-take-le n keys fits), get_or-take n keys k 0 h)

  -- none is empty, and each closes before any later one opens
  pub filled : (k : ℕ) → k < n → opens (get_or keys k 0) < closes (get_or keys k 0)
  filled k h =
      let f = at_front k h in
      omega (arith, spaced-filled 0 (take n keys) s k f.0, ap opens f.1, ap closes f.1)

  pub apart : (k j : ℕ) → k < j → j < n → closes (get_or keys k 0) < opens (get_or keys j 0)
  apart k j h g =
      let f = at_front j g in
      omega (arith, spaced-apart 0 (take n keys) s k j h f.0, ap closes (at_front k (omega arith)).1, ap opens f.1)

  -- so the places where they open rise
  pub opens-rise : (k j : ℕ) → k < j → j < n → opens (get_or keys k 0) ≤ opens (get_or keys j 0)
  opens-rise k j h g = omega (arith, filled k (omega arith), apart k j h g)

  -- a test that one of them passes
  pub front-here : (p : ℕ → Bool) (k : ℕ) → k < n → p (get_or keys k 0) ≡ true → any_of p (take n keys) ≡ true
  front-here p k h e = let f = at_front k h in any_here p (take n keys) k f.0 (ap p f.1 ∙ e)

  pub front-one : (p : ℕ → Bool) (X : Type 0) → any_of p (take n keys) ≡ true → ((k : ℕ) → k < n → p (get_or keys k 0) ≡ true → X) → X
  front-one p X e f =
      any-one p (take n keys) X e
      (λ k h t. let i : k < n = omega (arith, length-take-le n keys fits) in f k i (ap p (sym (at_front k i).1) ∙ t))

  pub front-none : (p : ℕ → Bool) → ((k : ℕ) → k < n → p (get_or keys k 0) ≡ true → ⊥) → false ≡ any_of p (take n keys)
  front-none p f =
      same_test false (any_of p (take n keys)) (λ e. absurd (mathlib.Core.Bool.false≢true e)) (λ e. absurd (front-one p ⊥ e f))

  module _ (a b r : ℕ) (O : Opening n (λ k. opens (get_or keys k 0)) a r) (order : a ≤ b) where
    -- none opens early enough
    pub covered_none : r ≤ 0 → false ≡ any_of (spans a b) (take n keys)
    covered_none z =
        front-none (spans a b)
        (λ k h t. omega (arith, (spans-says a b (get_or keys k 0) t).0, O.after k (omega arith) h))

    -- the last that opens early enough holds them all, or none does
    pub covered-last : 0 < r → (c : ℕ) → c ≡ closes (get_or keys (r - 1) 0) → leb b c ≡ any_of (spans a b) (take n keys)
    covered-last z c e =
        let few : r ≤ n = O.few in
        let last : opens (get_or keys (r - 1) 0) ≤ a = O.by (r - 1) (omega arith) in
        same_test (leb b c) (any_of (spans a b) (take n keys))
        (λ t. front-here (spans a b) (r - 1) (omega arith) (says-spans a b (get_or keys (r - 1) 0) last (omega (arith, leb-true b c t))))
        (λ t. front-one (spans a b) _ t
        (λ k h u.
        let w = spans-says a b (get_or keys k 0) u in
        let early : k < r =
        ⊎_elim (λ g. g) (λ (g : r ≤ k). absurd (omega (arith, w.0, O.after k g h))) (lt-or-ge k r) in
        ⊎_elim
        (λ (g : k < r - 1). absurd (omega (arith, w.1, apart k (r - 1) g (omega arith))))
        (λ (g : r - 1 ≤ k).
        let m : k ≡ r - 1 = omega arith in
        le-leb b c (omega (arith, w.1, ap (λ (i : ℕ). closes (get_or keys i 0)) m)))
        (lt-or-ge k (r - 1))))

    -- and so it is asked of that one
    pub covered-by : (w : Bool) → w ≡ reaches keys r b → w ≡ any_of (spans a b) (take n keys)
    unfolding reaches
    covered-by w e =
        by-test (ltb 0 r) _ (λ t. e ∙ simp t (covered-last (ltb-true 0 r t) _ refl)) (λ f. e ∙ simp f (covered_none (ltb-false 0 r f)))

pub reaches_some : (keys : List ℕ) (r place c : ℕ) → 0 < r → c ≡ closes (get_or keys (r - 1) 0) → leb place c ≡ reaches keys r place
unfolding reaches
reaches_some keys r place c h e = simp (lt-ltb 0 r h) (ap (leb place) e)

pub reaches-none : (keys : List ℕ) (r place : ℕ) → r ≤ 0 → false ≡ reaches keys r place
unfolding reaches
reaches-none keys r place h = simp (le-ltb 0 r h)

-- ---- the walk to it

module _ (n : ℕ) (f : ℕ → ℕ) (bound r : ℕ) (few : r ≤ n) (by : (k : ℕ) → k < r → f k ≤ bound) where
  pub opened-stops : ((k j : ℕ) → k < j → j < n → f k ≤ f j) → bound < f r → Opening n f bound r
  opened-stops rise h =
      record {
        few = few;
        by = by;
        after = λ k a b. ⊎_elim (λ (i : r < k). omega (arith, rise r k i b)) (λ (i : k ≤ r). let e : k ≡ r = omega arith in omega
            (arith, ap f e)) (lt-or-ge r k);
      }

  pub opened-ends : n ≤ r → Opening n f bound r
  opened-ends h = record { few = few; by = by; after = λ k a b. absurd (omega arith) }

-- ---- the sets, slot by slot and row by row

module _ (people person slots : ℕ) (ok : people_ok people ≡ true) (few : slots ≤ 1024) (known : person < people) where
  pub row_put : (ws : List ℕ) → 16 * people ≤ length ws → (k v : ℕ) → k < slots
      → row_stretch_of v ws people person slots k (k + 1) ≡ put_slot (16 * person) k v ws
  row_put ws room k v h =
      stretch-puts v ws people person slots k (k + 1) (says_row ws people person slots ok few room known) (omega arith)
      ∙ puts_one v (16 * person) k ws

-- one slot more of a row
pub row_more : (g : ℕ → ℕ) (b k : ℕ) (ws₀ ws next : List ℕ) → ws ≡ put_slots g b 0 k ws₀ → next ≡ put_slot b k (g k) ws
    → next ≡ put_slots g b 0 (k + 1) ws₀
unfolding put_slots
row_more g b k ws₀ ws next e d =
    let z : 0 + k ≡ k = omega arith in
    d ∙ ap (λ (l : List ℕ). put_slot b k (g k) l) e ∙ ap (λ (i : ℕ). put_slot b i (g i) (put_slots g b 0 k ws₀)) (sym z)
    ∙ ap (λ (m : ℕ). put_slots g b 0 m ws₀) (sym (add-one k))

pub row-length : (g : ℕ → ℕ) (b k : ℕ) (ws₀ ws : List ℕ) → ws ≡ put_slots g b 0 k ws₀ → length ws ≡ length ws₀
row-length g b k ws₀ ws e = ap length e ∙ length-puts g b 0 k ws₀

pub row_done : (g : ℕ → ℕ) (b k n : ℕ) (ws₀ ws : List ℕ) → ws ≡ put_slots g b 0 k ws₀ → k ≤ n → n ≤ k → ws ≡ put_slots g b 0 n ws₀
row_done g b k n ws₀ ws e x y = let q : k ≡ n = omega arith in e ∙ ap (λ (m : ℕ). put_slots g b 0 m ws₀) q

-- the mark that the code puts
pub held-mark : (l starts ends : List ℕ) (person k : ℕ) (want : Bool)
    → want ≡ any_of (spans (person * 268435456 + get_or starts k 0) (person * 268435456 + get_or ends k 0)) l
    → value_of want ≡ held_bit l starts ends person k
unfolding held_bit
held-mark l starts ends person k want e = ap value_of e

-- ---- all rows

pub rows_none : (g : ℕ → ℕ → ℕ) (slots : ℕ) (ws : List ℕ) → ws ≡ rows g slots 0 ws
unfolding rows
rows_none g slots ws = refl

pub rows_more : (g : ℕ → ℕ → ℕ) (slots p : ℕ) (ws₀ ws next : List ℕ) → ws ≡ rows g slots p ws₀ → next ≡ put_slots (g p) (16 * p) 0 slots ws
    → next ≡ rows g slots (p + 1) ws₀
unfolding rows
rows_more g slots p ws₀ ws next e d =
    d ∙ ap (put_slots (g p) (16 * p) 0 slots) e ∙ ap (λ (n : ℕ). rows g slots n ws₀) (sym (add-one p))

pub length-rows : (g : ℕ → ℕ → ℕ) (slots p : ℕ) (ws : List ℕ) → length (rows g slots p ws) ≡ length ws
unfolding rows
length-rows g slots zero ws = refl
length-rows g slots (suc p) ws = length-puts (g p) (16 * p) 0 slots (rows g slots p ws) ∙ length-rows g slots p ws

pub rows-length : (g : ℕ → ℕ → ℕ) (slots p : ℕ) (ws₀ ws : List ℕ) → ws ≡ rows g slots p ws₀ → length ws ≡ length ws₀
rows-length g slots p ws₀ ws e = ap length e ∙ length-rows g slots p ws₀

pub rows-done : (g : ℕ → ℕ → ℕ) (slots p n : ℕ) (ws₀ ws : List ℕ) → ws ≡ rows g slots p ws₀ → p ≤ n → n ≤ p → ws ≡ rows g slots n ws₀
rows-done g slots p n ws₀ ws e x y = let q : p ≡ n = omega arith in e ∙ ap (λ (m : ℕ). rows g slots m ws₀) q

rows_same : (g h : ℕ → ℕ → ℕ) (slots p : ℕ) (ws : List ℕ) → ((q k : ℕ) → k < slots → g q k ≡ h q k) → rows g slots p ws ≡ rows h slots p ws
unfolding rows
rows_same g h slots zero ws f = refl
rows_same g h slots (suc p) ws f =
    puts-same (g p) (h p) (16 * p) 0 slots (rows g slots p ws) (λ k a b. f p k (omega arith))
    ∙ ap (put_slots (h p) (16 * p) 0 slots) (rows_same g h slots p ws f)

-- ---- the outcome

pub record AvailabilitySound (people slots : ℕ) (starts ends : List ℕ) (R : Ranges) (words : List ℕ) : Type 0 where
  pub slots-sound : SlotsSound slots starts ends
  pub ranges-sound : RangesSound R
  pub few : slots ≤ 1024
  pub people-ok : people_ok people ≡ true
  pub room : 16 * people ≤ length words

pub availability-says : (people slots : ℕ) (starts ends : List ℕ) (R : Ranges) (words : List ℕ)
    → number_of (availability_row people slots starts ends R words) ≡ 0 → AvailabilitySound people slots starts ends R words
unfolding availability_row
availability-says people slots starts ends R words e =
    let h = passed (availability_row people slots starts ends R words) refl e in
    record {
      slots-sound = slots-sound slots starts ends (h 7);
      ranges-sound = ranges-sound people R (h 0) (h 2) (h 6);
      few = (slot-count-says slots (h 1)).1;
      people-ok = h 0;
      room = leb-true (16 * people) (length words) (h 5);
    }

-- the marks of the merged list are those over minutes
marks-same : (R : Ranges) → RangesSound R → (slots : ℕ) (starts ends : List ℕ) → SlotsSound slots starts ends → (p k : ℕ) → k < slots
    → held_bit (merged_keys R) starts ends p k ≡ available_bit R starts ends p k
unfolding held_bit available_bit
marks-same R S slots starts ends T p k h =
    ap value_of (held-available R S p (get_or starts k 0) (get_or ends k 0) (T.ordered k h) (T.capped k h))

module _ (people slots : ℕ) (starts ends : List ℕ) (R : Ranges) (words : List ℕ) (number : ℕ)
    (e : number ≡ number_of (availability_row people slots starts ends R words)) where
  pub availability-refused : (number ≡ 0 → ⊥) → (number ≡ number_of (availability_row people slots starts ends R words)) ×
      (words ≡ availability_of people slots starts ends R words)
  unfolding availability_of unless
  availability-refused h =
      let z : eqb (number_of (availability_row people slots starts ends R words)) 0 ≡ false = ne_eqb _ _ (λ q. h (e ∙ q)) in
      (e, simp z)

  pub availability-done : number ≡ 0 → (keys : List ℕ) (n : ℕ) → MergedFrom R keys n → (next : List ℕ)
      → next ≡ rows (held_bit (take n keys) starts ends) slots people words
      → (0 ≡ number_of (availability_row people slots starts ends R words)) × (next ≡ availability_of people slots starts ends R words)
  unfolding availability_of unless
  availability-done h keys n M next d =
      let none = sym e ∙ h in
      let z : eqb (number_of (availability_row people slots starts ends R words)) 0 ≡ true = eq-eqb _ _ none in
      let S = availability-says people slots starts ends R words none in (
        sym none,
        simp z (d ∙ ap (λ (l : List ℕ). rows (held_bit l starts ends) slots people words) (held-list R S.ranges-sound keys n M)
            ∙ rows_same (held_bit (merged_keys R) starts ends) (available_bit R starts ends) slots people words
            (marks-same R S.ranges-sound slots starts ends S.slots-sound)),
      )

-- the merged list as the code holds it is spaced
pub held-spaced : (R : Ranges) → RangesSound R → (keys : List ℕ) (n : ℕ) → MergedFrom R keys n → SpacedKeys 0 (take n keys)
held-spaced R S keys n M = rw (held-list R S keys n M) (merged-is R S).spaced

-- one turn of the loop that fills a row
pub row-turn : (l starts ends : List ℕ) (people person slots base k : ℕ) (ws₀ ws next : List ℕ) (want : Bool)
    → people_ok people ≡ true → slots ≤ 1024 → person < people → 16 * people ≤ length ws₀ → base ≡ person * 268435456
    → ws ≡ put_slots (held_bit l starts ends person) (16 * person) 0 k ws₀ → k < slots
    → want ≡ any_of (spans (base + get_or starts k 0) (base + get_or ends k 0)) l
    → next ≡ row_stretch_of (value_of want) ws people person slots k (k + 1)
    → next ≡ put_slots (held_bit l starts ends person) (16 * person) 0 (k + 1) ws₀
row-turn l starts ends people person slots base k ws₀ ws next want ok few known room b e h w d =
    let mark : value_of want ≡ held_bit l starts ends person k =
    held-mark l starts ends person k want (w ∙ ap (λ (x : ℕ). any_of (spans (x + get_or starts k 0) (x + get_or ends k 0)) l) b) in
    row_more (held_bit l starts ends person) (16 * person) k ws₀ ws next e
    (d ∙ row_put people person slots ok few known ws (omega (
      arith,
      row-length (held_bit l starts ends person)
          (16 * person) k ws₀ ws e,
    )) k (value_of want) h
    ∙ ap (λ (v : ℕ). put_slot (16 * person) k v ws) mark)

-- ---- may this person cover this slot

module _ (slots : ℕ) (words : List ℕ) (people person slot no : ℕ) (e : no ≡ number_of (available_row people slots words person slot)) where
  pub available-refused : (no ≡ 0 → ⊥) → Err no ≡ is_available people slots words person slot
  unfolding is_available answer_as unless
  available-refused h =
      let z : eqb (number_of (available_row people slots words person slot)) 0 ≡ false = ne_eqb _ _ (λ q. h (e ∙ q)) in
      simp z (ap Err e)

  row-none : number_of (available_row people slots words person slot) ≡ 0 → row_refusal words people person slots ≡ 0
  unfolding available_row
  row-none z =
      let h = passed (available_row people slots words person slot) refl z in
      says_row words people person slots (h 0) (slot-count-says slots (h 1)).1 (leb-true _ _ (h 2)) (ltb-true _ _ (h 3))

  pub available-answered : no ≡ 0 → (r : Result Bool ℕ) → r ≡ answer_as (row_refusal words people person slots)
      (has (row_slots words person) slots slot)
      → r ≡ is_available people slots words person slot
  unfolding is_available
  available-answered h r d =
      d ∙ ap (λ (n : ℕ). answer_as n (has (row_slots words person) slots slot)) (row-none (sym e ∙ h) ∙ sym (sym e ∙ h))
