-- Merged ranges handed out: the columns written, and the outcome. Assumes nothing.
use Rattle.std.specs.Prelude.{Ok, Err}
use mathlib.Core.Path.{◌≡◌, refl, sym, ap, ap₂, ◌∙◌}
use mathlib.Core.Bool.{true, false}
use mathlib.Core.Logic.{⊎_elim}
use mathlib.Core.List.{List, ◌++◌}
use Prim.Native.Nat.{ℕ, ◌+◌, ◌-◌, ◌≤◌, ◌<◌}
use native.Mathlib.Omega.{arith}
use borrow.Author.Tests.{lt-ltb, ltb-true, eq-eqb, eqb-true, ne_eqb}
use lib.Dec.{leb, ltb, eqb}
use lib.ListN.{length, get_or, take, drop, set, length-append, length-drop, length-map, get_or-append}
use lib.Seq.{length-take-le, get_or-take, ext_get_or, get_or-append-add, get_or-drop}
use Rattle.paper.specs.Limits.{number_of}
use Rattle.paper.specs.Rows.{unless, answer_as}
use Rattle.paper.specs.Count.{over, onto}
use Rattle.paper.proofs.Logic.{three, lt-or-ge}
use Rattle.paper.proofs.Rows.{passed}
use Rattle.paper.proofs.Count.{over-more, length_over, get_d_over, get_d-over-out, some_one}
use Rattle.slots.specs.Ranges.{range_at, Ranges, ranges, covers, in_ranges}
use Rattle.slots.specs.Merged.{merged_of, persons_of, starts_of, ends_of, Columns, merged_row, merged_ranges, MergedEnd}
use Rattle.slots.specs.Inside.{person_of, start_of, end_of, opens, closes, packed_all, RangesSound, MergedFrom, TakenApart}
use Rattle.slots.proofs.Keys.{key_covers, merged_keys}
use Rattle.slots.proofs.Entries.{any_here}
use Rattle.slots.proofs.Keys.{empty-line, says-covers}
use Rattle.slots.proofs.Packed.{small-merged, merged-packed, length-packed, Unpacked, unpacked}
use Rattle.slots.proofs.Merging.{spaced-filled}
use Rattle.slots.proofs.RangeLaws.{ranges-sound, range-room-says, merged-is}

-- ---- an entry of the merged list is a known person's

own-minute : (x : ℕ) → opens x < closes x → key_covers (person_of x) (start_of x) x ≡ true
own-minute x h =
    says-covers (person_of x) (start_of x) x refl (omega arith)
    (ltb-true (start_of x) (end_of x) (empty-line x ∙ lt-ltb (opens x) (closes x) h))

pub merged-below : (R : Ranges) → RangesSound R → (most : ℕ) → ((j : ℕ) → j < R.count → get_or R.persons j 0 < most)
    → (k : ℕ) → k < length (merged_keys R) → person_of (get_or (merged_keys R) k 0) < most
unfolding in_ranges covers
merged-below R S most known k h =
    let M = merged-is R S in
    let x = get_or (merged_keys R) k 0 in
    let c = own-minute x (spaced-filled 0 (merged_keys R) M.spaced k h) in
    let e = sym (M.minutes (person_of x) (start_of x)) ∙ any_here (key_covers (person_of x) (start_of x)) (merged_keys R) k h c in
    some_one R.count (λ k. covers (person_of x) (start_of x) (range_at R k)) _ e
    (λ j l t.
    let w = three (eqb (get_or R.persons j 0) (person_of x)) (leb (get_or R.starts j 0) (start_of x)) (ltb (start_of x) (get_or
    R.ends j 0)) t in
    omega (arith, eqb-true (get_or R.persons j 0) (person_of x) w.0, known j l))

pub merged-known : (R : Ranges) → RangesSound R → (k : ℕ) → k < length (merged_keys R) → person_of (get_or (merged_keys R) k 0) < 32
merged-known R S = merged-below R S 32 S.known

-- entries written one by one are a list at the front of a column
pub over-onto : (f : ℕ → ℕ) (a column : List ℕ) (n : ℕ) → length a ≡ n → ((k : ℕ) → k < n → f k ≡ get_or a k 0) → n ≤ length column
    → over f n column ≡ onto a column
unfolding onto
over-onto f a column n m same r =
    ext_get_or 0 (over f n column) (a ++ drop (length a) column)
    (length_over f n column ∙ sym (length-append a (drop (length a) column) ∙ omega (arith, length-drop (length a) column)))
    (λ i _.
    ⊎_elim
    (λ (b : i < n).
    get_d_over f n column i b (omega arith) ∙ same i b ∙ sym (get_or-append a (drop (length a) column) 0 i (omega arith)))
    (λ (b : n ≤ i).
    let q : length a + (i - length a) ≡ i = omega arith in
    get_d-over-out f n column i b
    ∙ sym (ap (λ (j : ℕ). get_or (a ++ drop (length a) column) j 0) (sym q)
    ∙ get_or-append-add a (drop (length a) column) (i - length a) 0
    ∙ get_or-drop (length a) column (i - length a) 0
    ∙ ap (λ (j : ℕ). get_or column j 0) q))
    (lt-or-ge i n))

-- the first n entries of another list, copied over a column's
pub front-onto : (l a column : List ℕ) (n : ℕ) → take n l ≡ a → n ≤ length l → take n l ++ drop n column ≡ onto a column
unfolding onto
front-onto l a column n e h = ap₂ (λ (w : List ℕ) (i : ℕ). w ++ drop i column) e (sym (length-take-le n l h) ∙ ap length e)

-- ---- the list as the code holds it

module _ (R : Ranges) (S : RangesSound R) (keys : List ℕ) (n : ℕ) (M : MergedFrom R keys n) where
  pub held-list : take n keys ≡ merged_keys R
  held-list = M.list ∙ merged-packed R S

  pub held-length : length (merged_of R) ≡ n
  held-length = sym (length-packed (merged_of R)) ∙ ap length (sym M.list) ∙ length-take-le n keys M.fits

  held-unpacked : (k : ℕ) → k < n → Unpacked (merged_of R) k
  held-unpacked k h = unpacked (merged_of R) (small-merged R S) k (omega (arith, held-length))

  held_at : (k : ℕ) → k < n → get_or keys k 0 ≡ get_or (packed_all (merged_of R)) k 0
  held_at k h = sym (get_or-take n keys k 0 h) ∙ ap (λ (l : List ℕ). get_or l k 0) M.list

  pub held-known : (k : ℕ) → k < n → person_of (get_or keys k 0) < 32
  held-known k h =
      let q : length (merged_keys R) ≡ n = ap length (sym held-list) ∙ length-take-le n keys M.fits in
      let e : get_or keys k 0 ≡ get_or (merged_keys R) k 0 = sym (get_or-take n keys k 0 h) ∙ ap (λ (l : List ℕ). get_or l k 0) held-list in
      omega (arith, ap person_of e, merged-known R S k (omega arith))

  -- the columns that it is taken apart into
  pub held-persons : (column : List ℕ) → n ≤ length column
      → over (λ k. person_of (get_or keys k 0)) n column ≡ onto (persons_of (merged_of R)) column
  held-persons column r =
      over-onto _ _ column n (length-map (merged_of R) _ ∙ held-length) (λ k h. ap person_of (held_at k h) ∙ (held-unpacked k h).person) r

  pub held-starts : (column : List ℕ) → n ≤ length column
      → over (λ k. start_of (get_or keys k 0)) n column ≡ onto (starts_of (merged_of R)) column
  held-starts column r =
      over-onto _ _ column n (length-map (merged_of R) _ ∙ held-length) (λ k h. ap start_of (held_at k h) ∙ (held-unpacked k h).start) r

  pub held-ends : (column : List ℕ) → n ≤ length column
      → over (λ k. end_of (get_or keys k 0)) n column ≡ onto (ends_of (merged_of R)) column
  held-ends column r =
      over-onto _ _ column n (length-map (merged_of R) _ ∙ held-length) (λ k h. ap end_of (held_at k h) ∙ (held-unpacked k h).end) r

-- ---- the outcome

pub merged-says : (people : ℕ) (R : Ranges) (out : Columns) → number_of (merged_row people R out) ≡ 0
    → RangesSound R × (R.count ≤ length out.persons) × (R.count ≤ length out.starts) × (R.count ≤ length out.ends)
unfolding merged_row
merged-says people R out e =
    let h = passed (merged_row people R out) refl e in
    let w = range-room-says (ranges R.count out.persons out.starts out.ends) (h 3) in
    (ranges-sound people R (h 0) (h 1) (h 4), w.0, w.1, w.2)

module _ (people : ℕ) (R : Ranges) (out : Columns) (no : ℕ) (e : no ≡ number_of (merged_row people R out)) where
  pub merged-refused : (no ≡ 0 → ⊥)
      → MergedEnd (merged_ranges people R out) (Err no) out.persons out.starts out.ends
  unfolding merged_ranges answer_as unless
  merged-refused h =
      let z : eqb (number_of (merged_row people R out)) 0 ≡ false = ne_eqb _ _ (λ q. h (e ∙ q)) in
      record { said = simp z (ap Err e); persons = simp z; starts = simp z; ends = simp z }

  pub merged-done : no ≡ 0 → (keys : List ℕ) (n : ℕ) → MergedFrom R keys n → (p s f : List ℕ)
      → TakenApart n keys out.persons out.starts out.ends p s f → MergedEnd (merged_ranges people R out) (Ok n) p s f
  unfolding merged_ranges answer_as unless
  merged-done h keys n M p s f T =
      let z : eqb (number_of (merged_row people R out)) 0 ≡ true = eq-eqb _ _ (sym e ∙ h) in
      let w = merged-says people R out (sym e ∙ h) in
      let S = w.0 in
      let few = M.few in
      record {
        said = simp z (ap Ok (sym (held-length R S keys n M)));
        persons = simp z (T.persons ∙ held-persons R S keys n M out.persons (omega (arith, w.1)));
        starts = simp z (T.starts ∙ held-starts R S keys n M out.starts (omega (arith, w.2)));
        ends = simp z (T.ends ∙ held-ends R S keys n M out.ends (omega (arith, w.3)));
      }

-- ---- one entry more in a column

pub column-more : (f : ℕ → ℕ) (i x : ℕ) (old now : List ℕ) → now ≡ over f i old → x ≡ f i → set now i x ≡ over f (i + 1) old
column-more f i x old now e d = ap₂ (λ (l : List ℕ) (y : ℕ). set l i y) e d ∙ sym (over-more f i old)

-- what taking the list apart asks
pub merged-work : (people : ℕ) (R : Ranges) (out : Columns) → number_of (merged_row people R out) ≡ 0
    → (keys : List ℕ) (n : ℕ) → MergedFrom R keys n
    → ((n ≤ 1024) × (n ≤ length keys) × ((k : ℕ) → k < n → person_of (get_or keys k 0) < 32))
    × ((n ≤ length out.persons) × (n ≤ length out.starts) × (n ≤ length out.ends))
merged-work people R out e keys n M =
    let x = merged-says people R out e in
    let few : n ≤ R.count = M.few in (
      (omega (arith, x.0.few), M.fits, held-known R x.0 keys n M),
      (omega (arith, x.1), omega (arith, x.2), omega (arith, x.3)),
    )
