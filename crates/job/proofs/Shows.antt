-- What a block's text and the line that ends a replay come to, refused or not. Assumes nothing.
use Rattle.std.specs.Prelude.{Ok, Err}
use mathlib.Core.Path.{◌≡◌, refl, sym, ap, ◌∙◌}
use mathlib.Core.List.{List, [], ◌∷◌, ◌++◌}
use Prim.Native.Nat.{ℕ, ◌+◌, ◌^◌, ◌≤◌, ◌<◌}
use native.Mathlib.Omega.{arith}
use borrow.Author.Tests.{leb-true}
use lib.Dec.{leb}
use lib.IntN.{ℤ, pos}
use lib.Signed.{mag}
use lib.ListN.{length, get_or, length-append}
use Rattle.paper.specs.declared.Refusal.{Refusal}
use Rattle.paper.specs.Limits.{Test, test}
use Rattle.paper.specs.Rows.{accepted, refusal_of, next, unless}
use Rattle.paper.proofs.Rows.{link, ends, checked, renamed, said, passed, worked, kept}
use Rattle.paper.proofs.Logic.{people-says, slot-count-says}
use Rattle.records.specs.Puts.{Wrote}
use Rattle.job.specs.declared.Ending.{Ending}
use Rattle.job.specs.Listing.{digits, head_text, lines, slot_at, person_at, listing_most}
use Rattle.job.specs.Outcome.{Outcome, refused_as, listed_as, Ends}
use Rattle.job.specs.Shown.{block_text, block_row, block_result, differ_line, last_line, last_row, last_result}
use Rattle.job.proofs.Texts.{head-length}
use Rattle.job.proofs.Lengths.{head-le, long-le, slot-le, person-le, most-le}

-- ---- a text by its row of tests

module _ (ts : List Test) (l x : List ℕ) (g : Refusal) (e : g ≡ refusal_of ts) where
  abbrev outcome : Outcome
  outcome = unless (refusal_of ts).number (refused_as (refusal_of ts) x) (listed_as l x)

  pub text-refused : (g.number ≡ 0 → ⊥) → Ends outcome (Err g) x
  unfolding refused_as
  text-refused n =
      let q = kept (refusal_of ts).number (refused_as (refusal_of ts) x) (listed_as l x) (λ z. n (ap (λ (h : Refusal). h.number) e ∙ z)) in
      record {
        said = ap Err e ∙ sym (ap (λ (y : Outcome). y.answer) q);
        left = sym (ap (λ (y : Outcome). y.out) q);
      }

  pub text-written : (r : ℕ) (y : List ℕ) → g.number ≡ 0 → Wrote l 0 x r y → Ends outcome (Ok r) y
  unfolding listed_as
  text-written r y z w =
      let q = worked (refusal_of ts).number (refused_as (refusal_of ts) x) (listed_as l x) (sym (ap (λ (h : Refusal). h.number) e) ∙ z) in
      let k : r ≡ length l = omega (arith, w.ends) in
      record {
        said = ap Ok k ∙ sym (ap (λ (v : Outcome). v.answer) q);
        left = w.text ∙ sym (ap (λ (v : Outcome). v.out) q);
      }

-- ---- the last line

pub differ-length : (block place : ℕ) → length (digits block) + length (digits place) + 4 ≡ length (differ_line block place)
unfolding differ_line
differ-length block place =
    omega (
      arith,
      length-append (head_text 88 block 32) (digits place ++ (10 ∷ [])),
      length-append (digits place) (10 ∷ []),
      head-length 88 block 32,
    )

module _ (end : Ending) (x : List ℕ) where
  pub last-asked : (size : ℕ) (a g : Refusal) → size ≡ length (last_line end) → a ≡ accepted → g ≡ next a (test 2 (leb size (length x)))
      → g ≡ refusal_of (last_row end (length x))
  unfolding last_row
  last-asked size a g e q h =
      checked (test 2 (leb (length (last_line end)) (length x)) ∷ []) refl q
      (link (renamed a 2 h (ap (λ (n : ℕ). leb n (length x)) e)) ends)

  module _ (g : Refusal) (e : g ≡ refusal_of (last_row end (length x))) where
    pub last-room : g.number ≡ 0 → length (last_line end) ≤ length x
    unfolding last_row
    last-room z = leb-true _ _ (passed (last_row end (length x)) refl (sym (said (last_row end (length x)) e) ∙ z) 0)

    pub last-refused : (g.number ≡ 0 → ⊥) → Ends (last_result end x) (Err g) x
    unfolding last_result
    last-refused n = text-refused (last_row end (length x)) (last_line end) x g e n

    pub last_written : (r : ℕ) (y : List ℕ) → g.number ≡ 0 → Wrote (last_line end) 0 x r y → Ends (last_result end x) (Ok r) y
    unfolding last_result
    last_written r y z w = text-written (last_row end (length x)) (last_line end) x g e r y z w

-- ---- the text of a block

-- each field is a value of its type
pub record Columns (people : ℕ) (S E O M : List ℕ) (T : List ℤ) : Type 0 where
  pub starts : (k : ℕ) → get_or S k 0 < 2 ^ 32
  pub ends : (k : ℕ) → get_or E k 0 < 2 ^ 32
  pub owners : (k : ℕ) → get_or O k 0 < 2 ^ 8
  pub minutes : (p : ℕ) → get_or M p 0 < 2 ^ 64
  pub targets : (p : ℕ) → p < people → mag (get_or T p (pos 0)) < 2 ^ 63

module _ (block people slots : ℕ) (starts ends' owners minutes : List ℕ) (targets : List ℤ) where
  abbrev text : List ℕ
  text = block_text block people slots starts ends' owners minutes targets

  -- 1,024 lines of 33 bytes, 32 of 47 and one of 23 are 35,319
  pub block-fits : block < 2 ^ 64 → people ≤ 32 → slots ≤ 1024 → Columns people starts ends' owners minutes targets
      → length text ≤ listing_most
  unfolding block_text slot_at person_at
  block-fits b few some F =
      let S = lines (slot_at starts ends' owners) slots in
      let P = lines (person_at minutes targets) people in
      omega (
        arith,
        length-append (head_text 66 block 10) (S ++ P),
        length-append S P,
        head-le 66 block 10 20 (long-le block b),
        most-le (slot_at starts ends' owners) 33 slots 1024 some
            (λ k h. slot-le k _ _ _ (omega arith) (F.starts k) (F.ends k) (F.owners k)),
        most-le (person_at minutes targets) 47 people 32 few
            (λ p h. person-le p _ _ (omega arith) (F.minutes p) (F.targets p h)),
      )

  module _ (x : List ℕ) (g : Refusal) (e : g ≡ refusal_of (block_row people slots starts ends' owners minutes targets (length x))) where
    abbrev row : List Test
    row = block_row people slots starts ends' owners minutes targets (length x)

    pub record Rooms : Type 0 where
      pub people-few : people ≤ 32
      pub slots-few : slots ≤ 1024
      pub starts-room : slots ≤ length starts
      pub ends-room : slots ≤ length ends'
      pub owners-room : slots ≤ length owners
      pub minutes-room : people ≤ length minutes
      pub targets-room : people ≤ length targets
      pub out-room : listing_most ≤ length x

    pub block-rooms : g.number ≡ 0 → Rooms
    unfolding block_row
    block-rooms z =
        let P = passed row refl (sym (said row e) ∙ z) in
        record {
          people-few = (people-says people (P 0)).1;
          slots-few = (slot-count-says slots (P 1)).1;
          starts-room = leb-true _ _ (P 2);
          ends-room = leb-true _ _ (P 3);
          owners-room = leb-true _ _ (P 4);
          minutes-room = leb-true _ _ (P 5);
          targets-room = leb-true _ _ (P 6);
          out-room = leb-true _ _ (P 7);
        }

    pub block_refused : (g.number ≡ 0 → ⊥)
        → Ends (block_result block people slots starts ends' owners minutes targets x) (Err g) x
    unfolding block_result
    block_refused n = text-refused row text x g e n

    pub block_written : (r : ℕ) (y : List ℕ) → g.number ≡ 0 → Wrote text 0 x r y
        → Ends (block_result block people slots starts ends' owners minutes targets x) (Ok r) y
    unfolding block_result
    block_written r y z w = text-written row text x g e r y z w
