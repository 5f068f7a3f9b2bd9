-- How long a listing can be, by the widths of its fields alone: a u32 has ten digits, a u64 twenty, an i64 twenty bytes with its sign, a u8
-- three. Assumes nothing.
use mathlib.Core.Path.{ap}
use mathlib.Core.List.{List, [], ◌∷◌, ◌++◌}
use Prim.Native.Nat.{ℕ, zero, suc, ◌+◌, ◌*◌, ◌^◌, ◌≤◌, ◌<◌}
use native.Mathlib.Nat.{suc-mul, mul-le-mul_right}
use native.Mathlib.Omega.{arith}
use borrow.Author.Tests.{eqb-true, eqb-false}
use lib.Dec.{eqb}
use lib.IntN.{ℤ, pos, negsuc}
use lib.Signed.{mag}
use lib.ListN.{length, get_or, length-append}
use Rattle.paper.proofs.Logic.{by-test}
use Rattle.job.specs.Listing.{digits, signed, owner_text, head_text, slot_line, person_line, draw_line, uncovered_line, lines}
use Rattle.job.specs.Listing.{slot_at, person_at, draw_at, Listed, listing_of, listing_most}
use Rattle.job.proofs.Texts.{digits_le, owner-none, owner-some, head-length}

-- ---- fields

pub head-le : (letter n last k : ℕ) → length (digits n) ≤ k → length (head_text letter n last) ≤ 3 + k
head-le letter n last k h = omega (arith, head-length letter n last)

then-le : (l : List ℕ) (last k : ℕ) → length l ≤ k → length (l ++ (last ∷ [])) ≤ k + 1
then-le l last k h = omega (arith, length-append l (last ∷ []))

both-le : (l m : List ℕ) (j k : ℕ) → length l ≤ j → length m ≤ k → length (l ++ m) ≤ j + k
both-le l m j k g h = omega (arith, length-append l m)

pub long-le : (n : ℕ) → n < 2 ^ 64 → length (digits n) ≤ 20
long-le n h = digits_le 19 n (omega arith) (omega arith)

owner-le : (w : ℕ) → w < 2 ^ 8 → length (owner_text w) ≤ 3
owner-le w h =
    by-test (eqb w 255) _
    (λ t. omega (arith, ap length (owner-none w (eqb-true w 255 t))))
    (λ f. omega (arith, ap length (owner-some w (eqb-false w 255 f)), digits_le 2 w (omega arith) (omega arith)))

signed_le : (z : ℤ) → mag z < 2 ^ 63 → length (signed z) ≤ 20
unfolding signed
signed_le (pos n) h = omega (arith, digits_le 18 n (omega arith) (omega arith))
signed_le (negsuc n) h = omega (arith, digits_le 18 (suc n) (omega arith) (omega arith))

-- ---- lines

pub slot-le : (k start end owner : ℕ) → k < 1024 → start < 2 ^ 32 → end < 2 ^ 32 → owner < 2 ^ 8 → length (slot_line k start end owner) ≤ 33
unfolding slot_line
slot-le k start end owner a b c d =
    let ten : (n : ℕ) → n < 2 ^ 32 → length (digits n) ≤ 10 = λ n h. digits_le 9 n (omega arith) (omega arith) in
    both-le (head_text 83 k 32) _ 7 26 (head-le 83 k 32 4 (digits_le 3 k (omega arith) (omega arith)))
    (both-le (digits start ++ (32 ∷ [])) _ 11 15 (then-le (digits start) 32 10 (ten start b))
    (both-le (digits end ++ (32 ∷ [])) _ 11 4 (then-le (digits end) 32 10 (ten end c)) (then-le (owner_text owner) 10 3 (owner-le owner d))))

pub person-le : (p minutes : ℕ) (target : ℤ) → p < 32 → minutes < 2 ^ 64 → mag target < 2 ^ 63
    → length (person_line p minutes target) ≤ 47
unfolding person_line
person-le p minutes target a b c =
    both-le (head_text 80 p 32) _ 5 42 (head-le 80 p 32 2 (digits_le 1 p (omega arith) (omega arith)))
    (both-le (digits minutes ++ (32 ∷ [])) _ 21 21 (then-le (digits minutes) 32 20 (long-le minutes b))
    (then-le (signed target) 10 20 (signed_le target c)))

draw-le : (d answer : ℕ) → d < 1024 → length (draw_line d answer) ≤ 9
unfolding draw_line
draw-le d answer a =
    both-le (head_text 68 d 32) _ 7 2 (head-le 68 d 32 4 (digits_le 3 d (omega arith) (omega arith))) (omega arith)

-- n lines of b bytes at most
lines-le : (f : ℕ → List ℕ) (b n : ℕ) → ((k : ℕ) → k < n → length (f k) ≤ b) → length (lines f n) ≤ n * b
unfolding lines
lines-le f b zero h = omega arith
lines-le f b (suc n) h =
    omega (
      arith,
      lines-le f b n (λ k l. h k (omega arith)),
      h n (omega arith),
      length-append (lines f n) (f n),
      suc-mul n b,
    )

-- as many lines as there may be
pub most-le : (f : ℕ → List ℕ) (b n m : ℕ) → n ≤ m → ((k : ℕ) → k < n → length (f k) ≤ b) → length (lines f n) ≤ m * b
most-le f b n m g h = omega (arith, lines-le f b n h, mul-le-mul_right b g)

-- ---- the listing

-- each field is a value of its type, and no list is longer than the paper's limits
pub record Fields (l : Listed) : Type 0 where
  pub slots-few : l.slots ≤ 1024
  pub people-few : l.people ≤ 32
  pub draws-few : l.draws ≤ 1024
  pub starts : (k : ℕ) → k < l.slots → get_or l.starts k 0 < 2 ^ 32
  pub ends : (k : ℕ) → k < l.slots → get_or l.ends k 0 < 2 ^ 32
  pub owners : (k : ℕ) → k < l.slots → get_or l.owners k 0 < 2 ^ 8
  pub minutes : (p : ℕ) → p < l.people → get_or l.minutes p 0 < 2 ^ 64
  pub targets : (p : ℕ) → p < l.people → mag (get_or l.targets p (pos 0)) < 2 ^ 63
  pub uncovered : l.uncovered < 2 ^ 64

-- 1,024 lines of 33 bytes, 32 of 47, 1,024 of 9 and one of 23 are 44,535
pub listing-fits : (l : Listed) → Fields l → length (listing_of l) ≤ listing_most
unfolding listing_of slot_at person_at draw_at uncovered_line
listing-fits l F =
    let S = lines (slot_at l.starts l.ends l.owners) l.slots in
    let P = lines (person_at l.minutes l.targets) l.people in
    let D = lines (draw_at l.answers) l.draws in
    let U = head_text 85 l.uncovered 10 in
    omega (
      arith,
      length-append S (P ++ (D ++ U)),
      length-append P (D ++ U),
      length-append D U,
      most-le (slot_at l.starts l.ends l.owners) 33 l.slots 1024 F.slots-few
          (λ k h. slot-le k _ _ _ (omega (arith, h, F.slots-few)) (F.starts k h) (F.ends k h) (F.owners k h)),
      most-le (person_at l.minutes l.targets) 47 l.people 32 F.people-few
          (λ p h. person-le p _ _ (omega (arith, h, F.people-few)) (F.minutes p h) (F.targets p h)),
      most-le (draw_at l.answers) 9 l.draws 1024 F.draws-few (λ d h. draw-le d _ (omega (arith, h, F.draws-few))),
      head-le 85 l.uncovered 10 20 (long-le l.uncovered F.uncovered),
    )
