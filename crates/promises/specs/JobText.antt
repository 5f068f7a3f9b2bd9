-- The listing as text: lines of words, letter by letter and field by field; and the line of a refusal. Assumes nothing.
use Rattle.std.specs.Prelude.{◌≡◌, cond, List, [], ◌∷◌, ◌++◌, ◌↔◌, ℕ, zero, suc, ◌^◌, ◌≤◌, ◌<◌, eqb, ℤ, pos, nat_abs, length, get_or, take, drop}
use Rattle.paper.specs.declared.Refusal.{Refusal}
use Rattle.owners.specs.Entries.{placeless}
use Rattle.job.specs.File.{JobFile}
use Rattle.job.specs.Listing.{Listed, digits, signed}
use Rattle.job.specs.Digits.{Decimal, read_digits, read_signed}
use Rattle.job.specs.Outcome.{job_refusal, job_length, job_result, refusal_result}
use Rattle.promises.specs.JobFields.{given_by, owners_by, listed_from}

-- ---- lines of words

-- "one newline a line": a line is its words with a space between them and a newline at its end; a text is its lines
unfoldable pub line_of : List (List ℕ) → List ℕ
line_of [] = 10 ∷ []
line_of (w ∷ []) = w ++ (10 ∷ [])
line_of (w ∷ (v ∷ ws)) = w ++ (32 ∷ line_of (v ∷ ws))

unfoldable pub text_of : List (List (List ℕ)) → List ℕ
text_of [] = []
text_of (l ∷ ls) = line_of l ++ text_of ls

-- f of each number below n, in order
unfoldable pub each : {A : Type 0} → (ℕ → A) → ℕ → List A
each f zero = []
each f (suc n) = each f n ++ (f n ∷ [])

-- ---- the words: S is 83, P 80, D 68, U 85, R 82; A, N and C are 65, 78 and 67; "nobody is -", 45

-- "S: start, end, last owner", after the slot's number
abbrev pub owner_word : ℕ → List ℕ
owner_word w = cond (eqb w 255) (45 ∷ []) (digits w)

abbrev pub slot_words : Listed → ℕ → List (List ℕ)
slot_words L k =
    (83 ∷ []) ∷ digits k ∷ digits (get_or L.starts k 0) ∷ digits (get_or L.ends k 0) ∷ owner_word (get_or L.owners k 0) ∷ []

-- "P: minutes, target", after the person's
abbrev pub person_words : Listed → ℕ → List (List ℕ)
person_words L p = (80 ∷ []) ∷ digits p ∷ digits (get_or L.minutes p 0) ∷ signed (get_or L.targets p (pos 0)) ∷ []

-- "D: A, N or C", after the draw's: 0 acted, 1 no move, 2 choice outside
abbrev pub answer_word : ℕ → List ℕ
answer_word a = cond (eqb a 0) (65 ∷ []) (cond (eqb a 1) (78 ∷ []) (67 ∷ []))

abbrev pub draw_words : Listed → ℕ → List (List ℕ)
draw_words L d = (68 ∷ []) ∷ digits d ∷ answer_word (get_or L.answers d 0) ∷ []

abbrev pub uncovered_words : Listed → List (List ℕ)
uncovered_words L = (85 ∷ []) ∷ digits L.uncovered ∷ []

abbrev pub lines_of : Listed → List (List (List ℕ))
lines_of L =
    each (slot_words L) L.slots ++ (each (person_words L) L.people ++ (each (draw_words L) L.draws ++ (uncovered_words L ∷ [])))

-- "a refusal writes one line, as `R 3`"; one that names a part writes it after a point, 46, and then its place, as `R 10.3 7`; a wrong
-- set, part 4, has two
abbrev pub place_words : Refusal → List (List ℕ)
place_words f = cond (eqb f.part 4) (digits f.place ∷ digits f.second ∷ []) (digits f.place ∷ [])

abbrev pub refusal_words : Refusal → List (List ℕ)
refusal_words f =
    (82 ∷ []) ∷ cond (eqb f.part 0) (digits f.number ∷ []) ((digits f.number ++ (46 ∷ digits f.part)) ∷ place_words f)

abbrev pub refusal_text : Refusal → List ℕ
refusal_text f = line_of (refusal_words f)

-- ---- the promise

pub record JobText : Type 0 where
  -- what an accepted job leaves at the front of the lent buffer is the text of the lines that its records give; past it the buffer stays
  pub listing : (s x : List ℕ) (J : JobFile s) → (job_refusal (job_result s x).answer).number ≡ 0
      → let n = job_length 0 (job_result s x).answer in
      (take n (job_result s x).out ≡ text_of (lines_of (listed_from (given_by J.records) (owners_by J.records))))
      × (drop n (job_result s x).out ≡ drop n x)
  -- the digits of a number are decimal, with no 0 before another one, and have it as their value; a target below 0 has a minus sign first
  pub digits : (n : ℕ) → n < 10 ^ 20 → Decimal (digits n) × (read_digits (digits n) ≡ n)
  pub signed : (z : ℤ) → nat_abs z < 10 ^ 20 → read_signed (signed z) ≡ z
  -- the line of a refusal: 2 exactly where the buffer is shorter than the line, and then it stays; else the line stands at its front
  pub refusal : (f : Refusal) (x : List ℕ) → ((job_refusal (refusal_result f x).answer).number ≡ 0) ↔ (length (refusal_text f) ≤ length x)
  pub refusal-2 : (f : Refusal) (x : List ℕ) → ((job_refusal (refusal_result f x).answer).number ≡ 0 → ⊥)
      → (job_refusal (refusal_result f x).answer ≡ placeless 2) × ((refusal_result f x).out ≡ x)
  pub refusal-line : (f : Refusal) (x : List ℕ) → (job_refusal (refusal_result f x).answer).number ≡ 0
      → let l = job_length 0 (refusal_result f x).answer in
      (take l (refusal_result f x).out ≡ refusal_text f) × (drop l (refusal_result f x).out ≡ drop l x)
