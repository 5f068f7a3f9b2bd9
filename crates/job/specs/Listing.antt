-- The listing: decimal numbers, spaces and newlines, as bytes. Assumes nothing.
use Rattle.std.specs.Prelude.{cond, List, [], ◌∷◌, ◌++◌, ℕ, zero, suc, ◌+◌, ◌/◌, ◌%◌, ltb, eqb, ℤ, pos, negsuc, get_or}
use Rattle.paper.specs.Limits.{nobody}
use Rattle.paper.specs.declared.Refusal.{Refusal}

-- ---- numbers

-- the decimal digits of n, where they are not more than suc f
unfoldable pub decimal : ℕ → ℕ → List ℕ
decimal zero n = (48 + n) ∷ []
decimal (suc f) n = cond (ltb n 10) ((48 + n) ∷ []) (decimal f (n / 10) ++ ((48 + n % 10) ∷ []))

-- of a number of 64 bits
unfoldable pub digits : ℕ → List ℕ
digits n = decimal 19 n

-- a minus sign where it is negative
unfoldable pub signed : ℤ → List ℕ
signed (pos n) = digits n
signed (negsuc n) = 45 ∷ digits (suc n)

-- - for nobody
unfoldable pub owner_text : ℕ → List ℕ
owner_text w = cond (eqb w nobody) (45 ∷ []) (digits w)

-- A, N or C for the answers 0, 1 and 2
unfoldable pub answer_letter : ℕ → ℕ
answer_letter a = cond (eqb a 0) 65 (cond (eqb a 1) 78 67)

-- ---- lines

-- a letter, a space, a number and one byte more
unfoldable pub head_text : ℕ → ℕ → ℕ → List ℕ
head_text letter n last = letter ∷ (32 ∷ (digits n ++ (last ∷ [])))

-- S: slot, start, end, last owner
unfoldable pub slot_line : ℕ → ℕ → ℕ → ℕ → List ℕ
slot_line k start end owner =
    head_text 83 k 32 ++ (digits start ++ (32 ∷ []) ++ (digits end ++ (32 ∷ []) ++ (owner_text owner ++ (10 ∷ []))))

-- P: person, minutes, target
unfoldable pub person_line : ℕ → ℕ → ℤ → List ℕ
person_line p minutes target = head_text 80 p 32 ++ (digits minutes ++ (32 ∷ []) ++ (signed target ++ (10 ∷ [])))

-- D: draw, answer
unfoldable pub draw_line : ℕ → ℕ → List ℕ
draw_line d answer = head_text 68 d 32 ++ (answer_letter answer ∷ [] ++ (10 ∷ []))

-- U: uncovered minutes
unfoldable pub uncovered_line : ℕ → List ℕ
uncovered_line minutes = head_text 85 minutes 10

-- the place of a refusal's part; of a wrong set, which is part 4, two: the person and the slot
unfoldable pub place_text : ℕ → ℕ → ℕ → List ℕ
place_text part place second =
    cond (eqb part 4) (digits place ++ (32 ∷ []) ++ (digits second ++ (10 ∷ []))) (digits place ++ (10 ∷ []))

unfoldable pub part_text : ℕ → ℕ → ℕ → List ℕ
part_text part place second = digits part ++ (32 ∷ []) ++ place_text part place second

-- R: the number of a refusal, and where it names a part, a point, the part and its place
unfoldable pub refusal_line : Refusal → List ℕ
refusal_line f =
    cond (eqb f.part 0) (head_text 82 f.number 10)
    (head_text 82 f.number 46 ++ part_text f.part f.place f.second)

-- the lines of the numbers below n, in order
unfoldable pub lines : (ℕ → List ℕ) → ℕ → List ℕ
lines f zero = []
lines f (suc n) = lines f n ++ f n

-- what is listed: the slots with their last owners, the people's minutes and targets, the answers, the uncovered minutes
pub record Listed : Type 0 where
  pub slots : ℕ
  pub starts : List ℕ
  pub ends : List ℕ
  pub owners : List ℕ
  pub people : ℕ
  pub minutes : List ℕ
  pub targets : List ℤ
  pub draws : ℕ
  pub answers : List ℕ
  pub uncovered : ℕ

-- the line of slot k, of person p, of draw d
unfoldable pub slot_at : List ℕ → List ℕ → List ℕ → ℕ → List ℕ
slot_at starts ends owners k = slot_line k (get_or starts k 0) (get_or ends k 0) (get_or owners k 0)

unfoldable pub person_at : List ℕ → List ℤ → ℕ → List ℕ
person_at minutes targets p = person_line p (get_or minutes p 0) (get_or targets p (pos 0))

unfoldable pub draw_at : List ℕ → ℕ → List ℕ
draw_at answers d = draw_line d (get_or answers d 0)

abbrev pub listed : ℕ → List ℕ → List ℕ → List ℕ → ℕ → List ℕ → List ℤ → ℕ → List ℕ → ℕ → Listed
listed slots starts ends owners people minutes targets draws answers uncovered = record {
  slots = slots;
  starts = starts;
  ends = ends;
  owners = owners;
  people = people;
  minutes = minutes;
  targets = targets;
  draws = draws;
  answers = answers;
  uncovered = uncovered;
}

unfoldable pub listing_of : Listed → List ℕ
listing_of l =
    lines (slot_at l.starts l.ends l.owners) l.slots ++ (lines (person_at l.minutes l.targets) l.people
    ++ (lines (draw_at l.answers) l.draws ++ uncovered_line l.uncovered))

-- the room that 2 asks for: a round number above 44,535, all that the widths of the fields allow (`proofs.Lengths.listing-fits`)
abbrev pub listing_most : ℕ
listing_most = 65536
