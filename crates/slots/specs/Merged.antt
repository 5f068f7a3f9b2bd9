-- Merged ranges: each person's sorted, empty ones dropped, touching or overlapping ones merged; in person order. Assumes nothing.
use Rattle.std.specs.Prelude.{◌≡◌, Bool, true, false, ◌&&◌, ◌||◌, cond, List, [], ◌∷◌, ◌++◌, map, ℕ, zero, suc, ◌<◌, min, max, ltb, eqb, length, Result}
use Rattle.paper.specs.Limits.{people_ok, Test, test, number_of}
use Rattle.paper.specs.Rows.{unless, answer_as}
use Rattle.paper.specs.Count.{onto}
use Rattle.slots.specs.Ranges.{Range, Ranges, ranges, range_at, range_count_ok, range_room_ok, ranges_ok, covers}

-- minute t of the person lies in one of a list of ranges
unfoldable pub lies_in : List Range → ℕ → ℕ → Bool
lies_in [] person t = false
lies_in (x ∷ l) person t = covers person t x || lies_in l person t

-- x comes before y, with a gap: it is an earlier person's, or ends before y starts
unfoldable pub before : Range → Range → Bool
before x y = ltb x.person y.person || (eqb x.person y.person && ltb x.end y.start)

-- of two that touch or overlap, the range from the first start to the last end
unfoldable pub joined : Range → Range → Range
joined x y = record { person = x.person; start = min x.start y.start; end = max x.end y.end }

-- a range put into a merged list: before the first that it doesn't touch, or joined with each that it touches
unfoldable pub merge_in : Range → List Range → List Range
merge_in x [] = x ∷ []
merge_in x (y ∷ l) = cond (before x y) (x ∷ y ∷ l) (cond (before y x) (y ∷ merge_in x l) (merge_in (joined x y) l))

-- the ranges merged, empty ones dropped
unfoldable pub merge_all : List Range → List Range
merge_all [] = []
merge_all (x ∷ l) = cond (ltb x.start x.end) (merge_in x (merge_all l)) (merge_all l)

-- the first n of the lent ranges
unfoldable pub ranges_to : Ranges → ℕ → List Range
ranges_to R zero = []
ranges_to R (suc n) = ranges_to R n ++ (range_at R n ∷ [])

unfoldable pub merged_of : Ranges → List Range
merged_of R = merge_all (ranges_to R R.count)

-- the same, said of every minute: person by person ascending, with gaps, none empty, and exactly these minutes
abbrev pub Spaced : List Range → Type 0
Spaced [] = Unit
Spaced (x ∷ []) = x.start < x.end
Spaced (x ∷ y ∷ l) = (x.start < x.end) × (before x y ≡ true) × Spaced (y ∷ l)

pub record IsMerged (lies : ℕ → ℕ → Bool) (l : List Range) : Type 0 where
  pub spaced : Spaced l
  pub minutes : (person t : ℕ) → lies_in l person t ≡ lies person t

-- ---- the outcome

-- a list's three columns
abbrev pub persons_of : List Range → List ℕ
persons_of l = map (λ (x : Range). x.person) l

abbrev pub starts_of : List Range → List ℕ
starts_of l = map (λ (x : Range). x.start) l

abbrev pub ends_of : List Range → List ℕ
ends_of l = map (λ (x : Range). x.end) l

-- the columns that are written
pub record Columns : Type 0 where
  pub persons : List ℕ
  pub starts : List ℕ
  pub ends : List ℕ

abbrev pub columns : List ℕ → List ℕ → List ℕ → Columns
columns p s e = record { persons = p; starts = s; ends = e }

-- 1; 2: the lent columns, and those to write, which need room for as many entries; 4
unfoldable pub merged_row : ℕ → Ranges → Columns → List Test
merged_row people R out =
    test 1 (people_ok people) ∷ test 1 (range_count_ok R.count) ∷ test 2 (range_room_ok R)
    ∷ test 2 (range_room_ok (ranges R.count out.persons out.starts out.ends)) ∷ test 4 (ranges_ok people R) ∷ []

-- the whole outcome: what is answered, and the columns at exit
pub record MergedOut : Type 0 where
  pub answer : Result ℕ ℕ
  pub persons : List ℕ
  pub starts : List ℕ
  pub ends : List ℕ

unfoldable pub merged_ranges : ℕ → Ranges → Columns → MergedOut
merged_ranges people R out =
    let n = number_of (merged_row people R out) in
    let list = merged_of R in
    record {
      answer = answer_as n (length list);
      persons = unless n out.persons (onto (persons_of list) out.persons);
      starts = unless n out.starts (onto (starts_of list) out.starts);
      ends = unless n out.ends (onto (ends_of list) out.ends);
    }

-- what is answered and what is left in the lent columns are those of the outcome
pub record MergedEnd (x : MergedOut) (r : Result ℕ ℕ) (p s e : List ℕ) : Type 0 where
  pub said : r ≡ x.answer
  pub persons : p ≡ x.persons
  pub starts : s ≡ x.starts
  pub ends : e ≡ x.ends
