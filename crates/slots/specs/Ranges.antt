-- Ranges: a count, and three columns with each range's person, start and end. A minute t lies in a range when start ≤ t < end.
-- Assumes nothing.
use Rattle.std.specs.Prelude.{Bool, ◌&&◌, List, ℕ, leb, ltb, eqb, length, get_or}
use Rattle.paper.specs.Limits.{ranges_most, last_minute}
use Rattle.paper.specs.Count.{all, all_in, some}

-- one range: whose it is, and its minutes from start up to end, without end
pub record Range : Type 0 where
  pub person : ℕ
  pub start : ℕ
  pub end : ℕ

-- the lent ranges
pub record Ranges : Type 0 where
  pub count : ℕ
  pub persons : List ℕ
  pub starts : List ℕ
  pub ends : List ℕ

abbrev pub ranges : ℕ → List ℕ → List ℕ → List ℕ → Ranges
ranges n p s e = record { count = n; persons = p; starts = s; ends = e }

-- range k of them
abbrev pub range_at : Ranges → ℕ → Range
range_at R k = record { person = get_or R.persons k 0; start = get_or R.starts k 0; end = get_or R.ends k 0 }

-- rule 1
unfoldable pub range_count_ok : ℕ → Bool
range_count_ok n = leb n ranges_most

-- rule 2
unfoldable pub range_room_ok : Ranges → Bool
range_room_ok R = leb R.count (length R.persons) && (leb R.count (length R.starts) && leb R.count (length R.ends))

-- rule 4: not reversed, not past the last minute, of a known person
unfoldable pub range_ok : ℕ → ℕ → ℕ → ℕ → Bool
range_ok people person start end = leb start end && (leb end last_minute && ltb person people)

unfoldable pub range_ok_at : ℕ → Ranges → ℕ → Bool
range_ok_at people R k = range_ok people (get_or R.persons k 0) (get_or R.starts k 0) (get_or R.ends k 0)

unfoldable pub ranges_ok : ℕ → Ranges → Bool
ranges_ok people R = range_room_ok R && all R.count (range_ok_at people R)

-- the range is the person's and minute t lies in it
unfoldable pub covers : ℕ → ℕ → Range → Bool
covers person t x = eqb x.person person && (leb x.start t && ltb t x.end)

-- minute t lies in one of the person's ranges
unfoldable pub in_ranges : Ranges → ℕ → ℕ → Bool
in_ranges R person t = some R.count (λ k. covers person t (range_at R k))

-- available for a slot: each of its minutes lies in one of the person's ranges
unfoldable pub available : Ranges → ℕ → ℕ → ℕ → Bool
available R person start end = all_in start end (in_ranges R person)
