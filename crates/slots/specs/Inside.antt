-- What the contracts of private functions go by, and nothing else does: no public contract and no promise cites this file. Assumes nothing.
use Rattle.std.specs.Prelude.{◌≡◌, Bool, true, false, ◌&&◌, ◌||◌, cond, List, [], ◌∷◌, ◌++◌, ℕ, zero, suc, ◌+◌, ◌-◌, ◌*◌, ◌/◌, ◌%◌, ◌≤◌, ◌<◌, max, leb, ltb, eqb, length, get_or, take, Option, Some, None}
use Rattle.paper.specs.Limits.{people_most, ranges_most, slots_most, last_minute}
use Rattle.paper.specs.Count.{all, over, FirstWhere}
use Rattle.slotset.specs.Slots.{value_of}
use Rattle.slots.specs.Lent.{prev_end}
use Rattle.slots.specs.Ranges.{Range, Ranges}
use Rattle.slots.specs.Merged.{merged_of}

-- p holds of some entry of a list
unfoldable pub any_of : (ℕ → Bool) → List ℕ → Bool
any_of p [] = false
any_of p (x ∷ l) = p x || any_of p l

-- ---- lent slots

-- one slot, the previous one's end given: not before it, not empty or reversed
unfoldable pub slot_fits : ℕ → ℕ → ℕ → Bool
slot_fits prev start end = leb prev start && ltb start end

-- of slot k
unfoldable pub slot_fits_at : List ℕ → List ℕ → ℕ → Bool
slot_fits_at starts ends k = slot_fits (prev_end ends k) (get_or starts k 0) (get_or ends k 0)

-- ---- a range as one number, so that numbers in order are ranges by person, then start, then end

unfoldable pub key_of : ℕ → ℕ → ℕ → ℕ
key_of person start end = (person * 268435456 + start) * 268435456 + end

unfoldable pub person_of : ℕ → ℕ
person_of x = x / 268435456 / 268435456

unfoldable pub start_of : ℕ → ℕ
start_of x = x / 268435456 % 268435456

unfoldable pub end_of : ℕ → ℕ
end_of x = x % 268435456

-- of a range, and of a list of them
abbrev pub packed : Range → ℕ
packed x = key_of x.person x.start x.end

unfoldable pub packed_all : List Range → List ℕ
packed_all [] = []
packed_all (x ∷ l) = packed x ∷ packed_all l

-- of the lent ranges
unfoldable pub key_at : Ranges → ℕ → ℕ
key_at R k = key_of (get_or R.persons k 0) (get_or R.starts k 0) (get_or R.ends k 0)

unfoldable pub keys_to : Ranges → ℕ → List ℕ
keys_to R zero = []
keys_to R (suc n) = keys_to R n ++ (key_at R n ∷ [])

unfoldable pub keys_of : Ranges → List ℕ
keys_of R = keys_to R R.count

-- ---- everybody's minutes on one line, person after person, far enough apart that no two people's ranges touch

-- where a range opens on that line, and where it closes
unfoldable pub opens : ℕ → ℕ
opens x = person_of x * 268435456 + start_of x

unfoldable pub closes : ℕ → ℕ
closes x = person_of x * 268435456 + end_of x

-- ascending from a place of the line on, no entry empty, and a gap after each: the next opens later than it closes
abbrev pub SpacedKeys : ℕ → List ℕ → Type 0
SpacedKeys from [] = Unit
SpacedKeys from (x ∷ l) = (from ≤ opens x) × (opens x < closes x) × SpacedKeys (suc (closes x)) l

-- what the checks, passed, leave known of lent ranges
pub record RangesSound (R : Ranges) : Type 0 where
  pub few : R.count ≤ ranges_most
  pub persons-room : R.count ≤ length R.persons
  pub starts-room : R.count ≤ length R.starts
  pub ends-room : R.count ≤ length R.ends
  pub known : (k : ℕ) → k < R.count → get_or R.persons k 0 < people_most
  pub ordered : (k : ℕ) → k < R.count → get_or R.starts k 0 ≤ get_or R.ends k 0
  pub capped : (k : ℕ) → k < R.count → get_or R.ends k 0 ≤ last_minute

-- ---- ranges as numbers in order, and one walk over them that merges

-- the first n entries never fall
abbrev pub SortedTo : ℕ → List ℕ → Type 0
SortedTo n l = (k j : ℕ) → k < j → j < n → get_or l k 0 ≤ get_or l j 0

-- the same entries, as far as any test can tell
abbrev pub SameEntries : List ℕ → List ℕ → Type 0
SameEntries k l = (p : ℕ → Bool) → any_of p k ≡ any_of p l

-- by person, then start, x doesn't come after y; their ends may be any
unfoldable pub not_after : Range → Range → Bool
not_after x y = ltb x.person y.person || (eqb x.person y.person && leb x.start y.start)

-- entry k opens no later than the next
unfoldable pub rises : List ℕ → ℕ → Bool
rises l k = leb (opens (get_or l k 0)) (opens (get_or l (suc k) 0))

-- numbers of ranges that are in order, by person, then start
unfoldable pub in_order : List ℕ → Bool
in_order l = all (length l - 1) (rises l)

-- the range z, which the range x touches, with the later of both ends
unfoldable pub extended : ℕ → ℕ → ℕ
extended z x = z / 268435456 * 268435456 + max (end_of z) (end_of x)

-- the range z put before a list, unless it is empty
unfoldable pub closed : ℕ → List ℕ → List ℕ
closed z l = cond (ltb (start_of z) (end_of z)) (z ∷ l) l

-- the walk over ranges in order, z being the one that is still open
unfoldable pub walk_on : ℕ → List ℕ → List ℕ
walk_on z [] = closed z []
walk_on z (x ∷ l) = cond (leb (opens x) (closes z)) (walk_on (extended z x) l) (closed z (walk_on x l))

-- the first n of these numbers are the merged ranges
pub record MergedFrom (R : Ranges) (keys : List ℕ) (n : ℕ) : Type 0 where
  pub fits : n ≤ length keys
  pub few : n ≤ R.count
  pub list : take n keys ≡ packed_all (merged_of R)

-- the columns after n numbers were taken apart into them
pub record TakenApart (n : ℕ) (keys p s e p' s' e' : List ℕ) : Type 0 where
  pub persons : p' ≡ over (λ k. person_of (get_or keys k 0)) n p
  pub starts : s' ≡ over (λ k. start_of (get_or keys k 0)) n s
  pub ends : e' ≡ over (λ k. end_of (get_or keys k 0)) n e

-- ---- searches

-- of n places with rising values the first r are at most the bound, and no others are
pub record Opening (n : ℕ) (f : ℕ → ℕ) (bound r : ℕ) : Type 0 where
  pub few : r ≤ n
  pub by : (k : ℕ) → k < r → f k ≤ bound
  pub after : (k : ℕ) → r ≤ k → k < n → bound < f k

-- ---- cuts and atomic slots

-- minute t is a start or an end of a merged range
unfoldable pub starts_or_ends : ℕ → ℕ → Bool
starts_or_ends t x = eqb (start_of x) t || eqb (end_of x) t

unfoldable pub key_cut : List ℕ → ℕ → Bool
key_cut merged t = any_of (starts_or_ends t) merged

-- a number of atomic slots, where there is room for them
unfoldable pub or_full : ℕ → Option ℕ
or_full n = cond (leb n slots_most) (Some n) None

-- r is the first cut strictly between two minutes, or the later of them
abbrev pub NextCut : (ℕ → Bool) → ℕ → ℕ → ℕ → Type 0
NextCut cut after end r = FirstWhere true cut (suc after) end r

-- what is known of the merged ranges where they are held, as the first n of these numbers
pub record HeldMerged (keys : List ℕ) (n : ℕ) : Type 0 where
  pub few : n ≤ 1024
  pub fits : n ≤ length keys
  pub spaced : SpacedKeys 0 (take n keys)
  pub known : (k : ℕ) → k < n → person_of (get_or keys k 0) < 32

-- a range opens or closes at that place of the line of everybody's minutes
unfoldable pub opens_or_closes : ℕ → ℕ → Bool
opens_or_closes q x = eqb (opens x) q || eqb (closes x) q

unfoldable pub is_edge : List ℕ → ℕ → Bool
is_edge merged q = any_of (opens_or_closes q) merged

-- a place after everybody's: 64 people's minutes on
abbrev pub line_end : ℕ
line_end = 17179869184

-- where the range of number r opens; past the last, the line's end
unfoldable pub opens_from : List ℕ → ℕ → ℕ → ℕ
opens_from keys n r = cond (ltb r n) (opens (get_or keys r 0)) line_end

-- r is the first edge past a place, or the line's end
abbrev pub NextEdge : List ℕ → ℕ → ℕ → Type 0
NextEdge merged place r = FirstWhere true (is_edge merged) (suc place) line_end r

-- t, where it lies strictly between two minutes; else the later of them
unfoldable pub nearer : ℕ → ℕ → ℕ → ℕ
nearer after best t = cond (ltb after t && ltb t best) t best

-- lists that grew from s and e by the pieces a and b, where these fit
pub record Grown (count : ℕ) (s e a b : List ℕ) (r : Option ℕ) (s' e' : List ℕ) : Type 0 where
  pub number : r ≡ or_full (count + length a)
  pub starts : count + length a ≤ slots_most → take (count + length a) s' ≡ take count s ++ a
  pub ends : count + length a ≤ slots_most → take (count + length a) e' ≡ take count e ++ b

-- ---- availability

-- the range x holds all places of the line from a up to b
unfoldable pub spans : ℕ → ℕ → ℕ → Bool
spans a b x = leb (opens x) a && leb b (closes x)

-- the last of the first r ranges closes at a place or past it
unfoldable pub reaches : List ℕ → ℕ → ℕ → Bool
reaches keys r place = ltb 0 r && leb place (closes (get_or keys (r - 1) 0))

-- one of the merged ranges holds the whole slot
unfoldable pub held_bit : List ℕ → List ℕ → List ℕ → ℕ → ℕ → ℕ
held_bit merged starts ends person k =
    value_of (any_of (spans (person * 268435456 + get_or starts k 0) (person * 268435456 + get_or ends k 0)) merged)
