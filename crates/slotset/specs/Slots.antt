-- Slots in words: slot i of a set is bit i mod 64 of word i div 64. The set's words stand in a list from word b on. Assumes nothing.
use Rattle.std.specs.Prelude.{◌≡◌, Bool, true, false, ◌&&◌, List, ℕ, zero, suc, ◌+◌, ◌-◌, ◌*◌, ◌/◌, ◌%◌, ◌^◌, ◌<◌, eqb, ltb, get_or, set}
use Rattle.paper.specs.Bits.{bit_of}
use Rattle.paper.specs.Count.{all, sum}

-- slot i: 0 or 1
unfoldable pub slot : List ℕ → ℕ → ℕ → ℕ
slot ws b i = bit_of (get_or ws (b + i / 64) 0) (i % 64)

-- the word w with bit k at v
unfoldable pub with_bit : ℕ → ℕ → ℕ → ℕ
with_bit v w k = w - bit_of w k * 2 ^ k + v * 2 ^ k

-- the words with slot i at v
unfoldable pub put_slot : ℕ → ℕ → ℕ → List ℕ → List ℕ
put_slot b i v ws = set ws (b + i / 64) (with_bit v (get_or ws (b + i / 64) 0) (i % 64))

-- the words with each of the n slots from `from` on at the value that g gives it
unfoldable pub put_slots : (ℕ → ℕ) → ℕ → ℕ → ℕ → List ℕ → List ℕ
put_slots g b from zero ws = ws
put_slots g b from (suc n) ws = put_slot b (from + n) (g (from + n)) (put_slots g b from n ws)

-- the bit that is wanted
abbrev pub value_of : Bool → ℕ
value_of true = 1
value_of false = 0

-- ---- a set is its slots, as a function f from an index to 0 or 1, and a length

-- a slot is 0 or 1
abbrev pub Bits : (ℕ → ℕ) → Type 0
Bits f = (k : ℕ) → f k < 2

-- i is in the set
abbrev pub Member : (ℕ → ℕ) → ℕ → ℕ → Type 0
Member f len i = (i < len) × (f i ≡ 1)

-- the same as a test
unfoldable pub has : (ℕ → ℕ) → ℕ → ℕ → Bool
has f len i = ltb i len && eqb (f i) 1

-- how many members the set has
unfoldable pub size : (ℕ → ℕ) → ℕ → ℕ
size f len = sum len f

-- it has none
unfoldable pub has_no_member : (ℕ → ℕ) → ℕ → Bool
has_no_member f len = all len (λ k. eqb (f k) 0)

-- two sets of len slots have the same members
unfoldable pub same_slots : (ℕ → ℕ) → (ℕ → ℕ) → ℕ → Bool
same_slots f g len = all len (λ k. eqb (f k) (g k))
