-- Numbers in bytes, low byte first. Assumes nothing.
use Rattle.std.specs.Prelude.{ℕ, zero, suc, ◌+◌, ◌*◌, ◌%◌, ◌^◌, Bool, true, false, Result, Ok, Err, List, slice_index}

-- k further on, round the end of 64-bit numbers
abbrev pub further : ℕ → ℕ → ℕ
further at k = (at + k) % 2 ^ 64

-- the number of n bytes at an index; a byte past the end is 0
abbrev pub little_at : ℕ → List ℕ → ℕ → ℕ
little_at zero b at = 0
little_at (suc n) b at = little_at n b at + 256 ^ n * slice_index b (at + n)

-- four of them, from k places after the index
abbrev pub four_after : List ℕ → ℕ → ℕ → ℕ
four_after b at k = slice_index b (at + k) + 256 * slice_index b (at + (k + 1)) + 65536 * slice_index b (at + (k + 2)) + 16777216 * slice_index b (at + (k + 3))

-- an answer among stored numbers: a refusal is its number above a base; yes is 1, no 0
abbrev pub above : ℕ → Result ℕ ℕ → ℕ
above base (Ok x) = x
above base (Err n) = further base n

abbrev pub above_yes : ℕ → Result Bool ℕ → ℕ
above_yes base (Ok true) = 1
above_yes base (Ok false) = 0
above_yes base (Err n) = further base n
