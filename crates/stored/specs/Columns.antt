-- Columns of numbers: read from bytes, and compared. Assumes nothing.
use Rattle.std.specs.Prelude.{ℕ, ◌*◌, ◌/◌, ◌%◌, min, Bool, cond, ◌&&◌, List, length, take, ◌==◌, slice_index}
use Rattle.paper.specs.Count.{all, all_in, over}
use Rattle.stored.specs.Numbers.{further, little_at}

-- the number of w bytes that stands j numbers after the index; the byte that stands j bytes after it
abbrev pub number_after : ℕ → List ℕ → ℕ → ℕ → ℕ
number_after w b at j = little_at w b (further at (w * j))

abbrev pub byte_after : List ℕ → ℕ → ℕ → ℕ
byte_after b at j = slice_index b (further at j)

-- the column with each entry j set to that number, or to that byte
abbrev pub filled : ℕ → List ℕ → ℕ → List ℕ → List ℕ
filled w b at out = over (number_after w b at) (length out) out

abbrev pub bytes_filled : List ℕ → ℕ → List ℕ → List ℕ
bytes_filled b at out = over (byte_after b at) (length out) out

-- word j of rows of 16 words: the first of each row stands j / 16 words after the index, the others are garbage, always the same
abbrev pub row_word : List ℕ → ℕ → ℕ → ℕ
row_word b at j = cond (j % 16 == 0) (little_at 8 b (further at (8 * (j / 16)))) 11936128518282651045

abbrev pub rows_filled : List ℕ → ℕ → List ℕ → List ℕ
rows_filled b at out = over (row_word b at) (length out) out

-- as many entries, and each the same
abbrev pub alike : List ℕ → List ℕ → ℕ → Bool
alike a b j = slice_index a j == slice_index b j

abbrev pub same : List ℕ → List ℕ → Bool
same a b = length a == length b && all (length a) (alike a b)

-- the first n entries, or all where there are fewer
abbrev pub front : ℕ → List ℕ → List ℕ
front n l = take (min n (length l)) l

-- each byte from an index on is the one that the buffer was filled with
abbrev pub unwritten : List ℕ → ℕ → ℕ → Bool
unwritten out from fill = all_in from (length out) (λ j. slice_index out j == fill)
