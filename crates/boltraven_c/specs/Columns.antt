-- The length of a slot's part, beside the number that says which column it is of. Assumes nothing.
use Rattle.std.specs.Prelude.{List, ℕ, length}
use Rattle.paper.specs.Limits.{number_of}
use Rattle.paper.specs.Rows.{unless}
use Rattle.columns.specs.Parts.{stretch_row, stretch_of, owners_of}

-- as many slots as the part has owners; refused, what was lent for it stays
abbrev pub part_length : ℕ → ℕ → List ℕ → List ℕ → List ℕ → ℕ → ℕ
part_length was slots published draft frozen i =
    unless (number_of (stretch_row slots published draft frozen i)) was
    (length (owners_of (stretch_of slots published draft frozen i) published draft))
