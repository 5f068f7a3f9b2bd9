-- What publishing makes of the published column, and what the list screen shows. Assumes nothing.
use Rattle.std.specs.Prelude.{cond, List, [], ◌∷◌, ◌++◌, ℕ, leb, length, get_or}
use Rattle.paper.specs.Limits.{Test, test, number_of}
use Rattle.paper.specs.Rows.{unless}
use Rattle.paper.specs.Count.{over}
use Rattle.columns.specs.Parts.{columns_row, is_frozen}

-- the owner of slot k that a manager reads: as published where it is frozen, else as in the draft
unfoldable pub owner_read : List ℕ → List ℕ → List ℕ → ℕ → ℕ
owner_read published draft frozen k = cond (is_frozen frozen k) (get_or published k 0) (get_or draft k 0)

-- the published column at exit; refused, as it was
unfoldable pub publish_of : ℕ → List ℕ → List ℕ → List ℕ → List ℕ
publish_of slots draft frozen published =
    unless (number_of (columns_row slots published draft frozen)) published (over (owner_read published draft frozen) slots published)

-- the list screen, 2 also: a list with room for fewer entries than slots
unfoldable pub show_row : ℕ → List ℕ → List ℕ → List ℕ → List ℕ → List Test
show_row slots published draft frozen shown = columns_row slots published draft frozen ++ (test 2 (leb slots (length shown)) ∷ [])

-- the list at exit: each slot's owner as it is read; refused, as it was
unfoldable pub show_of : ℕ → List ℕ → List ℕ → List ℕ → List ℕ → List ℕ
show_of slots published draft frozen shown =
    unless (number_of (show_row slots published draft frozen shown)) shown (over (owner_read published draft frozen) slots shown)
