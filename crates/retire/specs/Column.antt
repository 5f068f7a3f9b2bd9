-- A published column beside a rota that retires: it moves by the three numbers that retiring answers. Assumes nothing.
use Rattle.std.specs.Prelude.{List, [], ◌∷◌, ℕ, ◌-◌, leb, length}
use Rattle.paper.specs.Limits.{slot_count_ok, nobody, Test, test, number_of}
use Rattle.paper.specs.Rows.{unless}
use Rattle.retire.specs.Rolled.{rolled_column}

-- 1: slots before or now outside 1 to 1,024, more gone than there were, fewer now than are left; 2: fewer entries than slots before or now
unfoldable pub column_row : ℕ → ℕ → ℕ → List ℕ → List Test
column_row before gone count column =
    test 1 (slot_count_ok before) ∷ test 1 (slot_count_ok count) ∷ test 1 (leb gone before) ∷ test 1 (leb (before - gone) count)
    ∷ test 2 (leb before (length column)) ∷ test 2 (leb count (length column)) ∷ []

-- the column at exit: the rest to the front, nobody in new slots; refused, as it was
unfoldable pub retire_column : ℕ → ℕ → ℕ → List ℕ → List ℕ
retire_column before gone count column =
    unless (number_of (column_row before gone count column)) column (rolled_column gone (before - gone) count (λ _. nobody) column)
