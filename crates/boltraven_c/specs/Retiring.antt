-- Retiring as numbers: 0 with three counts, 65,536 where nothing would go, 131,072 where everything would, or the refusal. Assumes nothing.
use Rattle.std.specs.Prelude.{◌≡◌, ℕ, ◌+◌, ◌*◌, ◌%◌, Result, Ok, Err}
use Rattle.paper.specs.declared.Refusal.{Refusal}
use Rattle.retire.specs.declared.Retiring.{Retiring}
use Rattle.retire.specs.declared.Retiring.TheVariants as retiring
use Rattle.retire.specs.Outcome.{Columns, Outcome}
use Rattle.boltraven_c.specs.Numbers.{refusal_number}

-- three counts in one number
unfoldable pub three_numbers : ℕ → ℕ → ℕ → ℕ
three_numbers gone slots units = gone % 65536 + 65536 * (slots % 65536) + 4294967296 * (units % 65536)

abbrev pub retiring_number : Result Retiring Refusal → ℕ
retiring_number (Ok (retiring.Retired g s u)) = 0
retiring_number (Ok retiring.Nothing) = 65536
retiring_number (Ok retiring.Everything) = 131072
retiring_number (Err f) = refusal_number f

-- the counts beside it; where nothing is retired, what was lent for them stays
abbrev pub retiring_told : ℕ → Result Retiring Refusal → ℕ
retiring_told was (Ok (retiring.Retired g s u)) = three_numbers g s u
retiring_told was (Ok retiring.Nothing) = was
retiring_told was (Ok retiring.Everything) = was
retiring_told was (Err f) = was

-- the number, the columns and what is told, of an outcome
pub record RetiringEnds (y : Outcome) (was r : ℕ) (C : Columns) (n : ℕ) : Type 0 where
  pub number : r ≡ retiring_number y.answer
  pub left : C ≡ y.lent
  pub told : n ≡ retiring_told was y.answer
