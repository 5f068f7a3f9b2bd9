-- A store's answers beside a number. Assumes nothing.
use Rattle.std.specs.Prelude.{ℕ, ◌+◌, Result, Ok, Err}
use Rattle.units.specs.declared.Settings.{Settings}
use Rattle.store.specs.declared.Saved.{Saved}
use Rattle.store.specs.declared.Asked.{Asked}
use Rattle.store.specs.declared.Asked.TheVariants as asked

-- the number of the record saved and the used length with it, beside the number of the refusal (`answer_refusal`); refused, what was lent stays
abbrev pub saved_number : ℕ → Result Saved ℕ → ℕ
saved_number was (Ok saved) = saved.number
saved_number was (Err n) = was

abbrev pub saved_used : ℕ → Result Saved ℕ → ℕ
saved_used was (Ok saved) = saved.used
saved_used was (Err n) = was

-- the settings asked for are 0, the six figures beside it; a newer record is 1; otherwise what was lent for the figures stays
abbrev pub asked_number : Result Asked ℕ → ℕ
asked_number (Ok (asked.Is s)) = 0
asked_number (Ok asked.Newer) = 1
asked_number (Err n) = 65536 + n

abbrev pub asked_figure : (Settings → ℕ) → ℕ → Result Asked ℕ → ℕ
asked_figure figure was (Ok (asked.Is s)) = figure s
asked_figure figure was (Ok asked.Newer) = was
asked_figure figure was (Err n) = was
