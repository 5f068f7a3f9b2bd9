-- The verdict on a rota made elsewhere as a number, with its slot beside it. Assumes nothing.
use Rattle.std.specs.Prelude.{ℕ, ◌+◌, Result, Ok, Err}
use Rattle.usable.specs.declared.Verdict.{Verdict}
use Rattle.usable.specs.declared.Verdict.TheVariants as verdict

-- usable is 0, a broken rule its number, 1 to 5
abbrev pub verdict_number : Result Verdict ℕ → ℕ
verdict_number (Ok verdict.Usable) = 0
verdict_number (Ok (verdict.Broken rule at)) = rule
verdict_number (Err n) = 65536 + n

-- the slot at which it shows; where no rule is broken, what was lent for it stays
abbrev pub verdict_slot : ℕ → Result Verdict ℕ → ℕ
verdict_slot was (Ok verdict.Usable) = was
verdict_slot was (Ok (verdict.Broken rule at)) = at
verdict_slot was (Err n) = was
