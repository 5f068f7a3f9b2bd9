-- A way back as numbers: 0 with how many draws were written, 65,536 with the unit in the way, or the refusal. Assumes nothing.
use Rattle.std.specs.Prelude.{◌≡◌, List, ℕ, Result, Ok, Err}
use Rattle.paper.specs.declared.Refusal.{Refusal}
use Rattle.wayback.specs.declared.Way.{Way}
use Rattle.wayback.specs.declared.Way.TheVariants as way
use Rattle.wayback.specs.Answers.{Outcome}
use Rattle.boltraven_c.specs.Numbers.{refusal_number}

abbrev pub way_number : Result Way Refusal → ℕ
way_number (Ok (way.Draws n)) = 0
way_number (Ok (way.NoWay u)) = 65536
way_number (Err f) = refusal_number f

-- how many draws, or the unit, beside it; refused, what was lent for it stays
abbrev pub way_told : ℕ → Result Way Refusal → ℕ
way_told was (Ok (way.Draws n)) = n
way_told was (Ok (way.NoWay u)) = u
way_told was (Err f) = was

-- the number, the columns and what is told, of an outcome
pub record WayEnds (y : Outcome) (was r : ℕ) (ks fs ss : List ℕ) (n : ℕ) : Type 0 where
  pub number : r ≡ way_number y.answer
  pub draws : ks ≡ y.draws
  pub firsts : fs ≡ y.firsts
  pub seconds : ss ≡ y.seconds
  pub told : n ≡ way_told was y.answer
