-- A mended rota as numbers: how many repairs, or the refusal. Assumes nothing.
use Rattle.std.specs.Prelude.{◌≡◌, List, ℕ}
use Rattle.mend.specs.Repairs.{Rota}
use Rattle.mend.specs.Answers.{Outcome}
use Rattle.boltraven_c.specs.Numbers.{plain_number}

pub record MendEnds (y : Outcome) (r : ℕ) (R : Rota) (l : List ℕ) : Type 0 where
  pub number : r ≡ plain_number y.answer
  pub left : R ≡ y.rota
  pub list : l ≡ y.list
