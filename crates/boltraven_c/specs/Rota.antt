-- What an entry that changes a rota answers as one number, and what it leaves. Assumes nothing.
use Rattle.std.specs.Prelude.{◌≡◌, List, ℕ}
use Rattle.owners.specs.Derived.{Derived}
use Rattle.owners.specs.Entries.{Outcome}
use Rattle.boltraven_c.specs.Numbers.{refusal_number}

pub record EndedAs (y : Outcome) (r : ℕ) (o : List ℕ) (D : Derived) (x : List ℕ) : Type 0 where
  pub refusal : r ≡ refusal_number y.refusal
  pub owners : o ≡ y.owners
  pub derived : D ≡ y.derived
  pub answers : x ≡ y.answers
