-- What only contracts of private functions cite: columns and flags that were judged. Assumes nothing.
use Rattle.std.specs.Prelude.{◌≡◌, List, ℕ, ◌≤◌, length, Option, Result, Ok, Err}
use Rattle.columns.specs.Parts.{found_or}

-- nothing stands against them
pub record Sound (slots : ℕ) (published draft frozen : List ℕ) : Type 0 where
  pub few : slots ≤ 1024
  pub same : length published ≡ length draft
  pub room : slots ≤ length published
  pub flags : 16 ≤ length frozen

-- the slot that a row answered, else the count
abbrev pub answered_or : ℕ → Result (Option ℕ) ℕ → ℕ
answered_or slots (Ok x) = found_or slots x
answered_or slots (Err n) = slots
