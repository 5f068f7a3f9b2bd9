-- The table of what a caller is answered, as one entry judges it. Assumes nothing.
use Rattle.std.specs.Prelude.{◌≡◌, false, List, [], ◌∷◌, ◌⊎◌, ◌↔◌, ℕ, ◌<◌}
use Rattle.paper.specs.Limits.{Test}

-- ---- the table

-- a rule of it: the number, and what it says
pub record Rule : Type 1 where
  pub number : ℕ
  pub Says : Type 0

-- number m applies: a rule with it says so
abbrev pub Applies : List Rule → ℕ → Type 0
Applies [] m = ⊥
Applies (r ∷ t) m = ((r.number ≡ m) × r.Says) ⊎ Applies t m

-- a number is given exactly when its rule says so and no lower one does; 0 stands for none and is given exactly when no rule says so
pub record GivenBy (t : List Rule) (n : ℕ) : Type 0 where
  pub given : (m : ℕ) → 0 < m → (n ≡ m) ↔ (Applies t m × ((k : ℕ) → k < m → Applies t k → ⊥))
  pub none : (n ≡ 0) ↔ ((m : ℕ) → Applies t m → ⊥)

-- the rules that tests decide: a test's number is due where it does not pass
abbrev pub rules : List Test → List Rule
rules [] = []
rules (r ∷ t) = record { number = r.number; Says = r.passes ≡ false } ∷ rules t

-- an entry that reads alone: by the table
abbrev pub GivenByTests : List Test → ℕ → Type 0
GivenByTests t n = GivenBy (rules t) n

-- an entry that is lent something to write: by the table, and refused it is as it was
pub record Refuses {A : Type 0} (t : List Rule) (n : ℕ) (entry exit : A) : Type 0 where
  pub given : GivenBy t n
  pub kept : (n ≡ 0 → ⊥) → exit ≡ entry
