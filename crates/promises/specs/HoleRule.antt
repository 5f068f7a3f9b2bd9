-- A set is its runs and its holes: what asking the lookup gives at the first slot, and then at the slot behind each stretch, is every slot
-- below the length, once. Assumes nothing.
use Rattle.std.specs.Prelude.{◌≡◌, List, [], ◌∷◌, ◌++◌, ℕ, zero, suc, ◌+◌, ◌-◌, Result, Ok, Err}
use Rattle.slotset.specs.declared.Run.{Run}
use Rattle.slotset.specs.declared.Run.TheVariants as run
use Rattle.slotset.specs.Runs.{Ends, ends_of_runs}
use Rattle.slotset.specs.Answers.{run_as}

-- a stretch, and what follows from the slot behind it
abbrev pub then_behind : Result Run ℕ → (ℕ → List Run) → List Run
then_behind (Ok (run.Span first last)) g = run.Span first last ∷ g (last + 1)
then_behind (Ok (run.Hole first last)) g = run.Hole first last ∷ g (last + 1)
then_behind (Ok run.Outside) g = []
then_behind (Err n) g = []

-- at most n stretches, from the one that holds the slot `at` on
unfoldable pub stretches : ℕ → (ℕ → ℕ) → ℕ → ℕ → List Run
stretches zero f len at = []
stretches (suc n) f len at = then_behind (run_as 0 f len at) (stretches n f len)

-- all of them: a set of len slots has at most len
abbrev pub all_stretches : (ℕ → ℕ) → ℕ → List Run
all_stretches f len = stretches len f len 0

-- the n slots from `at` on
unfoldable pub slots_from : ℕ → ℕ → List ℕ
slots_from at zero = []
slots_from at (suc n) = at ∷ slots_from (suc at) n

-- the slots of stretches, both ends in them, in their order
abbrev pub slots_in : List Run → List ℕ
slots_in [] = []
slots_in (run.Span first last ∷ l) = slots_from first (last + 1 - first) ++ slots_in l
slots_in (run.Hole first last ∷ l) = slots_from first (last + 1 - first) ++ slots_in l
slots_in (run.Outside ∷ l) = slots_in l

-- the runs among them, and the holes
abbrev pub runs_in : List Run → List Ends
runs_in [] = []
runs_in (run.Span first last ∷ l) = record { first = first; last = last } ∷ runs_in l
runs_in (run.Hole first last ∷ l) = runs_in l
runs_in (run.Outside ∷ l) = runs_in l

abbrev pub holes_in : List Run → List Ends
holes_in [] = []
holes_in (run.Span first last ∷ l) = holes_in l
holes_in (run.Hole first last ∷ l) = record { first = first; last = last } ∷ holes_in l
holes_in (run.Outside ∷ l) = holes_in l

-- the set of the slots that are not in it
abbrev pub unset : (ℕ → ℕ) → ℕ → ℕ
unset f k = 1 - f k

pub record RunsAndHoles (f : ℕ → ℕ) (len : ℕ) : Type 0 where
  -- together, in order, they are all slots below the length, each once
  pub slots : slots_in (all_stretches f len) ≡ slots_from 0 len
  -- the runs are those that the reader gives, and the holes those that it would give of what is unset
  pub runs : runs_in (all_stretches f len) ≡ ends_of_runs f len
  pub holes : holes_in (all_stretches f len) ≡ ends_of_runs (unset f) len
