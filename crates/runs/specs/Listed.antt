-- All runs of a person in two lent columns, the first slots and the last slots. Assumes nothing.
use Rattle.std.specs.Prelude.{List, [], ◌∷◌, ◌++◌, ℕ, ◌+◌, ltb, leb, length, set, Result}
use Rattle.paper.specs.Limits.{Test, test, number_of}
use Rattle.paper.specs.Rows.{unless, answer_as}
use Rattle.slotset.specs.Runs.{Ends, ends_of_runs}
use Rattle.slotset.specs.Answers.{sets_row, row_slots}

-- 1, 2 and 11 of a person's row, where 2 is also a column with room for fewer entries than slots
unfoldable pub runs_row : List ℕ → ℕ → ℕ → ℕ → ℕ → ℕ → List Test
runs_row ws people person len n m =
    sets_row ws people len ++ (test 2 (leb len n) ∷ test 2 (leb len m) ∷ test 11 (ltb person people) ∷ [])

-- l with one end of each run, in order, from entry n on
unfoldable pub column : (Ends → ℕ) → List Ends → ℕ → List ℕ → List ℕ
column end [] n l = l
column end (r ∷ rs) n l = column end rs (n + 1) (set l n (end r))

-- all runs of a person, ascending
abbrev pub runs_of : List ℕ → ℕ → ℕ → List Ends
runs_of ws person len = ends_of_runs (row_slots ws person) len

-- the whole outcome: what is answered, and the two columns at exit
pub record Outcome : Type 0 where
  pub answer : Result ℕ ℕ
  pub firsts : List ℕ
  pub lasts : List ℕ

-- how many runs there are, their first and their last slots in order, and the rest of each column as it was; refused, all of it as it was
abbrev pub all_runs_of : List ℕ → ℕ → ℕ → ℕ → List ℕ → List ℕ → Outcome
all_runs_of ws people person len fs ls =
    let n = number_of (runs_row ws people person len (length fs) (length ls)) in
    record {
      answer = answer_as n (length (runs_of ws person len));
      firsts = unless n fs (column (λ e. e.first) (runs_of ws person len) 0 fs);
      lasts = unless n ls (column (λ e. e.last) (runs_of ws person len) 0 ls);
    }
