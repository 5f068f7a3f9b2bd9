-- Everybody's runs in lent columns: how many each person has, and the first and the last slot of each run. Assumes nothing.
use Rattle.std.specs.Prelude.{List, [], ◌∷◌, ◌++◌, ℕ, zero, suc, ◌+◌, ◌*◌, leb, length, set, Result}
use Rattle.paper.specs.Count.{over}
use Rattle.paper.specs.Limits.{Test, test, number_of}
use Rattle.paper.specs.Rows.{unless, answer_as}
use Rattle.slotset.specs.Runs.{Ends, ends_of_runs}
use Rattle.slotset.specs.Answers.{sets_row, row_slots}

-- 1 and 2 of everybody's sets, where 2 is also a column with room for fewer counts than people, or for fewer runs than people times slots
unfoldable pub every_run_row : List ℕ → ℕ → ℕ → ℕ → ℕ → ℕ → List Test
every_run_row ws people len k n m =
    sets_row ws people len ++ (test 2 (leb people k) ∷ test 2 (leb (people * len) n) ∷ test 2 (leb (people * len) m) ∷ [])

-- a person's runs, ascending; and those of the first people, person by person
abbrev pub person_runs : List ℕ → ℕ → ℕ → List Ends
person_runs ws len p = ends_of_runs (row_slots ws p) len

unfoldable pub every_run : List ℕ → ℕ → ℕ → List Ends
every_run ws len zero = []
every_run ws len (suc p) = every_run ws len p ++ person_runs ws len p

-- l with one end of each run, in order, from entry n on
unfoldable pub column : (Ends → ℕ) → List Ends → ℕ → List ℕ → List ℕ
column end [] n l = l
column end (r ∷ rs) n l = column end rs (n + 1) (set l n (end r))

-- the whole outcome: what is answered, and the three columns at exit
pub record Outcome : Type 0 where
  pub answer : Result ℕ ℕ
  pub counts : List ℕ
  pub firsts : List ℕ
  pub lasts : List ℕ

-- how many runs there are, how many each person has, their first and their last slots in order, and the rest of each column as it was;
-- refused, all of it as it was
abbrev pub every_run_of : List ℕ → ℕ → ℕ → List ℕ → List ℕ → List ℕ → Outcome
every_run_of ws people len cs fs ls =
    let n = number_of (every_run_row ws people len (length cs) (length fs) (length ls)) in
    record {
      answer = answer_as n (length (every_run ws len people));
      counts = unless n cs (over (λ p. length (person_runs ws len p)) people cs);
      firsts = unless n fs (column (λ e. e.first) (every_run ws len people) 0 fs);
      lasts = unless n ls (column (λ e. e.last) (every_run ws len people) 0 ls);
    }
