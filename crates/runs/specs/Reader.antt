-- A reader of a person's runs: how it is made, what it gives next, and where it stands then. Assumes nothing.
use Rattle.std.specs.Prelude.{List, ℕ, Option, Some, None, Result, Ok, Err}
use Rattle.std.specs.Borrow.{Bor}
use Rattle.slotset.specs.declared.NextRun.{NextRun}
use Rattle.slotset.specs.Answers.{row_next_run}
use Rattle.runs.specs.declared.Runs.{Runs}

-- where a cursor stands after an answer: one past the run given, else where it stood
abbrev pub cursor_after : Result (Option NextRun) ℕ → ℕ → ℕ
cursor_after (Ok (Some r)) at = r.next.at
cursor_after (Ok None) at = at
cursor_after (Err n) at = at

-- a reader at the beginning of a person's words
abbrev pub reader_of : Bor (List ℕ) → ℕ → ℕ → ℕ → Runs
reader_of words people person len = record { people = people; len = len; words = words; person = person; at = 0 }

-- the same reader at another place
abbrev pub moved_to : Runs → ℕ → Runs
moved_to d at = record { people = d.people; len = d.len; words = d.words; person = d.person; at = at }

-- what a reader gives next: that of the cursor by value, at what the reader holds
abbrev pub next_of : Runs → Result (Option NextRun) ℕ
next_of d = row_next_run d.words.now d.people d.person d.len d.at
