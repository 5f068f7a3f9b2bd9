-- Demand 1 of slot sets. Assumes nothing.
use mathlib.Core.Path.{◌≡◌, refl, ap₂, ◌∙◌}
use mathlib.Core.Bool.{true}
use mathlib.Core.List.{List}
use Prim.Native.Nat.{ℕ}
use lib.ListN.{length}
use Rattle.paper.specs.Limits.{Test, number_of}
use Rattle.paper.specs.Rows.{unless, answer_as, answer_refusal}
use Rattle.paper.proofs.Rows.{kept}
use Rattle.slotset.specs.declared.SlotSet.{SlotSet}
use Rattle.slotset.specs.Search.{next_with, last_below, next_set}
use Rattle.slotset.specs.Answers.{length_row, slot_row, stretch_row, sets_row, same_sets_row, person_row, person_stretch_row}
use Rattle.slotset.specs.Answers.{run_at, run_step, member_step}
use Rattle.slotset.specs.Answers.{changed_as, new_of, put_of, stretch_of, load_of, store_of, row_stretch_of, cleared_row}
use Rattle.slotset.proofs.Refusals.{answer-said}
use Rattle.runs.specs.Listed.{runs_row, column, runs_of, all_runs_of}
use Rattle.promises.specs.Table.{rules, Refuses}
use Rattle.promises.specs.SetRefusals.{SetsRefuse}
use Rattle.promises.proofs.Table.{rising, tests-give, given-as}

-- what is handed back by the number of a row
changed-refuses : (row : List Test) (s new : SlotSet) → rising 1 row ≡ true
    → Refuses (rules row) (changed_as (number_of row) s new).number s (changed_as (number_of row) s new).set
unfolding changed_as
changed-refuses row s new r = record { given = tests-give row r; kept = kept (number_of row) s new }

words-refuse : (row : List Test) (old new : List ℕ) → rising 1 row ≡ true
    → Refuses (rules row) (number_of row) old (unless (number_of row) old new)
words-refuse row old new r = record { given = tests-give row r; kept = kept (number_of row) old new }

all-runs-refuse : (ws : List ℕ) (people person len : ℕ) (firsts lasts : List ℕ)
    → let x = all_runs_of ws people person len firsts lasts in
    Refuses {A = List ℕ × List ℕ} (rules (runs_row ws people person len (length firsts) (length lasts))) (answer_refusal x.answer)
    (firsts, lasts) (x.firsts, x.lasts)
unfolding runs_row sets_row
all-runs-refuse ws people person len firsts lasts =
    let row = runs_row ws people person len (length firsts) (length lasts) in
    let l = runs_of ws person len in
    let e = answer-said (number_of row) (length l) in
    record {
      given = given-as row _ refl e;
      kept = λ h.
          ap₂ {C = List ℕ × List ℕ} (λ (a b : List ℕ). (a, b))
          (kept (number_of row) firsts (column (λ r. r.first) l 0 firsts) (λ z. h (e ∙ z)))
          (kept (number_of row) lasts (column (λ r. r.last) l 0 lasts) (λ z. h (e ∙ z)));
    }

pub sets-refuse : SetsRefuse
unfolding new_of put_of stretch_of load_of changed_as store_of row_stretch_of cleared_row answer_as unless
    length_row slot_row stretch_row sets_row same_sets_row person_row person_stretch_row
sets-refuse = record {
  lengths = λ len. tests-give (length_row len) refl;
  new = λ len. tests-give (length_row len) refl;
  put = λ v s i. changed-refuses (slot_row s.len i) s _ refl;
  stretch = λ v s a e. changed-refuses (stretch_row s.len a e) s _ refl;
  rows = λ ws people person len. tests-give (person_row ws people person len) refl;
  same-sets = λ ws vs people len. tests-give (same_sets_row ws vs people len) refl;
  load = λ ws people person len. tests-give (person_row ws people person len) refl;
  store = λ s ws people person. words-refuse (person_row ws people person s.len) ws _ refl;
  put-stretch = λ v ws people person len a e. words-refuse (person_stretch_row ws people person len a e) ws _ refl;
  clear = λ ws people person len. words-refuse (person_row ws people person len) ws _ refl;
  all_runs = all-runs-refuse;
  found-next = λ n v f len from. answer-said n (next_with v f len from);
  found-last = λ n v f len end. answer-said n (last_below v f len end);
  answered = λ n b. answer-said n b;
  number = λ n k. answer-said n k;
  run = λ n f len i. answer-said n (run_at f len i);
  next-run = λ n f len at. answer-said n (run_step f len (next_set f len at));
  next-member = λ n f len at. answer-said n (member_step (next_set f len at));
}
