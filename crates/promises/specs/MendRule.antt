-- A damaged rota mended: what is refused, what comes out, what the list tells, and that no more than needed is changed. The steps stand in
-- `mend/specs/Mended`, what a list tells in `mend/specs/Repairs`. Assumes nothing.
use Rattle.std.specs.Prelude.{◌≡◌, List, [], ◌∷◌, ℕ, ◌*◌, ◌^◌, ◌≤◌, ◌<◌, leb, length, get_or, replicate, Ok, Err}
use Rattle.paper.specs.Limits.{nobody, Test, number_of}
use Rattle.paper.specs.Count.{onto}
use Rattle.owners.specs.Derived.{Plan, plan, derived}
use Rattle.owners.specs.Entries.{recount_row}
use Rattle.mend.specs.Mended.{Keeps}
use Rattle.mend.specs.Repairs.{Rota, rota, Repair, Tells, applied, undone, numbers}
use Rattle.mend.specs.Answers.{Outcome, mended_rota, repairs_due, found_row, mending}
use Rattle.promises.specs.Marked.{words}
use Rattle.promises.specs.Table.{Rule, GivenBy}
use Rattle.promises.specs.Tests.{SlotsRight, UnitsRight}
use Rattle.promises.specs.Tables.{outside, short, broken}
use Rattle.promises.specs.RotaRules.{PassesRecount}

-- what is lent: slots, units, availability and flags; the rota as it was found; the list
pub record Damaged : Type 0 where
  pub plan : Plan
  pub avail : List ℕ
  pub units : ℕ
  pub begins : List ℕ
  pub frozen : List ℕ
  pub found : Rota
  pub list : List ℕ

abbrev pub mend_of : Damaged → Outcome
mend_of d = mending d.plan d.avail d.units d.begins d.frozen d.found d.list

abbrev pub lent_tests : Damaged → List Test
lent_tests d = found_row d.plan d.avail d.units d.begins d.frozen d.found

abbrev pub mended_of : Damaged → Rota → Rota
mended_of d R = mended_rota d.plan d.avail d.units d.begins R

abbrev pub due_of : Damaged → Rota → List Repair
due_of d R = repairs_due d.plan d.avail d.units d.begins d.frozen R

abbrev pub RightRota : Damaged → Rota → Type 0
RightRota d R = PassesRecount d.plan d.avail d.units d.begins R.owners R.derived

-- sets are lent in words of 64 bits
abbrev pub Words : Damaged → Type 0
Words d = (j : ℕ) → get_or d.found.derived.sets j 0 < 2 ^ 64

-- ---- 1, 2 and 9

abbrev pub mend_table : Damaged → List Rule
mend_table d =
    outside 1 32 d.plan.people ∷ outside 1 1024 d.plan.slots ∷ short d.plan.slots (length d.plan.starts)
    ∷ short d.plan.slots (length d.plan.ends) ∷ short (16 * d.plan.people) (length d.avail)
    ∷ short d.units (length d.begins) ∷ short 16 (length d.frozen) ∷ short d.plan.slots (length d.found.owners)
    ∷ short (16 * d.plan.people) (length d.found.derived.sets) ∷ short d.plan.people (length d.found.derived.minutes)
    ∷ short 2 (length d.found.derived.totals) ∷ broken 9 (SlotsRight d.plan.slots d.plan.starts d.plan.ends)
    ∷ broken 9 (UnitsRight d.plan.slots d.units d.begins) ∷ []

-- ---- a call: two slots 0-60 and 60-120 of one unit; one person, free for both; slot 0 frozen. Found: owners 7 0, the rest as for 0 0

abbrev pub seven_found : ℕ → Damaged
seven_found room = record {
  plan = plan 1 2 (0 ∷ 60 ∷ []) (60 ∷ 120 ∷ []);
  avail = words 3;
  units = 1;
  begins = 0 ∷ [];
  frozen = words 1;
  found = rota (7 ∷ 0 ∷ []) (derived (words 3) (120 ∷ []) (0 ∷ 0 ∷ []));
  list = replicate room 9;
}

pub record MendByRule : Type 0 where
  -- what is lent is refused by the table, in the words of the paper, and then nothing is changed, the list too
  pub by-table : (d : Damaged) → GivenBy (mend_table d) (number_of (lent_tests d))
  pub refused : (d : Damaged) → (number_of (lent_tests d) ≡ 0 → ⊥)
      → mend_of d ≡ record { answer = Err (number_of (lent_tests d)); rota = d.found; list = d.list }
  -- else 2 exactly where the list has no room for the repairs that come out, and again nothing is changed
  pub short-list : (d : Damaged) → number_of (lent_tests d) ≡ 0 → length d.list < 5 * length (due_of d d.found)
      → mend_of d ≡ record { answer = Err 2; rota = d.found; list = d.list }
  pub mends : (d : Damaged) → number_of (lent_tests d) ≡ 0 → 5 * length (due_of d d.found) ≤ length d.list
      → mend_of d ≡ record {
        answer = Ok (length (due_of d d.found));
        rota = mended_of d d.found;
        list = onto (numbers (due_of d d.found)) d.list;
      }
  -- the result passes the recount, units and totals too: by its statement, and by the entry's tests
  pub passes : (d : Damaged) → number_of (lent_tests d) ≡ 0 → RightRota d (mended_of d d.found)
  pub accepted : (d : Damaged) → number_of (lent_tests d) ≡ 0
      → let R = mended_of d d.found in
      number_of (recount_row (mathlib.Core.Bool.true) (leb d.units (length d.begins)) d.plan d.avail d.units d.begins
      R.owners R.derived)
      ≡ 0
  -- a rota that passed is unchanged, and its list is empty; and mending twice changes nothing more
  pub unchanged : (d : Damaged) → number_of (lent_tests d) ≡ 0 → Words d → RightRota d d.found
      → (mended_of d d.found ≡ d.found) × (due_of d d.found ≡ [])
  pub twice : (d : Damaged) → number_of (lent_tests d) ≡ 0 → Words d
      → let R = mended_of d d.found in (mended_of d R ≡ R) × (due_of d R ≡ [])
  -- the list is exactly what differs, each once, in order; applied to what was found it gives the result, undone what was found
  pub tells : (d : Damaged) → number_of (lent_tests d) ≡ 0
      → Tells d.plan.people d.plan.slots d.frozen d.found (mended_of d d.found) (due_of d d.found)
  pub applies : (d : Damaged) → number_of (lent_tests d) ≡ 0 → applied (due_of d d.found) d.found ≡ mended_of d d.found
  pub undoes : (d : Damaged) → number_of (lent_tests d) ≡ 0 → undone (due_of d d.found) (mended_of d d.found) ≡ d.found
  pub five-each : (rs : List Repair) → length (numbers rs) ≡ 5 * length rs
  -- the least: a slot keeps its owner exactly when that owner is known and available for it and every slot of its unit is left with the
  -- same
  -- one; else it is nobody's
  pub keeps : (d : Damaged) → number_of (lent_tests d) ≡ 0 → (k : ℕ) → k < d.plan.slots
      → Keeps d.plan d.avail d.units d.begins d.found.owners k
      → get_or (mended_of d d.found).owners k 0 ≡ get_or d.found.owners k 0
  pub keeps-only : (d : Damaged) → number_of (lent_tests d) ≡ 0 → (k : ℕ) → k < d.plan.slots → (get_or d.found.owners k 0 ≡ nobody → ⊥)
      → get_or (mended_of d d.found).owners k 0 ≡ get_or d.found.owners k 0
      → Keeps d.plan d.avail d.units d.begins d.found.owners k
  pub or-nobody : (d : Damaged) → number_of (lent_tests d) ≡ 0 → (k : ℕ) → k < d.plan.slots
      → (get_or (mended_of d d.found).owners k 0 ≡ get_or d.found.owners k 0 → ⊥) → get_or (mended_of d d.found).owners k 0 ≡ nobody
  -- it is not empty: six repairs, and with room for one number less 2
  pub example : mend_of (seven_found 30) ≡ record {
    answer = Ok 6;
    rota = rota (255 ∷ 255 ∷ []) (derived (words 0) (0 ∷ []) (120 ∷ 2 ∷ []));
    list = 0 ∷ 0 ∷ 7 ∷ 255 ∷ 1 ∷ 0 ∷ 1 ∷ 0 ∷ 255 ∷ 0 ∷ 1 ∷ 0 ∷ 3 ∷ 0 ∷ 0 ∷ 2 ∷ 0 ∷ 120 ∷ 0 ∷ 0 ∷ 3 ∷ 0 ∷ 0 ∷ 120 ∷ 0 ∷ 3 ∷ 1 ∷ 0 ∷ 2 ∷
        0 ∷ [];
  }
  pub one-short : mend_of (seven_found 29) ≡ record { answer = Err 2; rota = (seven_found 29).found; list = replicate 29 9 }
