-- A component, by what its entries answer: anything of these types may be judged by the promises. The one that is built answers by the
-- definitions that the contracts cite. Assumes nothing.
use Rattle.std.specs.Prelude.{Bool, List, ℕ, ℤ, Result, Option}
use Rattle.paper.specs.Count.{onto}
use Rattle.slotset.specs.declared.SlotSet.{SlotSet}
use Rattle.slotset.specs.declared.Run.{Run}
use Rattle.slotset.specs.declared.NextRun.{NextRun}
use Rattle.slotset.specs.Answers.{next_set_is, prev_set_is, run_bounds_is, count_is, next_run_is}
use Rattle.runs.specs.Listed as runs
use Rattle.slots.specs.Ranges.{Ranges}
use Rattle.slots.specs.Atomic.{Base, Atoms, atomise_of}
use Rattle.slots.specs.Availability.{availability_of, is_available}
use Rattle.units.specs.declared.Settings.{Settings}
use Rattle.units.specs.Answers.{Written}
use Rattle.units.specs.Starts.{rotation_starts_is, unit_starts_is}
use Rattle.units.specs.Domains.{slot_domain_is, unit_domain_is, unit_domains_is}
use Rattle.targets.specs.Outcome as targets
use Rattle.rota.specs.Board.{Board}
use Rattle.rota.specs.Lent.{board_of}
use Rattle.rota.specs.Moves.{Draw}
use Rattle.rota.specs.Plays.{draws_of, owners_after, answers}
use Rattle.paper.specs.Limits.{Test, number_of}
use Rattle.paper.specs.Rows.{accepted}
use Rattle.owners.specs.Derived.{Plan, Derived, afresh}
use Rattle.owners.specs.Entries as state
use Rattle.rota.specs.Entries as rota
use Rattle.rota.specs.declared.draws.Draw as struct
use Rattle.rota.specs.Draws.{draws, firsts, seconds, played_draws}

-- ---- a call of play

-- a call of play: what is lent to be read, the draws' three columns, then what is lent to be written
pub record Call : Type 0 where
  pub plan : Plan
  pub avail : List ℕ
  pub units : ℕ
  pub begins : List ℕ
  pub frozen : List ℕ
  pub count : ℕ
  pub draws : List ℕ
  pub firsts : List ℕ
  pub seconds : List ℕ
  pub owners : List ℕ
  pub derived : Derived
  pub answers : List ℕ

-- whether its columns have enough draws, its tests, the number that it gives, and its whole outcome
abbrev pub enough_in : Call → Bool
enough_in c = rota.columns_enough c.count c.draws c.firsts c.seconds

abbrev pub row_of : Call → List Test
row_of c =
    rota.play_row c.plan c.avail c.units c.begins c.frozen c.count (enough_in c) c.owners c.derived c.answers

abbrev pub no_of : Call → ℕ
no_of c = number_of (row_of c)

abbrev pub play_of : Call → state.Outcome
play_of c =
    rota.played c.plan c.avail c.units c.begins c.frozen c.count c.draws c.firsts c.seconds
    c.owners c.derived
    c.answers

-- the board that it is played on, its draws as a list, and the owners that the rules give
abbrev pub board_in : Call → Board
board_in c = board_of c.plan.people c.plan.slots c.units c.avail c.begins c.frozen

abbrev pub draws_in : Call → List Draw
draws_in c = draws_of c.draws c.firsts c.seconds c.count

abbrev pub owners_in : Call → List ℕ
owners_in c = owners_after (board_in c) c.owners (draws_in c)

-- the same call, with other draws
abbrev pub with_draws : Call → ℕ → List ℕ → List ℕ → List ℕ → Call
with_draws c count draws firsts seconds = record {
  plan = c.plan;
  avail = c.avail;
  units = c.units;
  begins = c.begins;
  frozen = c.frozen;
  count = count;
  draws = draws;
  firsts = firsts;
  seconds = seconds;
  owners = c.owners;
  derived = c.derived;
  answers = c.answers;
}

-- the same call, on another rota and another list of answers
abbrev pub on_rota : Call → List ℕ → Derived → List ℕ → Call
on_rota c owners derived answers = record {
  plan = c.plan;
  avail = c.avail;
  units = c.units;
  begins = c.begins;
  frozen = c.frozen;
  count = c.count;
  draws = c.draws;
  firsts = c.firsts;
  seconds = c.seconds;
  owners = owners;
  derived = derived;
  answers = answers;
}

-- the same call, of a list of draws in structs: its three columns
abbrev pub of_draws : Call → List struct.Draw → Call
of_draws c ds = with_draws c c.count (draws ds) (firsts ds) (seconds ds)

-- what it comes to by the entry that takes the list
abbrev pub play_draws_of : Call → List struct.Draw → state.Outcome
play_draws_of c ds =
    played_draws c.plan c.avail c.units c.begins c.frozen c.count ds c.owners c.derived c.answers

-- the rota that the rules give, worked out afresh, with an answer a draw
abbrev pub afresh_in : Call → state.Outcome
afresh_in c = record {
  refusal = accepted;
  owners = owners_in c;
  derived = afresh c.plan (owners_in c) c.derived;
  answers = onto (answers (board_in c) c.owners (draws_in c)) c.answers;
}

-- ---- a component

pub record Component : Type 0 where
  -- of a set: the next and the previous member, the run that holds a slot, the size
  pub next : SlotSet → ℕ → Result (Option ℕ) ℕ
  pub prev : SlotSet → ℕ → Result (Option ℕ) ℕ
  pub run : SlotSet → ℕ → Result Run ℕ
  pub size : SlotSet → Result ℕ ℕ
  -- its next run from a place on; all runs of a person, of words, people, person, length and the two columns to write
  pub next_run : SlotSet → ℕ → Result (Option NextRun) ℕ
  pub all_runs : List ℕ → ℕ → ℕ → ℕ → List ℕ → List ℕ → runs.Outcome
  -- atomic slots; the words of availability at exit, of people, slots, starts, ends, ranges and words; one of its bits
  pub atomise : Base → Atoms
  pub availability : ℕ → ℕ → List ℕ → List ℕ → Ranges → List ℕ → List ℕ
  pub available : ℕ → ℕ → List ℕ → ℕ → ℕ → Result Bool ℕ
  -- targets; the starts of rotations, of settings, slots, starts, ends and the list to write
  pub targets : targets.Given → List ℤ → targets.Outcome
  pub rotations : Settings → ℕ → List ℕ → List ℕ → List ℕ → Written
  -- the starts of units, as those of rotations; domains, of availability, people, slots, the units where they are asked for, which slot or
  -- unit, and the list to write; of all units, the masks at exit
  pub unit_starts : Settings → ℕ → List ℕ → List ℕ → List ℕ → Written
  pub slot_domain : List ℕ → ℕ → ℕ → ℕ → List ℕ → Written
  pub unit_domain : List ℕ → ℕ → ℕ → ℕ → List ℕ → ℕ → List ℕ → Written
  pub unit_domains : List ℕ → ℕ → ℕ → ℕ → List ℕ → List ℕ → List ℕ
  -- a play; the uncovered minutes of owners
  pub play : Call → state.Outcome
  pub uncovered : Plan → List ℕ → Result ℕ ℕ

abbrev pub built : Component
built = record {
  next = next_set_is;
  prev = prev_set_is;
  run = run_bounds_is;
  size = count_is;
  next_run = next_run_is;
  all_runs = runs.all_runs_of;
  atomise = atomise_of;
  availability = availability_of;
  available = is_available;
  targets = targets.compute_targets;
  rotations = rotation_starts_is;
  unit_starts = unit_starts_is;
  slot_domain = slot_domain_is;
  unit_domain = unit_domain_is;
  unit_domains = unit_domains_is;
  play = play_of;
  uncovered = state.uncovered_is;
}
