-- No promise of an accepted call is empty: of each entry that can refuse, a call that is accepted. One person, available for the one slot
-- from minute 0 to 60, which is a unit; the rota, its plays and its recount on two such slots. run_job has one of its own. Assumes nothing.
use Rattle.std.specs.Prelude.{◌≡◌, true, List, [], ◌∷◌, ℕ, leb, pos, length, replicate}
use Rattle.paper.specs.Limits.{number_of}
use Rattle.slotset.specs.Answers.{length_row, person_row, person_stretch_row, same_sets_row, new_of, put_of, stretch_of, load_of}
use Rattle.paper.specs.Rows.{answer_refusal}
use Rattle.runs.specs.Listed.{all_runs_of}
use Rattle.slots.specs.Lent.{demand_is, slot_minutes_is}
use Rattle.slots.specs.Ranges.{Ranges, ranges}
use Rattle.slots.specs.Merged.{columns, merged_ranges}
use Rattle.slots.specs.Atomic.{atomise_of}
use Rattle.slots.specs.Availability.{availability_row, is_available}
use Rattle.slots.specs.Freeze.{freeze_of}
use Rattle.units.specs.declared.Settings.{Settings}
use Rattle.units.specs.Answers.{unit_count_is, unit_slots_is, unit_of_slot_is}
use Rattle.units.specs.Starts.{rotation_starts_is, unit_starts_is}
use Rattle.units.specs.Days.{covered_days_is, minutes_per_day_is, target_run_is}
use Rattle.units.specs.Domains.{unit_frozen_is, slot_domain_is, unit_domain_is, unit_domains_row}
use Rattle.units.specs.Achievable.{achievable_run_is, achievable_runs_row}
use Rattle.targets.specs.Outcome.{given, compute_targets}
use Rattle.owners.specs.Derived.{plan, derived}
use Rattle.owners.specs.Entries as state
use Rattle.rota.specs.Entries as rota
use Rattle.promises.specs.Entries.{Call, play_of, play_draws_of}
use Rattle.promises.specs.Marked.{in_words, one_person, one, words, Spare, apart, two_units}

-- what is lent in these calls: starts, ends, a list with room for one, the person's range, settings
abbrev pub starts : List ℕ
starts = 0 ∷ []

abbrev pub ends : List ℕ
ends = 60 ∷ []

abbrev pub room : List ℕ
room = 0 ∷ []

abbrev pub range : Ranges
range = ranges 1 (0 ∷ []) (0 ∷ []) (60 ∷ [])

abbrev pub settings : Settings
settings = record { fairness = 0; lock = 0; boundary = 0; edition = 0; value = 1; days = 1 }

-- two slots, owned by 0 and 1, no draw, and nothing lent past what is needed
abbrev pub nothing : Spare
nothing = record { owners = []; sets = []; minutes = []; totals = []; answers = [] }

abbrev pub no_draw : Call
no_draw = two_units apart 0 0 [] [] [] nothing

pub record EachAccepts : Type 0 where
  -- slot sets: every question by value, and the writes; of a person's row, every question and the writes
  pub set-asked : number_of (length_row 1) ≡ 0
  pub set_new : (new_of 1).number ≡ 0
  pub set-put : (v : ℕ) → (put_of v (in_words 1 (words 1)) 0).number ≡ 0
  pub set-stretch : (v : ℕ) → (stretch_of v (in_words 1 (words 1)) 0 1).number ≡ 0
  pub row-asked : number_of (person_row (words 1) 1 0 1) ≡ 0
  pub row-load : (load_of (words 1) 1 0 1).number ≡ 0
  pub row-stretch : number_of (person_stretch_row (words 1) 1 0 1 0 1) ≡ 0
  pub same-sets : number_of (same_sets_row (words 1) (words 1) 1 1) ≡ 0
  pub all_runs : answer_refusal (all_runs_of (words 1) 1 0 1 room room).answer ≡ 0
  -- slots
  pub demand : answer_refusal (demand_is 1 starts ends) ≡ 0
  pub slot-minutes : answer_refusal (slot_minutes_is 1 starts ends 0) ≡ 0
  pub merged-ranges : answer_refusal (merged_ranges 1 range (columns room room room)).answer ≡ 0
  pub atomise : let B = one_person 1 (0 ∷ []) (120 ∷ []) 1 (60 ∷ []) (180 ∷ []) (replicate 1024 0) (replicate 1024 0) in
      answer_refusal (atomise_of B).answer ≡ 0
  pub availability : number_of (availability_row 1 1 starts ends range (words 0)) ≡ 0
  pub freeze-before : (instant : ℕ) → answer_refusal (freeze_of 1 starts ends (words 0) instant).answer ≡ 0
  pub is-available : answer_refusal (is_available 1 1 (words 1) 0 0) ≡ 0
  -- units
  pub unit-count : answer_refusal (unit_count_is 1 1 (0 ∷ [])) ≡ 0
  pub unit-slots : answer_refusal (unit_slots_is 1 1 (0 ∷ []) 0) ≡ 0
  pub unit-of-slot : answer_refusal (unit_of_slot_is 1 1 (0 ∷ []) 0) ≡ 0
  pub rotation-starts : answer_refusal (rotation_starts_is settings 1 starts ends room).answer ≡ 0
  pub unit-starts : answer_refusal (unit_starts_is settings 1 starts ends room).answer ≡ 0
  pub unit-frozen : answer_refusal (unit_frozen_is (words 0) 1 1 (0 ∷ []) 0) ≡ 0
  pub slot-domain : answer_refusal (slot_domain_is (words 1) 1 1 0 room).answer ≡ 0
  pub unit-domain : answer_refusal (unit_domain_is (words 1) 1 1 1 (0 ∷ []) 0 room).answer ≡ 0
  pub unit-domains : number_of (unit_domains_row (words 1) 1 1 1 (0 ∷ []) room) ≡ 0
  pub covered-days : answer_refusal (covered_days_is 1 starts ends) ≡ 0
  pub minutes-per-day : answer_refusal (minutes_per_day_is 1 starts ends) ≡ 0
  pub target_run : answer_refusal (target_run_is settings 1 starts ends) ≡ 0
  pub achievable-run : answer_refusal (achievable_run_is settings (words 1) 1 0 1 starts ends) ≡ 0
  pub achievable-runs : number_of (achievable_runs_row settings (words 1) 1 1 starts ends room) ≡ 0
  -- targets: marked case 9
  pub compute-targets : let g = given 2 1 (0 ∷ []) (100 ∷ []) (replicate 32 0) (one ∷ one ∷ []) (300 ∷ 0 ∷ []) 1 0 in
      (compute_targets g (pos 0 ∷ pos 0 ∷ [])).number ≡ 0
  -- the rota
  pub from-slots : (state.from_slots no_draw.plan no_draw.avail no_draw.owners no_draw.derived).refusal.number ≡ 0
  pub empty : (state.emptied (plan 1 1 starts ends) room (derived (words 0) room (0 ∷ 0 ∷ []))).refusal.number ≡ 0
  pub assign : (rota.assigned no_draw.plan no_draw.avail no_draw.owners no_draw.derived 0 1).refusal.number ≡ 0
  pub recount : number_of (state.recount_row true (leb 2 (length no_draw.begins)) no_draw.plan no_draw.avail 2 no_draw.begins
      no_draw.owners no_draw.derived) ≡ 0
  pub recount-slots : number_of (state.recount_slots_row no_draw.plan no_draw.avail no_draw.owners no_draw.derived) ≡ 0
  pub play : (play_of no_draw).refusal.number ≡ 0
  pub play-draws : (play_draws_of no_draw []).refusal.number ≡ 0
  pub owner-of-slot : answer_refusal (state.owner_is 1 1 room 0) ≡ 0
  pub minutes-of : answer_refusal (state.minutes_is 1 room 0) ≡ 0
  pub slots-of : (state.slots_of_is 1 1 (words 1) 0).number ≡ 0
  pub unassigned-count : answer_refusal (state.unassigned_is 1 1 room) ≡ 0
  pub uncovered-minutes : answer_refusal (state.uncovered_is no_draw.plan no_draw.owners) ≡ 0
