-- Each entry that can refuse accepts some call: worked out test by test. Assumes nothing.
use mathlib.Core.Path.{◌≡◌, refl, sym, ap, ◌∙◌}
use mathlib.Core.List.{[], ◌∷◌}
use Prim.Native.Nat.{ℕ, ◌≤◌}
use native.Mathlib.Omega.{arith}
use native.Mathlib.Nat.{le_of_eq}
use lib.IntN.{pos}
use lib.ListN.{length, replicate, length-replicate}
use Rattle.paper.specs.Bits.{bit_of}
use Rattle.paper.specs.Count.{all, all_in, sum, count}
use Rattle.paper.specs.Limits.{people_ok, slot_count_ok, counts_ok, number_of}
use Rattle.paper.specs.Rows.{unless, refusal_of, answer_as, answer_refusal}
use Rattle.slotset.specs.Slots.{slot, has}
use Rattle.slotset.specs.Answers.{length_row, slot_row, stretch_ok, stretch_row, sets_row, person_row, person_stretch_row, same_sets_row}
use Rattle.slotset.specs.Answers.{changed_as, new_of, put_of, stretch_of, load_of}
use Rattle.runs.specs.Listed.{runs_row}
use Rattle.slots.specs.Lent.{slot_room_ok, slots_ok, slot_ok_at, slot_ok, prev_end, minutes_at, lent_row, slot_minutes_row, demand_is}
use Rattle.slots.specs.Lent.{slot_minutes_is}
use Rattle.slots.specs.Ranges.{range_count_ok, range_room_ok, ranges_ok, range_ok_at, range_ok}
use Rattle.slots.specs.Merged.{merged_row, merged_ranges}
use Rattle.slots.specs.Atomic.{Atoms}
use Rattle.slots.specs.Availability.{availability_row, available_row, is_available}
use Rattle.slots.specs.Freeze.{freeze_row, freeze_of}
use Rattle.units.specs.Settings.{settings_ok, boundary_ok}
use Rattle.units.specs.Units.{units_ok, start_ok, unit_end}
use Rattle.units.specs.Answers.{written_as, units_row, unit_slots_row, unit_of_slot_row, unit_count_is, unit_slots_is, unit_of_slot_is}
use Rattle.units.specs.Starts.{starts_row, rotation_starts_is, unit_starts_is}
use Rattle.units.specs.Days.{covered_days_is, minutes_per_day_is, target_run_row, target_run_is}
use Rattle.units.specs.Domains.{available, unfrozen, clear, unit_frozen, unit_frozen_row, unit_frozen_is, slot_domain_row, slot_domain_is}
use Rattle.units.specs.Domains.{unit_domain_row, unit_domain_is, unit_domains_row}
use Rattle.units.specs.Achievable.{achievable_run_row, achievable_run_is, achievable_runs_row}
use Rattle.targets.specs.Outcome as targets
use Rattle.owners.specs.Derived.{known_by, portion, worked, held, uncovered, unassigned, total_of}
use Rattle.owners.specs.Recount.{known_at, available_for, available_at, even_at, set_slot_at, set_at, minutes_ok_at, recount_tests, total_ok_at}
use Rattle.owners.specs.Entries as state
use Rattle.rota.specs.Entries as rota
use Rattle.rota.specs.Draws.{draws, firsts, seconds}
use Rattle.promises.specs.Entries.{no_of, play_of, play_draws_of}
use Rattle.promises.specs.Marked.{apart}
use Rattle.promises.specs.Accepts.{nothing, no_draw, EachAccepts}
use Rattle.promises.proofs.Marked.{marked-cases}
use Rattle.promises.proofs.Calls.{accepted-is}
use Rattle.promises.proofs.Rota.{draws-alike}
use Rattle.promises.proofs.TwoUnits.{accepted, apart-recounts}

enough : (n : ℕ) → n ≤ length (replicate {A = ℕ} n 0)
enough n = le_of_eq (sym (length-replicate n 0))

no-draw-accepted : no_of no_draw ≡ 0
no-draw-accepted = accepted apart 0 0 [] [] [] nothing refl refl refl refl (omega arith) (apart-recounts 0 0 [] [] [] nothing)

no-draw-played : (play_of no_draw).refusal.number ≡ 0
no-draw-played = ap (λ (y : state.Outcome). y.refusal.number) (accepted-is no_draw no-draw-accepted)

no-draws-played : (play_draws_of no_draw []).refusal.number ≡ 0
unfolding draws firsts seconds
no-draws-played = ap (λ (y : state.Outcome). y.refusal.number) (draws-alike no_draw []) ∙ no-draw-played

pub each-accepts : EachAccepts
unfolding number_of refusal_of unless length_row slot_row stretch_ok stretch_row sets_row person_row person_stretch_row same_sets_row runs_row
    changed_as new_of put_of
    stretch_of load_of answer_as written_as people_ok slot_count_ok counts_ok all all_in slot_room_ok slots_ok slot_ok_at
    slot_ok
    prev_end range_count_ok range_room_ok ranges_ok range_ok_at range_ok lent_row slot_minutes_row demand_is slot_minutes_is merged_row merged_ranges
    availability_row
    freeze_row freeze_of available_row is_available units_ok start_ok units_row unit_slots_row unit_of_slot_row unit_count_is unit_slots_is unit_of_slot_is
    settings_ok boundary_ok starts_row rotation_starts_is unit_starts_is unit_frozen_row unit_frozen_is slot_domain_row slot_domain_is unit_domain_row
    unit_domain_is unit_domains_row covered_days_is minutes_per_day_is target_run_row target_run_is achievable_run_row achievable_run_is
    achievable_runs_row state.from_slots
    state.from_slots_row state.outcome state.lent_row state.emptied state.empty_row rota.assigned rota.assign_row state.recount_row
    state.recount_slots_row recount_tests state.owner_is state.owner_row state.minutes_is state.minutes_row state.slots_of_is state.unassigned_is
    state.unassigned_row state.uncovered_is state.uncovered_row known_by known_at available_for available_at available even_at unit_end set_at
    set_slot_at held minutes_ok_at total_ok_at total_of uncovered unassigned count worked portion sum minutes_at slot bit_of has unfrozen
    clear unit_frozen
each-accepts = record {
  set-asked = refl;
  set_new = refl;
  set-put = λ v. refl;
  set-stretch = λ v. refl;
  row-asked = refl;
  row-load = refl;
  row-stretch = refl;
  same-sets = refl;
  all_runs = refl;
  demand = refl;
  slot-minutes = refl;
  merged-ranges = refl;
  atomise =
      ap (λ (x : Atoms). answer_refusal x.answer)
      (marked-cases.case-4 (replicate 1024 0) (replicate 1024 0) (enough 1024) (enough 1024));
  availability = refl;
  freeze-before = λ instant. refl;
  is-available = refl;
  unit-count = refl;
  unit-slots = refl;
  unit-of-slot = refl;
  rotation-starts = refl;
  unit-starts = refl;
  unit-frozen = refl;
  slot-domain = refl;
  unit-domain = refl;
  unit-domains = refl;
  covered-days = refl;
  minutes-per-day = refl;
  target_run = refl;
  achievable-run = refl;
  achievable-runs = refl;
  compute-targets =
      ap (λ (y : targets.Outcome). y.number) (marked-cases.case-9 (replicate 32 0) (pos 0 ∷ pos 0 ∷ []) (enough 32) (omega arith));
  from-slots = refl;
  empty = refl;
  assign = refl;
  recount = refl;
  recount-slots = refl;
  play = no-draw-played;
  play-draws = no-draws-played;
  owner-of-slot = refl;
  minutes-of = refl;
  slots-of = refl;
  unassigned-count = refl;
  uncovered-minutes = refl;
}
