-- Demand 1 in the paper's words: each entry's table of what a caller is answered, by limits, lengths that are lent and the records that
-- say what
-- is right, and no test of a crate; and that each entry is given by its table. Assumes nothing.
use Rattle.std.specs.Prelude.{◌≡◌, true, List, [], ◌∷◌, ◌++◌, ◌⊎◌, ◌≢◌, ℕ, ◌*◌, ◌≤◌, ◌<◌, leb, ℤ, length, get_or}
use Rattle.paper.specs.Limits.{number_of}
use Rattle.slotset.specs.declared.SlotSet.{SlotSet}
use Rattle.slotset.specs.Answers.{length_row, person_row, same_sets_row, person_stretch_row, row_slots, new_of, put_of, stretch_of, load_of}
use Rattle.paper.specs.Rows.{answer_refusal}
use Rattle.runs.specs.Listed.{all_runs_of}
use Rattle.slots.specs.Lent.{demand_is, slot_minutes_is}
use Rattle.slots.specs.Ranges.{Ranges}
use Rattle.slots.specs.Merged.{Columns, merged_ranges}
use Rattle.slots.specs.Atomic.{Base, atomise_of}
use Rattle.slots.specs.Availability.{availability_row, is_available}
use Rattle.slots.specs.Freeze.{freeze_of}
use Rattle.units.specs.declared.Settings.{Settings}
use Rattle.units.specs.Answers.{unit_count_is, unit_slots_is, unit_of_slot_is}
use Rattle.units.specs.Starts.{rotation_starts_is, unit_starts_is}
use Rattle.units.specs.Days.{covered_days_is, minutes_per_day_is, target_run_is}
use Rattle.units.specs.Domains.{unit_frozen_is, slot_domain_is, unit_domain_is, unit_domains_row}
use Rattle.units.specs.Achievable.{achievable_run_is, achievable_runs_row}
use Rattle.targets.specs.Outcome as targets
use Rattle.owners.specs.Derived.{Plan, Derived}
use Rattle.owners.specs.Entries as state
use Rattle.rota.specs.Entries as rota
use Rattle.rota.specs.declared.draws.Draw.{Draw}
use Rattle.promises.specs.Entries.{Call, play_of, play_draws_of}
use Rattle.promises.specs.Table.{Rule, GivenBy}
use Rattle.promises.specs.Tests.{SlotsRight, RangesRight, FiguresRight, SettingsRight, UnitsRight}
use Rattle.promises.specs.SplitRule.{strung, CutsOf}
use Rattle.promises.specs.TargetRules.{Beyond}
use Rattle.promises.specs.RotaRules.{PassesRecount}

-- ---- the rules

-- 1: "a count is outside the numbers above, or a set's length is above 1,024"
abbrev pub outside : ℕ → ℕ → ℕ → Rule
outside least most n = record { number = 1; Says = (n < least) ⊎ (most < n) }

-- 2: "a lent buffer is shorter than needed"
abbrev pub short : ℕ → ℕ → Rule
short needed lent = record { number = 2; Says = lent < needed }

-- n: something isn't right
abbrev pub broken : ℕ → Type 0 → Rule
broken n Right = record { number = n; Says = Right → ⊥ }

-- 5: "more than 1,024 atomic slots result": a start and its cuts for each base slot
abbrev pub overfull : Base → Rule
overfull B = record {
  number = 5;
  Says = (c : ℕ → List ℕ) → ((k : ℕ) → k < B.slots → CutsOf B k (c k))
      → 1024 < length (strung (λ k. get_or B.starts k 0 ∷ c k) B.slots);
}

-- 8: "an unrounded target is not finite, or of size 2^40 or more"; a target has a meaning only of slots that are right
abbrev pub beyond : targets.Given → Rule
beyond g = record { number = 8; Says = SlotsRight g.slots g.starts g.ends × Beyond (targets.demand_in g) (targets.standings_in g) }

-- 11: "a slot, unit, person, or index to insert or remove is not below its count"; of a stretch, one of its indexes
abbrev pub not_below : ℕ → ℕ → Rule
not_below k count = record { number = 11; Says = count ≤ k }

abbrev pub reaches_past : ℕ → ℕ → ℕ → Rule
reaches_past a e len = record { number = 11; Says = (i : ℕ) × (a ≤ i) × (i < e) × (len ≤ i) }

-- 11, passed: "an owner may be 255"; 12, passed: whoever has a slot is available for it
abbrev pub Known : ℕ → ℕ → Type 0
Known people w = (w ≡ 255) ⊎ (w < people)

abbrev pub Available : List ℕ → ℕ → ℕ → Type 0
Available avail w k = w ≢ 255 → row_slots avail w k ≡ 1

-- of each slot's owner
abbrev pub AllKnown : ℕ → ℕ → List ℕ → Type 0
AllKnown people slots o = (k : ℕ) → k < slots → Known people (get_or o k 0)

abbrev pub AllAvailable : List ℕ → ℕ → List ℕ → Type 0
AllAvailable avail slots o = (k : ℕ) → k < slots → Available avail (get_or o k 0) k

-- ---- slot sets

abbrev pub set_table : ℕ → List Rule
set_table len = outside 0 1024 len ∷ []

abbrev pub row_table : List ℕ → ℕ → ℕ → ℕ → List Rule → List Rule
row_table ws people person len more =
    outside 1 32 people ∷ outside 0 1024 len ∷ short (16 * people) (length ws) ∷ not_below person people ∷ more

abbrev pub same_sets_table : List ℕ → List ℕ → ℕ → ℕ → List Rule
same_sets_table ws vs people len =
    outside 1 32 people ∷ outside 0 1024 len ∷ short (16 * people) (length ws) ∷ short (16 * people) (length vs) ∷ []

abbrev pub runs_table : List ℕ → ℕ → ℕ → ℕ → List ℕ → List ℕ → List Rule
runs_table ws people person len begins lasts =
    outside 1 32 people ∷ outside 0 1024 len ∷ short (16 * people) (length ws) ∷ short len (length begins) ∷ short len (length lasts)
    ∷ not_below person people ∷ []

-- ---- slots

abbrev pub slots_table : ℕ → List ℕ → List ℕ → List Rule → List Rule
slots_table slots starts ends more =
    outside 1 1024 slots ∷ short slots (length starts) ∷ short slots (length ends) ∷ broken 9 (SlotsRight slots starts ends) ∷ more

-- three columns of ranges, each as long as their count
abbrev pub short_ranges : ℕ → List ℕ → List ℕ → List ℕ → List Rule → List Rule
short_ranges n persons starts ends more = short n (length persons) ∷ short n (length starts) ∷ short n (length ends) ∷ more

abbrev pub merged_table : ℕ → Ranges → Columns → List Rule
merged_table people R out =
    outside 1 32 people ∷ outside 0 1024 R.count
    ∷ short_ranges R.count R.persons R.starts R.ends
    (short_ranges R.count out.persons out.starts out.ends (broken 4 (RangesRight people R) ∷ []))

-- "An output list needs room for 1,024 atomic slots"
abbrev pub atomise_table : Base → List Rule
atomise_table B =
    outside 1 32 B.people ∷ outside 1 1024 B.slots ∷ outside 0 1024 B.ranges.count
    ∷ short B.slots (length B.starts) ∷ short B.slots (length B.ends)
    ∷ short_ranges B.ranges.count B.ranges.persons B.ranges.starts B.ranges.ends
    (short 1024 (length B.out_starts) ∷ short 1024 (length B.out_ends)
    ∷ broken 3 (SlotsRight B.slots B.starts B.ends) ∷ broken 4 (RangesRight B.people B.ranges) ∷ overfull B ∷ [])

abbrev pub availability_table : ℕ → ℕ → List ℕ → List ℕ → Ranges → List ℕ → List Rule
availability_table people slots starts ends R words =
    outside 1 32 people ∷ outside 1 1024 slots ∷ outside 0 1024 R.count
    ∷ short slots (length starts) ∷ short slots (length ends)
    ∷ short_ranges R.count R.persons R.starts R.ends
    (short (16 * people) (length words) ∷ broken 4 (RangesRight people R) ∷ broken 9 (SlotsRight slots starts ends) ∷ [])

abbrev pub freeze_table : ℕ → List ℕ → List ℕ → List ℕ → List Rule
freeze_table slots starts ends frozen =
    outside 1 1024 slots ∷ short slots (length starts) ∷ short slots (length ends) ∷ short 16 (length frozen)
    ∷ broken 9 (SlotsRight slots starts ends) ∷ []

abbrev pub available_table : ℕ → ℕ → List ℕ → ℕ → ℕ → List Rule
available_table people slots words person slot =
    outside 1 32 people ∷ outside 1 1024 slots ∷ short (16 * people) (length words) ∷ not_below person people ∷ not_below slot slots ∷ []

-- ---- units

abbrev pub units_table : ℕ → ℕ → List ℕ → List Rule → List Rule
units_table slots units begins more =
    outside 1 1024 slots ∷ short units (length begins) ∷ broken 9 (UnitsRight slots units begins) ∷ more

-- "An output list needs room .. for as many entries as .. slots": there may be as many units as slots
abbrev pub starts_table : Settings → ℕ → List ℕ → List ℕ → List ℕ → List Rule
starts_table s slots starts ends list =
    outside 1 1024 slots ∷ short slots (length starts) ∷ short slots (length ends) ∷ short slots (length list)
    ∷ broken 7 (SettingsRight s) ∷ broken 9 (SlotsRight slots starts ends) ∷ []

abbrev pub unit_frozen_table : List ℕ → ℕ → ℕ → List ℕ → ℕ → List Rule
unit_frozen_table frozen slots units begins u =
    outside 1 1024 slots ∷ short units (length begins) ∷ short 16 (length frozen) ∷ broken 9 (UnitsRight slots units begins)
    ∷ not_below u units ∷ []

-- "or for as many entries as .. people"
abbrev pub slot_domain_table : List ℕ → ℕ → ℕ → ℕ → List ℕ → List Rule
slot_domain_table avail people slots k list =
    outside 1 32 people ∷ outside 1 1024 slots ∷ short (16 * people) (length avail) ∷ short people (length list) ∷ not_below k slots ∷ []

abbrev pub unit_domain_table : List ℕ → ℕ → ℕ → ℕ → List ℕ → ℕ → List ℕ → List Rule
unit_domain_table avail people slots units begins u list =
    outside 1 32 people ∷ outside 1 1024 slots ∷ short (16 * people) (length avail) ∷ short units (length begins)
    ∷ short people (length list) ∷ broken 9 (UnitsRight slots units begins) ∷ not_below u units ∷ []

abbrev pub unit_domains_table : List ℕ → ℕ → ℕ → ℕ → List ℕ → List ℕ → List Rule
unit_domains_table avail people slots units begins masks =
    outside 1 32 people ∷ outside 1 1024 slots ∷ short (16 * people) (length avail) ∷ short units (length begins)
    ∷ short slots (length masks) ∷ broken 9 (UnitsRight slots units begins) ∷ []

abbrev pub target_run_table : Settings → ℕ → List ℕ → List ℕ → List Rule
target_run_table s slots starts ends =
    outside 1 1024 slots ∷ short slots (length starts) ∷ short slots (length ends) ∷ broken 7 (SettingsRight s)
    ∷ broken 9 (SlotsRight slots starts ends) ∷ []

abbrev pub achievable_run_table : Settings → List ℕ → ℕ → ℕ → ℕ → List ℕ → List ℕ → List Rule
achievable_run_table s avail people p slots starts ends =
    outside 1 32 people ∷ outside 1 1024 slots ∷ short slots (length starts) ∷ short slots (length ends)
    ∷ short (16 * people) (length avail) ∷ broken 7 (SettingsRight s) ∷ broken 9 (SlotsRight slots starts ends) ∷ not_below p people ∷ []

abbrev pub achievable_runs_table : Settings → List ℕ → ℕ → ℕ → List ℕ → List ℕ → List ℕ → List Rule
achievable_runs_table s avail people slots starts ends runs =
    outside 1 32 people ∷ outside 1 1024 slots ∷ short slots (length starts) ∷ short slots (length ends)
    ∷ short (16 * people) (length avail) ∷ short people (length runs) ∷ broken 7 (SettingsRight s)
    ∷ broken 9 (SlotsRight slots starts ends) ∷ []

-- ---- targets

abbrev pub targets_table : targets.Given → ℕ → List Rule
targets_table g room =
    outside 1 32 g.people ∷ outside 1 1024 g.slots ∷ short g.slots (length g.starts) ∷ short g.slots (length g.ends)
    ∷ short (16 * g.people) (length g.avail) ∷ short g.people (length g.capacities) ∷ short g.people (length g.priors)
    ∷ short g.people room ∷ broken 6 (FiguresRight g.people g.capacities g.priors) ∷ broken 7 (g.fairness ≤ 1)
    ∷ broken 7 (g.edition ≤ 1) ∷ beyond g ∷ broken 9 (SlotsRight g.slots g.starts g.ends) ∷ []

-- ---- the rota

-- what a rota is lent in, with the counts and the lengths that an entry takes besides
abbrev pub rota_table : Plan → List ℕ → List ℕ → Derived → List Rule → List Rule → List Rule → List Rule
rota_table P avail o D counts lengths more =
    outside 1 32 P.people ∷ outside 1 1024 P.slots
    ∷ (counts ++ (short P.slots (length P.starts) ∷ short P.slots (length P.ends) ∷ short (16 * P.people) (length avail)
    ∷ short P.slots (length o) ∷ short (16 * P.people) (length D.sets) ∷ short P.people (length D.minutes)
    ∷ short 2 (length D.totals) ∷ (lengths ++ (broken 9 (SlotsRight P.slots P.starts P.ends) ∷ more))))

abbrev pub from_slots_table : Plan → List ℕ → List ℕ → Derived → List Rule
from_slots_table P avail o D =
    rota_table P avail o D [] []
    (broken 11 (AllKnown P.people P.slots o) ∷ broken 12 (AllAvailable avail P.slots o) ∷ [])

abbrev pub recount_slots_table : Plan → List ℕ → List ℕ → Derived → List Rule → List Rule
recount_slots_table P avail o D more = rota_table P avail o D [] [] (broken 10 (PassesRecount P avail 0 [] o D) ∷ more)

abbrev pub assign_table : Plan → List ℕ → List ℕ → Derived → ℕ → ℕ → List Rule
assign_table P avail o D k w =
    recount_slots_table P avail o D (not_below k P.slots ∷ broken 11 (Known P.people w) ∷ broken 12 (Available avail w k) ∷ [])

-- 9 of the units, and the recount
abbrev pub recount_table : Plan → List ℕ → ℕ → List ℕ → List ℕ → Derived → List Rule → List Rule → List Rule
recount_table P avail units begins o D counts lengths =
    rota_table P avail o D counts (short units (length begins) ∷ lengths)
    (broken 9 (UnitsRight P.slots units begins) ∷ broken 10 (PassesRecount P avail units begins o D) ∷ [])

-- a play: draws, their lengths, the flags, and room for "as many entries as .. draws". `firsts` and the like: lengths of the lent columns
abbrev pub play_table : Call → ℕ → ℕ → ℕ → List Rule
play_table c draws firsts seconds =
    recount_table c.plan c.avail c.units c.begins c.owners c.derived (outside 0 1024 c.count ∷ [])
    (short 16 (length c.frozen) ∷ short c.count draws ∷ short c.count firsts ∷ short c.count seconds
    ∷ short c.count (length c.answers) ∷ [])

abbrev pub empty_table : Plan → List ℕ → Derived → List Rule
empty_table P o D =
    outside 1 32 P.people ∷ outside 1 1024 P.slots ∷ short P.slots (length P.starts) ∷ short P.slots (length P.ends)
    ∷ short P.slots (length o) ∷ short (16 * P.people) (length D.sets) ∷ short P.people (length D.minutes)
    ∷ short 2 (length D.totals) ∷ broken 9 (SlotsRight P.slots P.starts P.ends) ∷ []

abbrev pub owner_table : ℕ → ℕ → List ℕ → ℕ → List Rule
owner_table people slots o k =
    outside 1 32 people ∷ outside 1 1024 slots ∷ short slots (length o) ∷ not_below k slots ∷ broken 11 (Known people (get_or o k 0)) ∷ []

abbrev pub minutes_table : ℕ → List ℕ → ℕ → List Rule
minutes_table people m p = outside 1 32 people ∷ short people (length m) ∷ not_below p people ∷ []

abbrev pub slots_of_table : ℕ → ℕ → List ℕ → ℕ → List Rule
slots_of_table people slots ws p =
    outside 1 32 people ∷ outside 1 1024 slots ∷ short (16 * people) (length ws) ∷ not_below p people ∷ []

abbrev pub unassigned_table : ℕ → ℕ → List ℕ → List Rule
unassigned_table people slots o =
    outside 1 32 people ∷ outside 1 1024 slots ∷ short slots (length o) ∷ broken 11 (AllKnown people slots o) ∷ []

abbrev pub uncovered_table : Plan → List ℕ → List Rule
uncovered_table P o =
    outside 1 32 P.people ∷ outside 1 1024 P.slots ∷ short P.slots (length P.starts) ∷ short P.slots (length P.ends)
    ∷ short P.slots (length o) ∷ broken 9 (SlotsRight P.slots P.starts P.ends) ∷ broken 11 (AllKnown P.people P.slots o)
    ∷ []

-- ---- each entry is given by its table

pub record SetsByTable : Type 0 where
  -- the methods that read, `new`, and those that hand a set back
  pub lengths : (len : ℕ) → GivenBy (set_table len) (number_of (length_row len))
  pub new : (len : ℕ) → GivenBy (set_table len) (new_of len).number
  pub put : (v : ℕ) (s : SlotSet) (i : ℕ) → GivenBy (outside 0 1024 s.len ∷ not_below i s.len ∷ []) (put_of v s i).number
  pub stretch : (v : ℕ) (s : SlotSet) (a e : ℕ)
      → GivenBy (outside 0 1024 s.len ∷ reaches_past a e s.len ∷ []) (stretch_of v s a e).number
  -- a person's row: every question of it, and `store`; then `load`, a stretch of it, everybody's sets, and the list of runs
  pub rows : (ws : List ℕ) (people person len : ℕ) → GivenBy (row_table ws people person len []) (number_of (person_row ws people person
      len))
  pub load : (ws : List ℕ) (people person len : ℕ) → GivenBy (row_table ws people person len []) (load_of ws people person len).number
  pub put-stretch : (ws : List ℕ) (people person len a e : ℕ)
      → GivenBy (row_table ws people person len (reaches_past a e len ∷ [])) (number_of (person_stretch_row ws people person len a e))
  pub same-sets : (ws vs : List ℕ) (people len : ℕ) → GivenBy (same_sets_table ws vs people len) (number_of (same_sets_row ws vs people len))
  pub all_runs : (ws : List ℕ) (people person len : ℕ) (begins lasts : List ℕ)
      → GivenBy (runs_table ws people person len begins lasts) (answer_refusal (all_runs_of ws people person len begins lasts).answer)

pub record SlotsByTable : Type 0 where
  pub demand : (slots : ℕ) (starts ends : List ℕ) → GivenBy (slots_table slots starts ends []) (answer_refusal (demand_is slots starts
      ends))
  pub slot-minutes : (slots : ℕ) (starts ends : List ℕ) (k : ℕ)
      → GivenBy (slots_table slots starts ends (not_below k slots ∷ [])) (answer_refusal (slot_minutes_is slots starts ends k))
  pub merged-ranges : (people : ℕ) (R : Ranges) (out : Columns)
      → GivenBy (merged_table people R out) (answer_refusal (merged_ranges people R out).answer)
  pub atomise : (B : Base) → GivenBy (atomise_table B) (answer_refusal (atomise_of B).answer)
  pub availability : (people slots : ℕ) (starts ends : List ℕ) (R : Ranges) (words : List ℕ)
      → GivenBy (availability_table people slots starts ends R words) (number_of (availability_row people slots starts ends R words))
  pub freeze-before : (slots : ℕ) (starts ends frozen : List ℕ) (instant : ℕ)
      → GivenBy (freeze_table slots starts ends frozen) (answer_refusal (freeze_of slots starts ends frozen instant).answer)
  pub is-available : (people slots : ℕ) (words : List ℕ) (person slot : ℕ)
      → GivenBy (available_table people slots words person slot) (answer_refusal (is_available people slots words person slot))

pub record UnitsByTable : Type 0 where
  pub unit-count : (slots units : ℕ) (begins : List ℕ)
      → GivenBy (units_table slots units begins []) (answer_refusal (unit_count_is slots units begins))
  pub unit-slots : (slots units : ℕ) (begins : List ℕ) (u : ℕ)
      → GivenBy (units_table slots units begins (not_below u units ∷ [])) (answer_refusal (unit_slots_is slots units begins u))
  pub unit-of-slot : (slots units : ℕ) (begins : List ℕ) (k : ℕ)
      → GivenBy (units_table slots units begins (not_below k slots ∷ [])) (answer_refusal (unit_of_slot_is slots units begins k))
  pub rotation-starts : (s : Settings) (slots : ℕ) (starts ends list : List ℕ)
      → GivenBy (starts_table s slots starts ends list) (answer_refusal (rotation_starts_is s slots starts ends list).answer)
  pub unit-starts : (s : Settings) (slots : ℕ) (starts ends list : List ℕ)
      → GivenBy (starts_table s slots starts ends list) (answer_refusal (unit_starts_is s slots starts ends list).answer)
  pub unit-frozen : (frozen : List ℕ) (slots units : ℕ) (begins : List ℕ) (u : ℕ)
      → GivenBy (unit_frozen_table frozen slots units begins u) (answer_refusal (unit_frozen_is frozen slots units begins u))
  pub slot-domain : (avail : List ℕ) (people slots k : ℕ) (list : List ℕ)
      → GivenBy (slot_domain_table avail people slots k list) (answer_refusal (slot_domain_is avail people slots k list).answer)
  pub unit-domain : (avail : List ℕ) (people slots units : ℕ) (begins : List ℕ) (u : ℕ) (list : List ℕ)
      → GivenBy (unit_domain_table avail people slots units begins u list)
      (answer_refusal (unit_domain_is avail people slots units begins u list).answer)
  pub unit-domains : (avail : List ℕ) (people slots units : ℕ) (begins masks : List ℕ)
      → GivenBy (unit_domains_table avail people slots units begins masks) (number_of (unit_domains_row avail people slots units begins masks))
  pub covered-days : (slots : ℕ) (starts ends : List ℕ)
      → GivenBy (slots_table slots starts ends []) (answer_refusal (covered_days_is slots starts ends))
  pub minutes-per-day : (slots : ℕ) (starts ends : List ℕ)
      → GivenBy (slots_table slots starts ends []) (answer_refusal (minutes_per_day_is slots starts ends))
  pub target_run : (s : Settings) (slots : ℕ) (starts ends : List ℕ)
      → GivenBy (target_run_table s slots starts ends) (answer_refusal (target_run_is s slots starts ends))
  pub achievable-run : (s : Settings) (avail : List ℕ) (people p slots : ℕ) (starts ends : List ℕ)
      → GivenBy (achievable_run_table s avail people p slots starts ends)
      (answer_refusal (achievable_run_is s avail people p slots starts ends))
  pub achievable-runs : (s : Settings) (avail : List ℕ) (people slots : ℕ) (starts ends runs : List ℕ)
      → GivenBy (achievable_runs_table s avail people slots starts ends runs)
      (number_of (achievable_runs_row s avail people slots starts ends runs))

pub record RotaByTable : Type 0 where
  pub compute-targets : (g : targets.Given) (out : List ℤ)
      → GivenBy (targets_table g (length out)) (targets.compute_targets g out).number
  pub from-slots : (P : Plan) (avail o : List ℕ) (D : Derived) → GivenBy (from_slots_table P avail o D) (state.from_slots P avail o D
      ).refusal.number
  pub assign : (P : Plan) (avail o : List ℕ) (D : Derived) (k w : ℕ)
      → GivenBy (assign_table P avail o D k w) (rota.assigned P avail o D k w).refusal.number
  pub recount : (P : Plan) (avail : List ℕ) (units : ℕ) (begins o : List ℕ) (D : Derived)
      → GivenBy (recount_table P avail units begins o D [] [])
      (number_of (state.recount_row true (leb units (length begins)) P avail units begins o D))
  pub recount-slots : (P : Plan) (avail o : List ℕ) (D : Derived)
      → GivenBy (recount_slots_table P avail o D []) (number_of (state.recount_slots_row P avail o D))
  pub play : (c : Call) → GivenBy (play_table c (length c.draws) (length c.firsts) (length c.seconds)) (play_of c).refusal.number
  -- a list of structs has one length
  pub play-draws : (c : Call) (ds : List Draw) → GivenBy (play_table c (length ds) (length ds) (length ds)) (play_draws_of c ds).refusal.number
  pub empty : (P : Plan) (o : List ℕ) (D : Derived) → GivenBy (empty_table P o D) (state.emptied P o D).refusal.number
  pub owner-of-slot : (people slots : ℕ) (o : List ℕ) (k : ℕ)
      → GivenBy (owner_table people slots o k) (answer_refusal (state.owner_is people slots o k))
  pub minutes-of : (people : ℕ) (m : List ℕ) (p : ℕ) → GivenBy (minutes_table people m p) (answer_refusal (state.minutes_is people m p))
  pub slots-of : (people slots : ℕ) (ws : List ℕ) (p : ℕ)
      → GivenBy (slots_of_table people slots ws p) (state.slots_of_is people slots ws p).number
  pub unassigned-count : (people slots : ℕ) (o : List ℕ)
      → GivenBy (unassigned_table people slots o) (answer_refusal (state.unassigned_is people slots o))
  pub uncovered-minutes : (P : Plan) (o : List ℕ) → GivenBy (uncovered_table P o) (answer_refusal (state.uncovered_is P o))
