-- The library for C: what a caller takes an answer for, by its number, is the answer that was meant. Below 65,536 is what was asked, 65,536
-- nothing, 65,536 + n the refusal n; minutes and ends of runs or units stand beside a number, and are read where it is 0. Assumes nothing.
use Rattle.std.specs.Prelude.{◌≡◌, Bool, true, cond, List, ℕ, ◌-◌, ◌/◌, ◌%◌, eqb, ltb, leb, length, Result, Ok, Err, Option, Some, None}
use Rattle.paper.specs.Limits.{number_of}
use Rattle.paper.specs.declared.Refusal.{Refusal}
use Rattle.paper.specs.Rows.{refusal_of, answer_as, answer_refusal}
use Rattle.slotset.specs.declared.Run.{Run}
use Rattle.slotset.specs.declared.Run.TheVariants as run
use Rattle.slotset.specs.declared.NextRun.{NextRun}
use Rattle.slotset.specs.declared.NextMember.{NextMember}
use Rattle.slotset.specs.Slots.{size}
use Rattle.slotset.specs.Search.{next_with, last_below}
use Rattle.slotset.specs.Answers.{person_row, row_slots, run_as, next_run_as, next_member_as}
use Rattle.slots.specs.Ranges.{Ranges}
use Rattle.slots.specs.Merged.{Columns, merged_ranges}
use Rattle.slots.specs.Atomic.{Base, atomise_of}
use Rattle.slots.specs.Freeze.{freeze_of}
use Rattle.units.specs.declared.Settings.{Settings}
use Rattle.units.specs.declared.UnitSlots.{UnitSlots}
use Rattle.units.specs.Answers.{unit_of_slot_is}
use Rattle.units.specs.Starts.{rotation_starts_is, unit_starts_is}
use Rattle.units.specs.Domains.{slot_domain_is, unit_domain_is}
use Rattle.owners.specs.Derived.{Plan, Derived}
use Rattle.owners.specs.Entries.{recount_row, recount_slots_row, owner_is, unassigned_is}
use Rattle.rota.specs.Entries.{assigned}
use Rattle.rota.specs.declared.draws.Draw.{Draw}
use Rattle.job.specs.Outcome.{job_refusal, job_result}
use Rattle.boltraven_c.specs.Numbers.{refusal_number, found_number, yes_no_number, plain_number, minutes_written, run_number, run_first, run_last}
use Rattle.boltraven_c.specs.Numbers.{next_run_number, next_run_first, next_run_last, next_run_cursor, member_number, member_at, member_cursor}
use Rattle.boltraven_c.specs.Units.{span_from, span_to}
use Rattle.promises.specs.Entries.{Call, play_of, play_draws_of}

-- ---- how a caller reads a number

abbrev pub read_number : ℕ → Result ℕ ℕ
read_number v = cond (ltb v 65536) (Ok v) (Err (v - 65536))

abbrev pub read_found : ℕ → Result (Option ℕ) ℕ
read_found v = cond (ltb v 65536) (Ok (Some v)) (cond (eqb v 65536) (Ok None) (Err (v - 65536)))

abbrev pub read_told : ℕ → Result Bool ℕ
read_told v = cond (ltb v 65536) (Ok (eqb v 1)) (Err (v - 65536))

-- a refusal that may name a place, as the header's macros take it apart
abbrev pub read_refusal : ℕ → Refusal
read_refusal v =
    record { number = v % 256; part = v / 256 % 256; place = v / 65536 % 65536; second = v / 4294967296 % 65536 }

-- with what stands beside it
abbrev pub read_minutes : ℕ → ℕ → Result ℕ ℕ
read_minutes v m = cond (eqb v 0) (Ok m) (Err v)

abbrev pub read_span : ℕ → ℕ → ℕ → Result UnitSlots ℕ
read_span v a e = cond (eqb v 0) (Ok (record { from = a; to = e })) (Err v)

abbrev pub read_run : ℕ → ℕ → ℕ → Result Run ℕ
read_run v a b = cond (eqb v 0) (Ok (run.Span a b)) (cond (eqb v 1) (Ok (run.Hole a b)) (cond (eqb v 65536) (Ok run.Outside) (Err (v - 65536))))

abbrev pub read_next_run : ℕ → ℕ → ℕ → ℕ → Result (Option NextRun) ℕ
read_next_run v a b at =
    cond (eqb v 0) (Ok (Some (record { first = a; last = b; next = record { at = at } }))) (cond (eqb v 65536) (Ok None) (Err (v - 65536)))

abbrev pub read_member : ℕ → ℕ → ℕ → Result (Option NextMember) ℕ
read_member v i at =
    cond (eqb v 0) (Ok (Some (record { at = i; next = record { at = at } }))) (cond (eqb v 65536) (Ok None) (Err (v - 65536)))

-- ---- it is the answer that was meant

abbrev pub Read : Result ℕ ℕ → Type 0
Read x = read_number (plain_number x) ≡ x

abbrev pub ReadsBack : Refusal → Type 0
ReadsBack f = read_refusal (refusal_number f) ≡ f

pub record ReadsAsMeant : Type 0 where
  -- a slot that was looked for in a person's row, upwards and downwards
  pub next : (v : ℕ) (ws : List ℕ) (people person len from : ℕ)
      → let x = answer_as (number_of (person_row ws people person len)) (next_with v (row_slots ws person) len from) in
      read_found (found_number x) ≡ x
  pub prev : (v : ℕ) (ws : List ℕ) (people person len end : ℕ)
      → let x = answer_as (number_of (person_row ws people person len)) (last_below v (row_slots ws person) len end) in
      read_found (found_number x) ≡ x
  -- every yes and no
  pub yes-no : (n : ℕ) (b : Bool) → read_told (yes_no_number (answer_as n b)) ≡ answer_as n b
  -- a run, the next run, the next member
  pub run : (n : ℕ) (f : ℕ → ℕ) (len i was was' : ℕ)
      → let x = run_as n f len i in read_run (run_number x) (run_first was x) (run_last was' x) ≡ x
  pub next-run : (n : ℕ) (f : ℕ → ℕ) (len at was was' was'' : ℕ)
      → let x = next_run_as n f len at in
      read_next_run (next_run_number x) (next_run_first was x) (next_run_last was' x) (next_run_cursor was'' x) ≡ x
  pub next-member : (n : ℕ) (f : ℕ → ℕ) (len at was was' : ℕ)
      → let x = next_member_as n f len at in read_member (member_number x) (member_at was x) (member_cursor was' x) ≡ x
  -- minutes, and a unit's slots
  pub minutes : (n m was : ℕ) → read_minutes (answer_refusal (answer_as n m)) (minutes_written was (answer_as n m)) ≡ answer_as n m
  pub span : (n : ℕ) (s : UnitSlots) (was was' : ℕ)
      → let x = answer_as n s in read_span (answer_refusal x) (span_from was x) (span_to was' x) ≡ x
  -- counts and indexes, entry by entry: each is below 65,536
  pub count : (ws : List ℕ) (people person len : ℕ)
      → Read (answer_as (number_of (person_row ws people person len)) (size (row_slots ws person) len))
  pub merged-ranges : (people : ℕ) (R : Ranges) (out : Columns) → Read (merged_ranges people R out).answer
  pub atomise : (B : Base) → Read (atomise_of B).answer
  pub freeze-before : (slots : ℕ) (starts ends frozen : List ℕ) (instant : ℕ) → Read (freeze_of slots starts ends frozen instant).answer
  pub rotation-starts : (s : Settings) (slots : ℕ) (starts ends list : List ℕ) → Read (rotation_starts_is s slots starts ends list).answer
  pub unit-starts : (s : Settings) (slots : ℕ) (starts ends list : List ℕ) → Read (unit_starts_is s slots starts ends list).answer
  pub unit-of-slot : (slots units : ℕ) (begins : List ℕ) (k : ℕ) → Read (unit_of_slot_is slots units begins k)
  pub slot-domain : (avail : List ℕ) (people slots k : ℕ) (list : List ℕ) → Read (slot_domain_is avail people slots k list).answer
  pub unit-domain : (avail : List ℕ) (people slots units : ℕ) (begins : List ℕ) (u : ℕ) (list : List ℕ)
      → Read (unit_domain_is avail people slots units begins u list).answer
  pub owner-of-slot : (people slots : ℕ) (o : List ℕ) (k : ℕ) → Read (owner_is people slots o k)
  pub unassigned-count : (people slots : ℕ) (o : List ℕ) → Read (unassigned_is people slots o)
  -- a refusal with its part and places, of each entry that recounts, and of a job
  pub recount : (P : Plan) (avail : List ℕ) (units : ℕ) (begins o : List ℕ) (D : Derived)
      → ReadsBack (refusal_of (recount_row true (leb units (length begins)) P avail units begins o D))
  pub recount-slots : (P : Plan) (avail o : List ℕ) (D : Derived) → ReadsBack (refusal_of (recount_slots_row P avail o D))
  pub assign : (P : Plan) (avail o : List ℕ) (D : Derived) (k w : ℕ) → ReadsBack (assigned P avail o D k w).refusal
  pub play : (c : Call) → ReadsBack (play_of c).refusal
  pub play-draws : (c : Call) (ds : List Draw) → ReadsBack (play_draws_of c ds).refusal
  pub run-job : (s x : List ℕ) → ReadsBack (job_refusal (job_result s x).answer)
