-- The paper's example of a job, worked out by the definitions. Assumes nothing.
use mathlib.Core.Path.{◌≡◌, refl, sym, ap, ap₂, ◌∙◌, subst}
use mathlib.Core.Logic.{inr, ⊎_elim}
use mathlib.Core.Bool.{Bool, true, ◌&&◌}
use mathlib.Core.List.{List, [], ◌∷◌, map}
use Prim.Native.Nat.{ℕ, suc, ◌-◌, ◌≤◌, ◌<◌}
use native.Mathlib.Omega.{arith}
use borrow.Author.Tests.{leb-true, ltb-true, eqb-true}
use lib.Dec.{eqb, ltb, leb, lit≤}
use lib.Ieee.{binary64, of_bits, of_fields, add, sub, mul, div, lt, eq, le, of_int}
use lib.IntN.{ℤ, pos}
use lib.ListN.{length, get_or, drop, replicate, set, length-replicate, get_or-eq_default}
use Rattle.paper.specs.Limits.{people_ok, slot_count_ok, counts_ok, Test, number_of}
use Rattle.paper.specs.Bits.{bit_of}
use Rattle.paper.specs.Rows.{unless, accepted as no-refusal, answer_as}
use Rattle.paper.specs.Count.{all, all_in, some, sum, count, among, over, fill, onto}
use Rattle.paper.proofs.Logic.{both, four, below_suc, lt-or-ge}
use Rattle.paper.proofs.Count.{all-each}
use Rattle.slotset.specs.Slots.{slot, with_bit, put_slot, put_slots}
use Rattle.slotset.specs.Answers.{row_slots}
use Rattle.slots.specs.Lent.{slot_ok, prev_end, slot_ok_at, slot_room_ok, slots_ok, minutes_at, demand_of}
use Rattle.slots.specs.Ranges.{ranges, range_count_ok, range_room_ok, range_ok, range_ok_at, ranges_ok, covers, in_ranges, available}
use Rattle.slots.specs.Atomic.{lies_before, is_cut, cut_after, cuts_in, atom_starts, atom_ends, Atoms, starts_of_atoms}
use Rattle.slots.specs.Availability.{available_bit, rows, availability_row, availability_of}
use Rattle.units.specs.Settings.{boundary_ok, settings_ok}
use Rattle.units.specs.Answers.{Written, written_as}
use Rattle.units.specs.Starts.{unit_begins, unit_starts, starts_row, unit_starts_is}
use Rattle.units.specs.Units.{unit_end, start_ok, units_ok}
use Rattle.units.specs.Domains as domains
use Rattle.targets.specs.Figures.{figures_ok, all_figures_ok, available_minutes}
use Rattle.targets.specs.Passes.{rounded, within, settled, pass, passes}
use Rattle.targets.specs.Remainder.{adjusted}
use Rattle.targets.specs.SecondEdition.{shared_out}
use Rattle.targets.specs.Outcome as targets
use Rattle.targets.proofs.Accepted.{Lent}
use Rattle.targets.proofs.Promises.{number-lent, when-accepted}
use Rattle.owners.specs.Derived.{plan, derived, Derived, known_by, portion, worked, uncovered, unassigned, total_of, held, sets_from, afresh}
use Rattle.owners.specs.Recount.{known_at, available_for, available_at, even_at, set_slot_at, set_at, minutes_ok_at, recounts, total_ok_at}
use Rattle.owners.specs.Entries.{Outcome, outcome, lent_row, from_slots_row, from_slots}
use Rattle.rota.specs.Board.{owner_of, unowned}
use Rattle.rota.specs.Lent.{fits_unit, frozen_unit}
use Rattle.rota.specs.Moves.{any_of, decided, reassigned, picked, domain_of}
use Rattle.rota.specs.Plays.{step, owners_after, answer, answers, draws_of}
use Rattle.records.specs.Fields as fields
use Rattle.records.specs.Fields.{Bytes}
use Rattle.records.specs.Records.{Rec, bytes_of, file_of, Allowed, record_of, bodies}
use Rattle.records.specs.Puts.{put}
use Rattle.job.specs.File.{job_sizes, job_layout, JobRecords, JobFile}
use Rattle.job.specs.Listing.{Listed, listed, digits, decimal, signed, listing_of}
use Rattle.job.specs.Stages.{Ready, ready, value_of, listed_of}
use Rattle.job.specs.Outcome.{test_at, AllPass, job_tests, job_refusal, Outcome as JobOutcome, listed_as, job_result}
use Rattle.job.proofs.Tests.{number-none}
use Rattle.job.proofs.Answered.{numbered}
use Rattle.job.proofs.Results.{answered-none}
use Rattle.promises.specs.Entries.{Call, play_of}
use Rattle.promises.specs.Marked.{atoms}
use Rattle.promises.specs.Tests.{SlotsRight, RangesRight, FiguresRight, SettingsRight}
use Rattle.promises.specs.JobFields.{field, Given, given_by, owner_in, owners_by, atoms_from, base_from, ready_from, listed_from}
use Rattle.promises.specs.JobTests.{PassBefore, CountsRight, OwnersEven, OwnersKnown, OwnersAble, JobTests}
use Rattle.promises.specs.JobText.{line_of, text_of, each, lines_of}
use Rattle.promises.specs.JobExample.{example, example_text, JobExample}
use Rattle.promises.proofs.Marked.{atomised}
use Rattle.promises.proofs.Tests.{tests-by-rule}
use Rattle.promises.proofs.JobFields.{job-by-records}
use Rattle.promises.proofs.JobTests.{job-tests}
use Rattle.promises.proofs.JobText.{listing-text}
use Rattle.promises.proofs.Calls.{room_ok, Accepted, says-accepted, accepted-is}

abbrev zeros : List ℕ
zeros = replicate 1024 0

-- ---- what its records give

abbrev G : Given
G = record {
  settings = record { fairness = 0; lock = 0; boundary = 0; edition = 0; value = 1; days = 1 };
  base = 1;
  starts = 0 ∷ drop 1 zeros;
  ends = 120 ∷ drop 1 zeros;
  people = 2;
  capacities = map (of_bits binary64) (4607182418800017408 ∷ 4607182418800017408 ∷ drop 2 zeros);
  priors = 0 ∷ 0 ∷ drop 2 zeros;
  ranges = ranges 2 (0 ∷ 1 ∷ drop 2 zeros) (0 ∷ 60 ∷ drop 2 zeros) (120 ∷ 180 ∷ drop 2 zeros);
  freezes = 0;
  instant = 0;
  played = 1;
  draws = 0 ∷ drop 1 zeros;
  firsts = 1 ∷ drop 1 zeros;
  seconds = 1 ∷ drop 1 zeros;
}

given_is : given_by example ≡ G
unfolding bodies fields.le over
given_is = refl

owners-are : owners_by example ≡ 0 ∷ 0 ∷ replicate 1022 255
unfolding bodies fields.le over owner_in
owners-are = refl

-- ---- slots, availability, units

atoms_are : atoms_from G ≡ atoms 2 (0 ∷ 60 ∷ []) (60 ∷ 120 ∷ []) zeros zeros
unfolding people_ok slot_count_ok range_count_ok slot_room_ok range_room_ok slots_ok slot_ok_at slot_ok prev_end all ranges_ok range_ok_at
    range_ok atom_starts atom_ends cuts_in cut_after is_cut lies_before in_ranges covers some among
atoms_are =
    atomised (base_from G) (0 ∷ 60 ∷ []) (60 ∷ 120 ∷ []) refl refl refl refl refl refl refl refl refl refl refl
    (omega (arith, length-replicate {A = ℕ} 1024 0)) (omega (arith, length-replicate {A = ℕ} 1024 0))

abbrev from : List ℕ
from = 0 ∷ 60 ∷ drop 2 zeros

abbrev to : List ℕ
to = 60 ∷ 120 ∷ drop 2 zeros

avail-is : availability_of 2 2 from to G.ranges (replicate 512 0) ≡ set (set (replicate 512 0) 0 3) 16 2
unfolding availability_of availability_row number_of unless people_ok slot_count_ok range_count_ok slot_room_ok range_room_ok slots_ok slot_ok_at slot_ok
    prev_end all ranges_ok range_ok_at range_ok rows available_bit available all_in in_ranges covers some put_slots put_slot with_bit bit_of
avail-is = refl

units-are : unit_starts_is G.settings 2 from to zeros ≡ written_as 0 (0 ∷ 1 ∷ []) zeros
unfolding unit_starts_is starts_row number_of slot_count_ok slot_room_ok slots_ok slot_ok_at slot_ok prev_end all settings_ok boundary_ok unit_starts
    unit_begins among
units-are = refl

abbrev avail : List ℕ
avail = set (set (replicate 512 0) 0 3) 16 2

-- ---- targets

abbrev checked : targets.Given
checked = targets.given 2 2 from to avail G.capacities G.priors 0 0

targets-are : (targets.compute_targets checked (replicate 32 (pos 0))).out ≡ pos 80 ∷ pos 40 ∷ replicate 30 (pos 0)
unfolding people_ok slot_count_ok slot_room_ok slots_ok slot_ok_at slot_ok prev_end all all_figures_ok figures_ok le lt eq of_bits of_fields number_of
    demand_of sum minutes_at available_minutes domains.available slot bit_of of_int mul add div sub rounded within settled pass passes
    shared_out adjusted
targets-are =
    let out = replicate 32 (pos 0) in
    let l : Lent checked (length out) = record {
      people-ok = refl;
      slots-ok = refl;
      columns = refl;
      words = lit≤ tt;
      capacities-room = lit≤ tt;
      priors-room = lit≤ tt;
      out-room = lit≤ tt;
    } in
    when-accepted checked out (number-lent checked out l refl)

-- ---- all that a play goes by

abbrev R : Ready
R = ready 2 2 from to avail 2 (0 ∷ 1 ∷ drop 2 zeros) (replicate 16 0) (pos 80 ∷ pos 40 ∷ replicate 30 (pos 0))

-- the same, of any atomic slots; and of any availability of these two
abbrev ready_on : Atoms → Ready
ready_on A =
    let n = value_of A.answer in
    let w = availability_of 2 n A.starts A.ends G.ranges (replicate 512 0) in
    let u = unit_starts_is G.settings n A.starts A.ends zeros in
    ready 2 n A.starts A.ends w (value_of u.answer) u.buffer (replicate 16 0)
    (targets.compute_targets (targets.given 2 n A.starts A.ends w G.capacities G.priors 0 0) (replicate 32 (pos 0))).out

ready-is : ready_from G ≡ R
unfolding written_as answer_as unless onto
ready-is =
    ap ready_on atoms_are
    ∙ ap₂ (λ (w : List ℕ) (u : Written). ready 2 2 from to w (value_of u.answer) u.buffer (replicate 16 0)
    (targets.compute_targets (targets.given 2 2 from to w G.capacities G.priors 0 0) (replicate 32 (pos 0))).out) avail-is units-are
    ∙ ap (λ (zs : List ℤ). ready 2 2 from to avail 2 (0 ∷ 1 ∷ drop 2 zeros) (replicate 16 0) zs) targets-are

-- ---- the play

abbrev owners : List ℕ
owners = 0 ∷ 0 ∷ replicate 1022 255

abbrev before : Derived
before = derived (set (replicate 512 0) 0 3) (120 ∷ 0 ∷ replicate 30 0) (0 ∷ 0 ∷ [])

start_is : (from_slots (plan 2 2 from to) avail owners (derived (replicate 512 0) (replicate 32 0) (replicate 2 0))).derived ≡ before
unfolding from_slots from_slots_row lent_row outcome number_of unless people_ok slot_count_ok slot_room_ok slots_ok slot_ok_at slot_ok prev_end all
    known_at
    known_by available_at available_for domains.available slot bit_of afresh sets_from put_slots put_slot with_bit held over worked portion sum
    minutes_at total_of uncovered unassigned count
start_is = refl

abbrev call : Call
call = record {
  plan = plan 2 2 from to;
  avail = avail;
  units = 2;
  begins = 0 ∷ 1 ∷ drop 2 zeros;
  frozen = replicate 16 0;
  count = 1;
  draws = G.draws;
  firsts = G.firsts;
  seconds = G.seconds;
  owners = owners;
  derived = before;
  answers = zeros;
}

call-accepted : Accepted call
unfolding room_ok counts_ok people_ok slot_count_ok slots_ok slot_room_ok slot_ok_at slot_ok prev_end all units_ok start_ok recounts all_in known_at
    known_by
    available_at available_for domains.available even_at unit_end set_at set_slot_at held minutes_ok_at worked portion sum minutes_at slot bit_of
    total_ok_at total_of uncovered unassigned count
call-accepted = record {
  counts = refl;
  few = refl;
  room = refl;
  starts = refl;
  flags = refl;
  draws = lit≤ tt;
  firsts = lit≤ tt;
  seconds = lit≤ tt;
  answers = lit≤ tt;
  slots = refl;
  units = refl;
  recount = refl;
}

after : play_of call ≡ record {
  refusal = no-refusal;
  owners = 0 ∷ 1 ∷ replicate 1022 255;
  derived = derived (set (set (replicate 512 0) 0 1) 16 2) (60 ∷ 60 ∷ replicate 30 0) (0 ∷ 0 ∷ []);
  answers = 0 ∷ drop 1 zeros;
}
unfolding draws_of owners_after answers answer step onto decided any_of reassigned picked domain_of unowned owner_of frozen_unit
    domains.unit_frozen domains.clear domains.unfrozen all_in all among slot bit_of unit_end fits_unit domains.able domains.available afresh
    sets_from put_slots put_slot with_bit held over fill worked portion sum minutes_at total_of uncovered unassigned count
after = accepted-is call (says-accepted call call-accepted)

-- ---- the listing

abbrev L : Listed
L =
    listed 2 from to (0 ∷ 1 ∷ replicate 1022 255) 2 (60 ∷ 60 ∷ replicate 30 0) (pos 80 ∷ pos 40 ∷ replicate 30 (pos 0)) 1
    (0 ∷ drop 1 zeros) 0

text-is : text_of (lines_of L) ≡ example_text
unfolding text_of line_of each digits decimal signed
text-is = refl

abbrev listed_on : Ready → Derived → Listed
listed_on Q D =
    let P = plan Q.people Q.slots Q.starts Q.ends in
    let y = play_of record {
      plan = P;
      avail = Q.avail;
      units = Q.units;
      begins = Q.begins;
      frozen = Q.frozen;
      count = 1;
      draws = G.draws;
      firsts = G.firsts;
      seconds = G.seconds;
      owners = owners;
      derived = D;
      answers = zeros;
    } in
    listed Q.slots Q.starts Q.ends y.owners Q.people y.derived.minutes Q.targets 1 y.answers
    (get_or y.derived.totals 0 0)

abbrev start_on : Ready → Derived
start_on Q =
    let P = plan Q.people Q.slots Q.starts Q.ends in
    (from_slots P Q.avail owners (derived (replicate 512 0) (replicate 32 0) (replicate 2 0))).derived

listed-is : listed_from G owners ≡ L
listed-is =
    ap (λ (Q : Ready). listed_on Q (start_on Q)) ready-is ∙ ap (listed_on R) start_is
    ∙ ap (λ (y : Outcome). listed 2 from to y.owners 2 y.derived.minutes R.targets 1 y.answers
    (get_or y.derived.totals 0 0)) after

-- ---- its file

abbrev file : List ℕ
file = file_of example

all-bytes : (l : List ℕ) → all (length l) (λ k. ltb (get_or l k 0) 256) ≡ true → Bytes l
all-bytes l e k =
    ⊎_elim (λ (h : k < length l). ltb-true _ _ (all-each (length l) (λ j. ltb (get_or l j 0) 256) e k h))
    (λ (h : length l ≤ k). omega (arith, get_or-eq_default l 0 h)) (lt-or-ge k (length l))

abbrev allowed_ok : Rec → Bool
allowed_ok r =
    leb 1 r.kind && (ltb r.kind 8 && (eqb (length r.body) (get_or job_sizes (r.kind - 1) 0)
    && all (length r.body) (λ k. ltb (get_or r.body k 0) 256)))

allowed : (r : Rec) → allowed_ok r ≡ true → Allowed job_layout r
allowed r e =
    let x = four (leb 1 r.kind) (ltb r.kind 8) (eqb (length r.body) (get_or job_sizes (r.kind - 1) 0))
    (all (length r.body) (λ k. ltb (get_or r.body k 0) 256)) e in
    record { least = leb-true _ _ x.0; most = ltb-true _ _ x.1; size = eqb-true _ _ x.2; bytes = all-bytes r.body x.3 }

records-right : JobRecords example
unfolding bodies fields.le all
records-right = record {
  order = record {
    each = λ k h. allowed (record_of example k) (all-each 9 (λ j. allowed_ok (record_of example j)) refl k h);
    rise = λ k h.
        let g : suc k < 9 = h in
        leb-true _ _ (all-each 8 (λ j. leb (record_of example j).kind (record_of example (suc j)).kind) refl k (omega arith));
  };
  settings = refl;
  freezes = lit≤ tt;
  slots-rise = λ k h.
      let g : suc k < 2 = h in
      let own = bodies 6 example in
      ltb-true _ _ (all-each 1 (λ j. ltb (fields.le 2 (get_or own j []) 0) (fields.le 2 (get_or own (suc j) []) 0)) refl k (omega arith));
}

file-short : length file ≤ 49152
unfolding file_of bytes_of fields.le_bytes
file-short = leb-true (length file) 49152 refl

abbrev job-file : JobFile file
job-file = record { records = example; right = records-right; whole = refl; short = file-short }

-- ---- no test fails

slots-right : SlotsRight 1 G.starts G.ends
unfolding slot_room_ok slots_ok slot_ok_at slot_ok prev_end all
slots-right = (tests-by-rule.slots 1 G.starts G.ends refl).0 refl

ranges-right : RangesRight 2 G.ranges
unfolding range_room_ok ranges_ok range_ok_at range_ok all
ranges-right = (tests-by-rule.ranges 2 G.ranges refl).0 refl

atoms-few : length (starts_of_atoms (base_from G)) ≤ 1024
unfolding atom_starts cuts_in cut_after is_cut lies_before in_ranges covers some among
atoms-few = leb-true (length (starts_of_atoms (base_from G))) 1024 refl

figures-right : FiguresRight 2 G.capacities G.priors
unfolding all_figures_ok figures_ok le lt eq of_int of_bits of_fields all
figures-right = (tests-by-rule.figures 2 G.capacities G.priors).0 refl

settings-right : SettingsRight G.settings
unfolding settings_ok boundary_ok
settings-right = (tests-by-rule.settings G.settings).0 refl

abbrev own : List (List ℕ)
own = bodies 6 example

own-none : (k : ℕ) → k < 2 → owner_in own k ≡ 0
unfolding bodies fields.le owner_in all
own-none k h = eqb-true (owner_in own k) 0 (all-each 2 (λ j. eqb (owner_in own j) 0) refl k h)

even : OwnersEven example R
unfolding unit_end all
even u h k a b =
    let f = R.begins in
    let e = leb-true (unit_end 2 2 f u) 2 (all-each 2 (λ v. leb (unit_end 2 2 f v) 2) refl u h) in
    own-none k (omega (arith, e, b)) ∙ sym (own-none (get_or f u 0) (omega (arith, e, a, b)))

known : OwnersKnown example R
unfolding bodies fields.le all
known k h =
    let i : ℕ → ℕ = field example 6 0 2 in
    let w : ℕ → ℕ = field example 6 2 2 in
    let x = both (ltb (i k) 2) (ltb (w k) 2) (all-each 2 (λ j. ltb (i j) 2 && ltb (w j) 2) refl k h) in
    (ltb-true (i k) 2 x.0, inr (ltb-true (w k) 2 x.1))

able : OwnersAble example R
unfolding bodies fields.le owner_in all slot bit_of
able k h n = eqb-true (row_slots avail (owner_in own k) k) 1 (all-each 2 (λ j. eqb (row_slots avail (owner_in own j) j) 1) refl k h)

module _ (x : List ℕ) (room : 65536 ≤ length x) where
  abbrev ts : List Test
  ts = job_tests file (length x)

  abbrev T : JobTests file (length x)
  T = job-tests file (length x)

  more : (k : ℕ) → PassBefore ts k → (test_at ts k).passes ≡ true → PassBefore ts (suc k)
  more k P e j h = below_suc _ h (λ q. ap (λ (i : ℕ). (test_at ts i).passes) q ∙ e) (λ l. P j l)

  bytes : Bytes file
  unfolding file_of bytes_of fields.le_bytes all
  bytes = all-bytes file refl

  counts : CountsRight example
  unfolding bodies
  counts = record {
    base-least = lit≤ tt;
    base-most = lit≤ tt;
    people-least = lit≤ tt;
    people-most = lit≤ tt;
    ranges = lit≤ tt;
    draws = lit≤ tt;
  }

  ready-same : R ≡ ready_from (given_by example)
  ready-same = sym (ap ready_from given_is ∙ ready-is)

  given : (X : Given → Type 0) → X G → X (given_by example)
  given X = subst X (sym given_is)

  front : PassBefore ts 8
  front =
      let p1 = more 0 (λ j h. absurd (omega arith)) ((T.layout bytes).passes.1 job-file) in
      let p2 = more 1 p1 ((T.counts job-file).passes.1 counts) in
      let p3 = more 2 p2 (T.room.passes.1 room) in
      let p4 = more 3 p3 ((T.base job-file p3).passes.1 (given (λ (H : Given). SlotsRight H.base H.starts H.ends)
      slots-right)) in
      let p5 = more 4 p4 ((T.ranges job-file p4).passes.1 (given (λ (H : Given). RangesRight H.people H.ranges) ranges-right)) in
      let p6 = more 5 p5 ((T.atoms job-file p5).passes.1 (given (λ (H : Given). length (starts_of_atoms (base_from H)) ≤ 1024)
      atoms-few)) in
      let p7 = more 6 p6 ((T.figures job-file p6).passes.1
      (given (λ (H : Given). FiguresRight H.people H.capacities H.priors) figures-right)) in
      more 7 p7 ((T.settings job-file p7).passes.1 (given (λ (H : Given). SettingsRight H.settings) settings-right))

  all_right : AllPass ts
  all_right =
      let p9 = more 8 front ((T.even job-file front).passes.1 (subst (OwnersEven example) ready-same even)) in
      let p10 = more 9 p9 ((T.known job-file p9).passes.1 (subst (OwnersKnown example) ready-same known)) in
      let p11 = more 10 p10 ((T.able job-file p10).passes.1 (subst (OwnersAble example) ready-same able)) in
      λ k h. p11 k (omega (arith, T.many))

  result : job_result file x ≡ listed_as (listing_of (listed_of file)) x
  result = answered-none file x ((number-none ts (numbered file (length x))).1 all_right)

  accepted : (job_refusal (job_result file x).answer).number ≡ 0
  unfolding listed_as
  accepted = ap (λ (y : JobOutcome). (job_refusal y.answer).number) result

  listing-is : listing_of (listed_of file) ≡ example_text
  listing-is =
      ap listing_of (job-by-records file x job-file accepted ∙ ap₂ listed_from given_is owners-are ∙ listed-is) ∙ listing-text L ∙ text-is

pub job-example : JobExample
unfolding listed_as put
job-example x room = result x room ∙ ap (λ (l : List ℕ). listed_as l x) (listing-is x room)
