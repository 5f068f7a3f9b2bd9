-- What an accepted job lists is what the records of its file give, field by field. Assumes nothing.
use mathlib.Core.Path.{◌≡◌, refl, sym, ap, ap₂, ◌∙◌}
use mathlib.Core.Logic.{⊎_elim}
use mathlib.Core.Bool.{Bool, true, cond}
use mathlib.Core.List.{List, [], map}
use Prim.Native.Nat.{ℕ, ◌+◌, ◌*◌, ◌≤◌, ◌<◌}
use native.Mathlib.Omega.{arith}
use borrow.Author.Tests.{eqb-true, eqb-false}
use lib.Dec.{eqb, lit<, lit≤}
use lib.Ieee.{binary64, of_bits}
use lib.ListN.{length, get_or, replicate}
use Rattle.paper.proofs.Rows.{said}
use Rattle.paper.specs.Limits.{number_of, nobody}
use Rattle.paper.specs.Count.{over}
use Rattle.paper.proofs.Logic.{by-test, lt-or-ge, slot-count-says, people-says}
use Rattle.paper.proofs.Count.{all-each, over-same}
use Rattle.slots.specs.Ranges.{ranges}
use Rattle.owners.specs.Derived.{known_by}
use Rattle.owners.proofs.Minutes.{known-below}
use Rattle.records.specs.Fields.{le}
use Rattle.records.specs.Records.{bodies}
use Rattle.job.specs.File.{job_sizes, JobFile}
use Rattle.job.specs.Columns.{column, float_column}
use Rattle.job.specs.Stages.{counted, block_start, people_of, column_of, ranges_of, capacities_of, priors_of, settings_in, instant_of, draws_of}
use Rattle.job.specs.Stages.{base_of, atoms_of, avail_in, targets_in, units_in, frozen_in, ready_in, ready_of, record_known, all_known}
use Rattle.job.specs.Stages.{byte_of, narrowed, written_of, owners_of, start_of, play_of, started_of, played_of, listed_of}
use Rattle.job.specs.Outcome.{AllPass, read_row, prepare_row, job_tests, Outcome, refused_as, job_refusal, job_result}
use Rattle.job.proofs.Layouts.{counts-read, fields_read, settings-read}
use Rattle.job.proofs.Prepares.{byte_small}
use Rattle.job.proofs.Tests.{number-none}
use Rattle.job.proofs.Answered.{numbered, sound}
use Rattle.job.proofs.Results.{answered-some}
use Rattle.promises.specs.JobFields.{field, fields, Given, given_by, owner_in, owners_by, ready_from, listed_from, JobByRecords}
use Rattle.promises.proofs.JobOwners.{Named, Unnamed, named-or-not, record-says, written_at, written-past}

-- ---- what the file gives, in the terms of `job`

abbrev pub given_of : List ℕ → Given
given_of s = record {
  settings = settings_in s;
  base = counted s 1;
  starts = column_of s 1 0 4;
  ends = column_of s 1 4 4;
  people = people_of s;
  capacities = capacities_of s;
  priors = priors_of s;
  ranges = ranges_of s;
  freezes = counted s 4;
  instant = instant_of s;
  played = counted s 6;
  draws = column_of s 6 0 2;
  firsts = column_of s 6 2 2;
  seconds = column_of s 6 4 2;
}

pub ready-shape : (s : List ℕ) → ready_of s ≡ ready_from (given_of s)
unfolding ready_of ready_in base_of atoms_of avail_in targets_in units_in frozen_in
ready-shape s = refl

listed-shape : (s : List ℕ) → listed_of s ≡ listed_from (given_of s) (owners_of s)
unfolding listed_of ready_of ready_in base_of atoms_of avail_in targets_in units_in frozen_in played_of play_of started_of start_of draws_of
listed-shape s = refl

-- ---- each field is that of its record

module _ (s : List ℕ) (J : JobFile s) where
  pub column-fields : (i off n : ℕ) → i < 7 → off + n ≤ get_or job_sizes i 0 → column_of s i off n ≡ fields J.records (1 + i) off n
  unfolding column
  column-fields i off n h r =
      let w = 4 + get_or job_sizes i 0 in
      let at = block_start s i in
      let m = counts-read s J i h in
      over-same (λ k. le n s (at + (4 + off) + k * w)) (field J.records (1 + i) off n) (counted s i) (replicate 1024 0)
      (λ k l.
      let z : at + (4 + off) + k * w ≡ at + k * w + (4 + off) = omega arith in
      ap (le n s) z ∙ fields_read s J i k off n h (omega (arith, m)) r)
      ∙ ap (λ (c : ℕ). over (field J.records (1 + i) off n) c (replicate 1024 0)) m

  settings-same : settings_in s ≡ (given_by J.records).settings
  settings-same =
      let q = settings-read s J in
      λ i. record { fairness = q.0 i; lock = q.1 i; boundary = q.2 i; edition = q.3 i; value = q.4 i; days = q.5 i }

  instant-same : instant_of s ≡ (given_by J.records).instant
  instant-same =
      let m = counts-read s J 4 (lit< tt) in
      let there : ℕ = field J.records 5 0 4 0 in
      by-test (eqb (counted s 4) 0) _
      (λ t.
      ap (λ (b : Bool). cond b 0 (le 4 s (block_start s 4 + 4))) t
      ∙ sym (ap (λ (b : Bool). cond b 0 there) (sym (ap (λ (c : ℕ). eqb c 0) m) ∙ t)))
      (λ f.
      let z : block_start s 4 + 4 ≡ block_start s 4 + 0 * 8 + 4 = omega arith in
      ap (λ (b : Bool). cond b 0 (le 4 s (block_start s 4 + 4))) f
      ∙ ap (le 4 s) z ∙ fields_read s J 4 0 0 4 (lit< tt) (omega (arith, m, eqb-false (counted s 4) 0 f)) (lit≤ tt)
      ∙ sym (ap (λ (b : Bool). cond b 0 there) (sym (ap (λ (c : ℕ). eqb c 0) m) ∙ f)))

  pub given-same : given_of s ≡ given_by J.records
  unfolding float_column
  given-same =
      let n = counts-read s J in
      let C = column-fields in
      λ i. record {
        settings = settings-same i;
        base = n 1 (lit< tt) i;
        starts = C 1 0 4 (lit< tt) (lit≤ tt) i;
        ends = C 1 4 4 (lit< tt) (lit≤ tt) i;
        people = n 2 (lit< tt) i;
        capacities = map (of_bits binary64) (C 2 0 8 (lit< tt) (lit≤ tt) i);
        priors = C 2 8 4 (lit< tt) (lit≤ tt) i;
        ranges = ranges (n 3 (lit< tt) i) (C 3 0 2 (lit< tt) (lit≤ tt) i) (C 3 2 4 (lit< tt) (lit≤ tt) i) (C 3 6 4 (lit< tt) (lit≤ tt) i);
        freezes = n 4 (lit< tt) i;
        instant = instant-same i;
        played = n 6 (lit< tt) i;
        draws = C 6 0 2 (lit< tt) (lit≤ tt) i;
        firsts = C 6 2 2 (lit< tt) (lit≤ tt) i;
        seconds = C 6 4 2 (lit< tt) (lit≤ tt) i;
      }

  pub ready-same : ready_of s ≡ ready_from (given_by J.records)
  ready-same = ready-shape s ∙ ap ready_from given-same

  -- ---- owners that are known are bytes, and none stands past the slots

  module _ (few : (ready_of s).slots ≤ 1024) (small : (ready_of s).people ≤ 32)
      (known : all_known s (block_start s 5) (counted s 5) (ready_of s).slots (ready_of s).people ≡ true) where
    abbrev own : List (List ℕ)
    own = bodies 6 J.records

    record-known : (k : ℕ) → k < length own
        → (le 2 (get_or own k []) 0 < (ready_of s).slots) × (known_by (ready_of s).people (le 2 (get_or own k []) 2) ≡ true)
    unfolding all_known
    record-known k h =
        let R = ready_of s in
        (record-says s J R.slots R.people k h).0
        (all-each (counted s 5) (record_known s (block_start s 5) R.slots R.people) known k (omega (arith, counts-read s J 5 (lit< tt))))

    byte-owner : (j : ℕ) → owner_in own j < 256
    byte-owner j =
        ⊎_elim
        (λ (N : Named own j).
        let w = le 2 (get_or own N.place []) 2 in
        let e = (record-known N.place N.within).1 in
        by-test (eqb w nobody) _ (λ t. omega (arith, N.gives, eqb-true w nobody t))
        (λ f. omega (arith, N.gives, known-below (ready_of s).people w e (eqb-false w nobody f))))
        (λ (U : Unnamed own j). omega (arith, U.gives))
        (named-or-not own j)

    past-owner : (j : ℕ) → (ready_of s).slots ≤ j → owner_in own j ≡ nobody
    past-owner j h =
        ⊎_elim (λ (N : Named own j). absurd (omega (arith, N.names, (record-known N.place N.within).0)))
        (λ (U : Unnamed own j). U.gives) (named-or-not own j)

    owner-byte : (j : ℕ) → j < 1024 → byte_of (get_or (written_of s) j 0) ≡ owner_in own j
    unfolding written_of
    owner-byte j h =
        let n = (ready_of s).slots in
        ap byte_of (⊎_elim (λ (l : j < n). written_at s J n few j l)
        (λ (g : n ≤ j). written-past s J n few j g h ∙ sym (past-owner j g)) (lt-or-ge j n))
        ∙ sym (byte_small (owner_in own j) (byte-owner j))

    -- so the owners are those that the records give
    pub owners-same : owners_of s ≡ owners_by J.records
    unfolding owners_of narrowed
    owners-same = over-same (λ k. byte_of (get_or (written_of s) k 0)) (owner_in own) 1024 (replicate 1024 0) owner-byte

-- ---- an accepted job

pub accepted-none : (s x : List ℕ) → (job_refusal (job_result s x).answer).number ≡ 0 → number_of (job_tests s (length x)) ≡ 0
unfolding refused_as
accepted-none s x e =
    by-test (eqb (number_of (job_tests s (length x))) 0) _ (λ t. eqb-true _ 0 t)
    (λ f.
    let n = eqb-false _ 0 f in
    absurd (n (sym (said (job_tests s (length x)) refl)
    ∙ sym (ap (λ (y : Outcome). (job_refusal y.answer).number) (answered-some s x n)) ∙ e)))

pub accepted-pass : (s x : List ℕ) → (job_refusal (job_result s x).answer).number ≡ 0 → AllPass (job_tests s (length x))
accepted-pass s x e = (number-none (job_tests s (length x)) (numbered s (length x))).0 (accepted-none s x e)

pub job-by-records : JobByRecords
unfolding job_tests read_row prepare_row
job-by-records s x J e =
    let A = accepted-pass s x e in
    let S = sound s (length x) A in
    let few = (slot-count-says (ready_of s).slots S.count-ok).1 in
    let small = (people-says (ready_of s).people S.people-ok).1 in
    listed-shape s ∙ ap₂ listed_from (given-same s J) (owners-same s J few small (A 9 (lit< tt)))
