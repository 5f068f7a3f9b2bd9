-- Each test of a job, both ways, by the records of its file. Assumes nothing.
use mathlib.Core.Path.{◌≡◌, refl, sym, ap, ◌∙◌, subst}
use mathlib.Core.Logic.{◌↔◌}
use mathlib.Core.Bool.{true, false}
use mathlib.Core.List.{List}
use Prim.Native.Nat.{ℕ, ◌≤◌, ◌<◌}
use native.Mathlib.Omega.{arith}
use borrow.Author.Tests.{le-leb, leb-true, eq-eqb, eqb-true}
use lib.Dec.{eqb, leb, lit<}
use lib.ListN.{length, get_or, replicate, length-replicate}
use Rattle.paper.specs.Limits.{number_of}
use Rattle.paper.specs.Count.{all}
use Rattle.paper.proofs.Logic.{and-true, slot-count-says, people-says}
use Rattle.paper.proofs.Count.{all-each, each_all, in-each, each_in, get_d_over}
use Rattle.slots.specs.Lent.{slots_ok}
use Rattle.slots.specs.Ranges.{ranges_ok}
use Rattle.slots.specs.Atomic.{starts_of_atoms}
use Rattle.units.specs.Units.{unit_start, unit_end}
use Rattle.units.proofs.Units.{unit-within}
use Rattle.targets.specs.Figures.{all_figures_ok}
use Rattle.units.specs.Settings.{settings_ok}
use Rattle.owners.specs.Recount.{even_at, available_for, available_at}
use Rattle.records.specs.Records.{bodies}
use Rattle.job.specs.File.{JobFile}
use Rattle.job.specs.Stages.{counted, block_start, people_of, job_counts_ok, column_of, ranges_of, capacities_of, priors_of, settings_in, base_of, Ready}
use Rattle.job.specs.Stages.{ready_of, record_known, all_known, all_even, uneven_in, uneven_of, written_of, owners_of}
use Rattle.job.specs.Outcome.{test_at, read_row, prepare_row, job_tests}
use Rattle.job.proofs.Layouts.{rule-13, counts-read}
use Rattle.job.proofs.Prepares.{few-says}
use Rattle.job.proofs.Answered.{Few, each-few, base-fits, atom_tests, atoms-right, units-there}
use Rattle.promises.specs.Tests.{SlotsRight, RangesRight, FiguresRight, SettingsRight}
use Rattle.promises.specs.JobFields.{Given, given_by, owner_in, base_from}
use Rattle.promises.specs.JobTests.{PassBefore, CountsRight, LowestFault, UnitEven, OwnersEven, OwnersKnown, OwnersAble}
use Rattle.promises.specs.JobTests.{JobTestsByRule}
use Rattle.promises.proofs.Tests.{tests-by-rule, known-test, available-test}
use Rattle.promises.proofs.Lowest.{right-exactly, lowest-fault}
use Rattle.promises.proofs.JobOwners.{record-says, written_at}
use Rattle.promises.proofs.JobFields.{given_of, ready-shape, given-same, ready-same, owners-same}

-- ---- 1

counts-test : (s : List ℕ) (J : JobFile s)
    → (job_counts_ok (counted s 1) (people_of s) (counted s 3) (counted s 6) ≡ true) ↔ CountsRight J.records
unfolding job_counts_ok
counts-test s J =
    let b = counts-read s J 1 (lit< tt) in
    let p = counts-read s J 2 (lit< tt) in
    let r = counts-read s J 3 (lit< tt) in
    let d = counts-read s J 6 (lit< tt) in (
      λ e.
          let x = few-says (counted s 1) (people_of s) (counted s 3) (counted s 6) e in
          let y = slot-count-says (counted s 1) x.0 in
          let z = people-says (people_of s) x.1 in
          let m = leb-true (counted s 3) 1024 x.2 in
          let n = leb-true (counted s 6) 1024 x.3 in
          record {
            base-least = omega (arith, b, y.0);
            base-most = omega (arith, b, y.1);
            people-least = omega (arith, p, z.0);
            people-most = omega (arith, p, z.1);
            ranges = omega (arith, r, m);
            draws = omega (arith, d, n);
          },
      λ C.
          and-true _ _ ((tests-by-rule.slot-count (counted s 1)).1 (omega (arith, b, C.base-least), omega (arith, b, C.base-most)))
          (and-true _ _ ((tests-by-rule.people (people_of s)).1 (omega (arith, p, C.people-least), omega (arith, p, C.people-most)))
          (and-true _ _ (le-leb (counted s 3) 1024 (omega (arith, r, C.ranges)))
          (le-leb (counted s 6) 1024 (omega (arith, d, C.draws))))),
    )

-- ---- 3 to 7, where the counts are right

module _ (s : List ℕ) (J : JobFile s) (few : Few s) where
  slots-test : (slots_ok (base_of s).slots (base_of s).starts (base_of s).ends ≡ true)
      ↔ let G = given_by J.records in SlotsRight G.base G.starts G.ends
  unfolding base_of
  slots-test =
      let test = slots_ok (counted s 1) (column_of s 1 0 4) (column_of s 1 4 4) in
      subst (λ (G : Given). (test ≡ true) ↔ SlotsRight G.base G.starts G.ends) (given-same s J)
      (tests-by-rule.slots (counted s 1) (column_of s 1 0 4) (column_of s 1 4 4) (base-fits s few).lent)

  ranges-test : (ranges_ok (base_of s).people (base_of s).ranges ≡ true)
      ↔ let G = given_by J.records in RangesRight G.people G.ranges
  unfolding base_of
  ranges-test =
      subst (λ (G : Given). (ranges_ok (people_of s) (ranges_of s) ≡ true) ↔ RangesRight G.people G.ranges) (given-same s J)
      (tests-by-rule.ranges (people_of s) (ranges_of s) (base-fits s few).lent-ranges)

  atoms-test : (leb (length (starts_of_atoms (base_of s))) 1024 ≡ true) ↔ (length (starts_of_atoms (base_from (given_by J.records))) ≤ 1024)
  unfolding base_of
  atoms-test =
      let B = base_from (given_of s) in
      subst (λ (G : Given). (leb (length (starts_of_atoms B)) 1024 ≡ true) ↔ (length (starts_of_atoms (base_from G)) ≤ 1024)) (given-same s J)
      (leb-true (length (starts_of_atoms B)) 1024, le-leb (length (starts_of_atoms B)) 1024)

  figures-test : (all_figures_ok (people_of s) (capacities_of s) (priors_of s) ≡ true)
      ↔ let G = given_by J.records in FiguresRight G.people G.capacities G.priors
  figures-test =
      let test = all_figures_ok (people_of s) (capacities_of s) (priors_of s) in
      subst (λ (G : Given). (test ≡ true) ↔ FiguresRight G.people G.capacities G.priors) (given-same s J)
      (tests-by-rule.figures (people_of s) (capacities_of s) (priors_of s))

  settings-test : (settings_ok (settings_in s) ≡ true) ↔ SettingsRight (given_by J.records).settings
  settings-test =
      subst (λ (G : Given). (settings_ok (settings_in s) ≡ true) ↔ SettingsRight G.settings) (given-same s J)
      (tests-by-rule.settings (settings_in s))

  people-small : (ready_of s).people ≤ 32
  people-small =
      omega (arith, ap (λ (R : Ready). R.people) (ready-shape s), (people-says (people_of s) (each-few s few).1).1)

  -- ---- 10 to 12, where the slots and the settings are right too

  module _ (atoms : number_of (atom_tests s) ≡ 0) where
    slots-few : (ready_of s).slots ≤ 1024
    slots-few = (slot-count-says (ready_of s).slots (atoms-right s few atoms).count-ok).1

    abbrev R : Ready
    R = ready_of s

    abbrev own : List (List ℕ)
    own = bodies 6 J.records

    at_slot : (k : ℕ) → k < R.slots → get_or (written_of s) k 0 ≡ owner_in own k
    unfolding written_of
    at_slot k h = written_at s J R.slots slots-few k h

    -- unit by unit
    unit-test : settings_ok (settings_in s) ≡ true → (u : ℕ) → u < R.units
        → (even_at R.slots R.units R.begins (written_of s) u ≡ true) ↔ UnitEven J.records R u
    unfolding even_at
    unit-test ok u h =
        let right = (units-there s few (atoms-right s few atoms) ok).0 in
        let a = unit_start R.begins u in
        let e = unit_end R.slots R.units R.begins u in
        let w = unit-within R.slots R.units R.begins right u h in
        let o = written_of s in (
          λ t k b c.
              let x = in-each a e (λ j. eqb (get_or o j 0) (get_or o a 0)) t k b c in
              sym (at_slot k (omega arith)) ∙ eqb-true (get_or o k 0) (get_or o a 0) x ∙ at_slot a (omega arith),
          λ E.
              each_in a e (λ j. eqb (get_or o j 0) (get_or o a 0))
              (λ k b c. eq-eqb (get_or o k 0) (get_or o a 0) (at_slot k (omega arith) ∙ E k b c ∙ sym (at_slot a (omega arith)))),
        )

    even-test : settings_ok (settings_in s) ≡ true
        → (all_even R.slots R.units R.begins (written_of s) ≡ true) ↔ OwnersEven J.records R
    unfolding all_even
    even-test ok = right-exactly R.units _ (UnitEven J.records R) (unit-test ok)

    uneven-test : settings_ok (settings_in s) ≡ true → all_even R.slots R.units R.begins (written_of s) ≡ false
        → LowestFault R.units (UnitEven J.records R) (uneven_of s)
    unfolding all_even uneven_of uneven_in
    uneven-test ok f = lowest-fault R.units _ (UnitEven J.records R) (unit-test ok) f

    known-right : (all_known s (block_start s 5) (counted s 5) R.slots R.people ≡ true) ↔ OwnersKnown J.records R
    unfolding all_known
    known-right =
        let n = counts-read s J 5 (lit< tt) in
        let says = record-says s J R.slots R.people in (
          λ e k h.
              let x = (says k h).0 (all-each (counted s 5) (record_known s (block_start s 5) R.slots R.people) e k (omega (arith, n))) in
              (x.0, (known-test R.people _).0 x.1),
          λ O.
              each_all (counted s 5) (record_known s (block_start s 5) R.slots R.people)
              (λ k h.
              let l : k < length own = omega (arith, n) in
              let x = O k l in
              (says k l).1 (x.0, (known-test R.people _).1 x.1)),
        )

    able-test : all_known s (block_start s 5) (counted s 5) R.slots R.people ≡ true
        → (all R.slots (available_at R.avail (owners_of s)) ≡ true) ↔ OwnersAble J.records R
    unfolding available_at
    able-test known =
        let o = owners_of s in
        let same : (k : ℕ) → k < R.slots → get_or o k 0 ≡ owner_in own k =
        λ k h.
        ap (λ (l : List ℕ). get_or l k 0) (owners-same s J slots-few people-small known)
        ∙ get_d_over (owner_in own) 1024 (replicate 1024 0) k (omega (arith, slots-few))
        (omega (arith, slots-few, length-replicate {A = ℕ} 1024 0)) in (
          λ e k h.
              (available-test R.avail (owner_in own k) k).0
              (sym (ap (λ (w : ℕ). available_for R.avail w k) (same k h)) ∙ all-each R.slots (available_at R.avail o) e k h),
          λ O.
              each_all R.slots (available_at R.avail o)
              (λ k h.
              ap (λ (w : ℕ). available_for R.avail w k) (same k h) ∙ (available-test R.avail (owner_in own k) k).1 (O k h)),
        )

-- ---- the row

module _ (s : List ℕ) (room : ℕ) (J : JobFile s) where
  few-before : {k : ℕ} → 1 < k → PassBefore (job_tests s room) k → Few s
  unfolding job_tests read_row prepare_row
  few-before h P = P 1 h

  atoms-before : {k : ℕ} → 5 < k → PassBefore (job_tests s room) k → number_of (atom_tests s) ≡ 0
  unfolding job_tests read_row prepare_row number_of
  atoms-before h P = simp (P 3 (omega arith), P 4 (omega arith), P 5 h)

pub job-tests : JobTestsByRule
unfolding job_tests read_row prepare_row
job-tests s room = record {
  many = refl;
  layout = λ b. record { number = refl; passes = rule-13 s b };
  counts = λ J. record { number = refl; passes = counts-test s J };
  room = record { number = refl; passes = (leb-true 65536 room, le-leb 65536 room) };
  base = λ J P. record { number = refl; passes = slots-test s J (few-before s room J (lit< tt) P) };
  ranges = λ J P. record { number = refl; passes = ranges-test s J (few-before s room J (lit< tt) P) };
  atoms = λ J P. record { number = refl; passes = atoms-test s J (few-before s room J (lit< tt) P) };
  figures = λ J P. record { number = refl; passes = figures-test s J (few-before s room J (lit< tt) P) };
  settings = λ J P. record { number = refl; passes = settings-test s J (few-before s room J (lit< tt) P) };
  even = λ J P. record {
    number = refl;
    passes =
        subst (λ (R : Ready). ((test_at (job_tests s room) 8).passes ≡ true) ↔ OwnersEven J.records R) (ready-same s J)
        (even-test s J (few-before s room J (lit< tt) P) (atoms-before s room J (lit< tt) P) (P 7 (lit< tt)));
  };
  uneven = λ J P f.
      subst (λ (R : Ready). LowestFault R.units (UnitEven J.records R) (uneven_of s)) (ready-same s J)
      (uneven-test s J (few-before s room J (lit< tt) P) (atoms-before s room J (lit< tt) P) (P 7 (lit< tt)) f);
  known = λ J P. record {
    number = refl;
    passes =
        subst (λ (R : Ready). ((test_at (job_tests s room) 9).passes ≡ true) ↔ OwnersKnown J.records R) (ready-same s J)
        (known-right s J (few-before s room J (lit< tt) P) (atoms-before s room J (lit< tt) P));
  };
  able = λ J P. record {
    number = refl;
    passes =
        subst (λ (R : Ready). ((test_at (job_tests s room) 10).passes ≡ true) ↔ OwnersAble J.records R) (ready-same s J)
        (able-test s J (few-before s room J (lit< tt) P) (atoms-before s room J (lit< tt) P) (P 9 (lit< tt)));
  };
}
