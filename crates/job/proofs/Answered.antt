-- What a job answers, and what it lists: the whole outcome by the row of its tests. Assumes nothing.
use mathlib.Core.Path.{◌≡◌, refl, sym, ap, ap₂, ◌∙◌, subst}
use mathlib.Core.Bool.{true}
use mathlib.Core.List.{List, [], ◌∷◌, ◌++◌}
use Prim.Native.Nat.{ℕ, ◌+◌, ◌-◌, ◌*◌, ◌^◌, ◌≤◌, ◌<◌}
use native.Mathlib.Omega.{arith}
use borrow.Author.Tests.{le-leb, leb-true}
use lib.Dec.{leb, lit<, lit≤}
use lib.Ieee.{binary64, of_bits}
use lib.IntN.{pos}
use lib.ListN.{length, get_or, replicate, length-map, length-replicate}
use Rattle.paper.specs.Limits.{people_ok, slot_count_ok, or_else, Test, test, number_of}
use Rattle.paper.specs.Rows.{unless, answer_refusal, refusal_of}
use lib.Signed.{mag}
use lib.ListN.{take}
use Rattle.paper.specs.Count.{all}
use Rattle.paper.proofs.Logic.{and-true, cond-zero, people-says, slot-count-says}
use Rattle.paper.proofs.Count.{sum_same}
use Rattle.slotset.specs.Slots.{slot}
use Rattle.slots.specs.Lent.{slot_room_ok, slots_ok, minutes_at, demand_of}
use Rattle.slots.specs.Ranges.{range_count_ok, range_room_ok, ranges_ok}
use Rattle.slots.specs.Atomic as atomic
use Rattle.slots.proofs.AtomLaws.{BaseFits}
use Rattle.units.specs.Settings.{settings_ok}
use Rattle.units.specs.Units.{units_ok}
use Rattle.units.proofs.Units.{unit-within}
use Rattle.targets.specs.Figures.{all_figures_ok}
use Rattle.targets.specs.Outcome as targets
use Rattle.targets.proofs.Accepted.{Lent}
use Rattle.targets.specs.Remainder.{sumℤ}
use Rattle.targets.proofs.Promises.{targets-add-up}
use Rattle.targets.proofs.Sized.{accepted-sized}
use Rattle.owners.specs.Recount.{available_at}
use Rattle.job.specs.Columns.{column, float_column}
use Rattle.job.specs.Stages.{counted, block_start, people_of, job_counts_ok, ranges_of, capacities_of, priors_of, settings_in, instant_of}
use Rattle.job.specs.Stages.{draws_of}
use Rattle.job.specs.Stages.{base_total, value_of, base_of, atoms_of, avail_in, targets_in, units_in, ready_in, ready_of, all_even, all_known}
use Rattle.job.specs.Stages.{written_of, uneven_of, owners_of, started_of}
use Rattle.job.specs.Outcome.{AllPass, read_row, prepare_row, job_tests, refusal_at}
use Rattle.job.proofs.Files.{length-column, column-at}
use Rattle.job.proofs.Tests.{Numbered, Rising, step, ByNumber, refusal-by}
use Rattle.job.proofs.Prepares.{few-says}
use Rattle.job.proofs.Passing.{atoms-refused, AtomsSound, atoms-sound, avail-length, frozen-length, frozen-at, lent-room}
use Rattle.job.proofs.Passing.{shares-refused}
use Rattle.job.proofs.Passing.{units-refusal, units-right, units-fit, right-flags, first-is, owners-known, owners-even}
use Rattle.job.proofs.Passing.{narrowed-length}
use Rattle.job.proofs.Rotas.{RotaSound, start-number}
use Rattle.paper.specs.Limits.{test_in}
use Rattle.owners.specs.Entries.{placeless}
use Rattle.paper.proofs.Rows.{worked, kept, said}
use Rattle.paper.specs.declared.Refusal.{Refusal}

-- ---- columns have the room that their counts may ask for

column-room : (width : ℕ) (s : List ℕ) (at stride n m : ℕ) → m ≤ 1024 → leb m (length (column width s at stride n)) ≡ true
column-room width s at stride n m h = le-leb m _ (omega (arith, length-column width s at stride n))

floats-room : (s : List ℕ) (at stride n m : ℕ) → m ≤ 1024 → leb m (length (float_column s at stride n)) ≡ true
unfolding float_column
floats-room s at stride n m h =
    le-leb m _ (omega (arith, length-map (column 8 s at stride n) (of_bits binary64), length-column 8 s at stride n))

-- the refusal is the one of its number
pub prepare-refusal : (s : List ℕ) → refusal_of (prepare_row s) ≡ refusal_at (number_of (prepare_row s)) (uneven_of s)
unfolding prepare_row refusal_at
prepare-refusal s =
    refusal-by (λ n. refusal_at n (uneven_of s)) refl (prepare_row s) (refl, (refl, (refl, (refl, (refl, (refl, (refl, (refl, tt))))))))

-- ---- the stages of a file, from the tests that it has passed

module _ (s : List ℕ) where
  abbrev pub Few : Type 0
  Few = job_counts_ok (counted s 1) (people_of s) (counted s 3) (counted s 6) ≡ true

  pub each-few : Few → (slot_count_ok (counted s 1) ≡ true) × (people_ok (people_of s) ≡ true)
      × (leb (counted s 3) 1024 ≡ true) × (leb (counted s 6) 1024 ≡ true)
  each-few e = few-says (counted s 1) (people_of s) (counted s 3) (counted s 6) e

  pub base-fits : Few → BaseFits (base_of s)
  unfolding base_of range_count_ok slot_room_ok range_room_ok
  base-fits e =
      let f = each-few e in
      let n = (slot-count-says (counted s 1) f.0).1 in
      let r = leb-true (counted s 3) 1024 f.2 in
      let full : leb 1024 (length (replicate {A = ℕ} 1024 0)) ≡ true =
      le-leb 1024 (length (replicate {A = ℕ} 1024 0)) (omega (arith, length-replicate {A = ℕ} 1024 0)) in
      record {
        people = f.1;
        slots = f.0;
        ranges = f.2;
        lent = and-true _ _ (column-room 4 s _ _ _ (counted s 1) n) (column-room 4 s _ _ _ (counted s 1) n);
        lent-ranges =
            and-true _ _ (column-room 2 s _ _ _ (counted s 3) r)
            (and-true _ _ (column-room 4 s _ _ _ (counted s 3) r) (column-room 4 s _ _ _ (counted s 3) r));
        out = and-true _ _ full full;
      }

  -- 3, 4 and 5

  abbrev pub atom_tests : List Test
  atom_tests =
      test 3 (slots_ok (base_of s).slots (base_of s).starts (base_of s).ends) ∷ test 4 (ranges_ok (base_of s).people (base_of s).ranges)
      ∷ test 5 (leb (length (atomic.starts_of_atoms (base_of s))) 1024) ∷ []

  atoms_are : atoms_of s ≡ atomic.atomise_of (base_of s)
  unfolding atoms_of
  atoms_are = refl

  atoms-number : Few → answer_refusal (atoms_of s).answer ≡ number_of atom_tests
  unfolding number_of
  atoms-number e =
      ap (λ (a : atomic.Atoms). answer_refusal a.answer) atoms_are ∙ atoms-refused (base_of s) (base-fits e)

  pub atoms-right : Few → number_of atom_tests ≡ 0
      → AtomsSound (base_of s) (ready_of s).slots (ready_of s).starts (ready_of s).ends
  unfolding number_of ready_of ready_in
  atoms-right e z =
      let p = cond-zero (slots_ok (base_of s).slots (base_of s).starts (base_of s).ends) _ 2 z in
      let q = cond-zero (ranges_ok (base_of s).people (base_of s).ranges) _ 3 p.1 in
      let r = cond-zero (leb (length (atomic.starts_of_atoms (base_of s))) 1024) 0 4 q.1 in
      subst (λ (a : atomic.Atoms). AtomsSound (base_of s) (value_of a.answer) a.starts a.ends) (sym atoms_are)
      (atoms-sound (base_of s) (base-fits e) p.0 q.0 r.0)

  -- 6 and 7

  abbrev figure_tests : List Test
  figure_tests =
      test 6 (all_figures_ok (people_of s) (capacities_of s) (priors_of s))
      ∷ test 7 (settings_ok (settings_in s)) ∷ []

  module _ (few : Few) (n : ℕ) (S E : List ℕ) (A : AtomsSound (base_of s) n S E) where
    people-few : people_of s ≤ 32
    people-few = (people-says (people_of s) (each-few few).1).1

    slots-few : n ≤ length (replicate {A = ℕ} 1024 0)
    slots-few = omega (arith, (slot-count-says n A.count-ok).1, length-replicate {A = ℕ} 1024 0)

    words-room : 16 * people_of s ≤ length (avail_in s n S E)
    unfolding avail_in
    words-room =
        omega (
          arith,
          people-few,
          avail-length (people_of s) n S E (ranges_of s) (replicate 512 0),
          length-replicate {A = ℕ} 512 0,
        )

    shares-lent : Lent (targets.given (people_of s) n S E (avail_in s n S E) (capacities_of s) (priors_of s) (settings_in s).fairness
        (settings_in s).edition) (length (replicate 32 (pos 0)))
    shares-lent = record {
      people-ok = (each-few few).1;
      slots-ok = A.count-ok;
      columns = lent-room n S E A.lent;
      words = words-room;
      capacities-room = leb-true _ _ (floats-room s _ 16 (people_of s) (people_of s) (omega (arith, people-few)));
      priors-room = leb-true _ _ (column-room 4 s _ 16 (people_of s) (people_of s) (omega (arith, people-few)));
      out-room = omega (arith, people-few, length-replicate 32 (pos 0));
    }

    shares-number : (targets_in s n S E (avail_in s n S E)).number
        ≡ or_else (all_figures_ok (people_of s) (capacities_of s)
        (priors_of s)) 6
        (or_else (leb (settings_in s).fairness 1) 7 (or_else (leb (settings_in s).edition 1) 7 0))
    unfolding targets_in
    shares-number = shares-refused _ (replicate 32 (pos 0)) shares-lent A.lent

    both-number : unless (targets_in s n S E (avail_in s n S E)).number (targets_in s n S E (avail_in s n S E)).number
        (answer_refusal (units_in s n S E).answer) ≡ number_of figure_tests
    unfolding number_of units_in
    both-number =
        ap₂ (λ (x y : ℕ). unless x x y) shares-number
        (units-refusal (settings_in s) n S E (replicate 1024 0) A.count-ok A.lent slots-few)
        ∙ first-is (settings_in s) (all_figures_ok (people_of s) (capacities_of s) (priors_of s))

  -- what a play goes by, part by part

  people-same : (ready_of s).people ≡ people_of s
  unfolding ready_of ready_in
  people-same = refl

  people-there : people_ok (people_of s) ≡ true → people_ok (ready_of s).people ≡ true
  people-there e = ap people_ok people-same ∙ e

  flags-there : 16 ≤ length (ready_of s).frozen
  unfolding ready_of ready_in
  flags-there =
      let a = atoms_of s in
      omega (arith, frozen-length (value_of a.answer) a.starts a.ends (counted s 4) (instant_of s))

  words-there : Few → AtomsSound (base_of s) (ready_of s).slots (ready_of s).starts (ready_of s).ends
      → 16 * (ready_of s).people ≤ length (ready_of s).avail
  unfolding ready_of ready_in
  words-there few A = words-room few _ _ _ A

  pub units-there : Few → AtomsSound (base_of s) (ready_of s).slots (ready_of s).starts (ready_of s).ends → settings_ok (settings_in s) ≡ true
      → (units_ok (ready_of s).slots (ready_of s).units (ready_of s).begins ≡ true) × ((ready_of s).units ≤ length (ready_of s).begins)
  unfolding ready_of ready_in units_in
  units-there few A ok =
      let a = atoms_of s in
      let n = value_of a.answer in
      let r = slots-few few n a.starts a.ends A in (
        units-right (settings_in s) n a.starts a.ends (replicate 1024 0) A.count-ok A.lent r ok,
        units-fit (settings_in s) n a.starts a.ends (replicate 1024 0) A.count-ok A.lent r ok,
      )

  figures-number : Few → number_of atom_tests ≡ 0
      → let t = (targets_in s (ready_of s).slots (ready_of s).starts (ready_of s).ends (ready_of s).avail).number in
      unless t t (answer_refusal (units_in s (ready_of s).slots (ready_of s).starts (ready_of s).ends).answer) ≡ number_of figure_tests
  unfolding ready_of ready_in
  figures-number few z = both-number few _ _ _ (atoms-right few z)

  -- 10 and 11

  abbrev pub owner_tests : List Test
  owner_tests =
      test_in 10 (all_even (ready_of s).slots (ready_of s).units (ready_of s).begins (written_of s)) 3 (uneven_of s) 0
      ∷ test 11 (all_known s (block_start s 5) (counted s 5) (ready_of s).slots (ready_of s).people) ∷ []

  rota-sound : Few → number_of atom_tests ≡ 0 → number_of figure_tests ≡ 0 → number_of owner_tests ≡ 0
      → RotaSound (ready_of s) (draws_of s) (owners_of s)
  unfolding number_of draws_of owners_of written_of
  rota-sound few a f o =
      let R = ready_of s in
      let A = atoms-right few a in
      let x = each-few few in
      let slots = (slot-count-says R.slots A.count-ok).1 in
      let ps = people-few few R.slots R.starts R.ends A in
      let ok = (cond-zero (settings_ok (settings_in s)) 0 6 (cond-zero
      (all_figures_ok (people_of s) (capacities_of s) (priors_of s)) _ 5 f).1).0 in
      let e = cond-zero (all_even R.slots R.units R.begins (written_of s)) _ 9 o in
      let k = (cond-zero (all_known s (block_start s 5) (counted s 5) R.slots R.people) 0 10 e.1).0 in
      let u = units-there few A ok in
      let draws = leb-true (counted s 6) 1024 x.3 in
      record {
        people-ok = people-there x.1;
        count-ok = A.count-ok;
        lent = A.lent;
        avail-room = words-there few A;
        owners-room = omega (arith, narrowed-length (written_of s));
        units-ok = u.0;
        units-room = u.1;
        flags-room = flags-there;
        draws-few = draws;
        draws-room = leb-true (counted s 6) _ (column-room 2 s _ _ _ (counted s 6) draws);
        firsts-room = leb-true (counted s 6) _ (column-room 2 s _ _ _ (counted s 6) draws);
        seconds-room = leb-true (counted s 6) _ (column-room 2 s _ _ _ (counted s 6) draws);
        known = owners-known s (block_start s 5) (counted s 5) R.slots R.people slots (omega (arith, ps, people-same)) k;
        even = owners-even R.slots R.units R.begins (written_of s) slots e.0
            (unit-within R.slots R.units R.begins u.0);
      }

  -- 12, and all of them

  abbrev start_tests : List Test
  start_tests = test 12 (all (ready_of s).slots (available_at (ready_of s).avail (owners_of s))) ∷ []

  -- the numbers of the stages, as they are put together: those of slots, of targets and units, of owners and of the rota
  pub prepare-number : Few → (a t u o r : ℕ) → a ≡ answer_refusal (atoms_of s).answer
      → t ≡ (targets_in s (ready_of s).slots (ready_of s).starts (ready_of s).ends (ready_of s).avail).number
      → u ≡ answer_refusal (units_in s (ready_of s).slots (ready_of s).starts (ready_of s).ends).answer → o ≡ number_of owner_tests
      → r ≡ (started_of s).refusal.number
      → let figures = unless t t u in
      let rota = unless o o r in
      let rest = unless figures figures rota in unless a a rest ≡ number_of (prepare_row s)
  unfolding prepare_row started_of number_of
  prepare-number few a t u o r A T U O W =
      let R = ready_of s in
      step atom_tests (figure_tests ++ (owner_tests ++ start_tests)) (lit< tt, (lit< tt, (lit< tt, tt))) a _ (A ∙ atoms-number few)
      (λ z. step figure_tests (owner_tests ++ start_tests) (lit< tt, (lit< tt, tt)) _ _
      (ap₂ (λ (x y : ℕ). unless x x y) T U ∙ figures-number few z)
      (λ f. step owner_tests start_tests (lit< tt, (lit< tt, tt)) o r O
      (λ e. W ∙ start-number R (draws_of s) (owners_of s) (rota-sound few z f e))))

  -- ---- a refusal of a stage, where those before it refuse nothing, is that of the file

  abbrev slots_number : ℕ
  slots_number = answer_refusal (atoms_of s).answer

  abbrev shares_number : ℕ
  shares_number = (targets_in s (ready_of s).slots (ready_of s).starts (ready_of s).ends (ready_of s).avail).number

  abbrev units_number : ℕ
  units_number = answer_refusal (units_in s (ready_of s).slots (ready_of s).starts (ready_of s).ends).answer

  abbrev rota_number : ℕ
  rota_number = (started_of s).refusal.number

  abbrev figures_number : ℕ
  figures_number = unless shares_number shares_number units_number

  abbrev owners_number : ℕ
  owners_number = unless (number_of owner_tests) (number_of owner_tests) rota_number

  abbrev rest_number : ℕ
  rest_number = unless figures_number figures_number owners_number

  whole : Few → unless slots_number slots_number rest_number ≡ number_of (prepare_row s)
  whole few = prepare-number few slots_number shares_number units_number (number_of owner_tests) rota_number refl refl refl refl refl

  -- of a row whose tests name no part
  plain : (ts : List Test) → ByNumber placeless ts → ByNumber (λ k. refusal_at k (uneven_of s)) ts → (n : ℕ) → n ≡ number_of ts
      → n ≡ number_of (prepare_row s) → placeless n ≡ refusal_of (prepare_row s)
  unfolding refusal_at
  plain ts b d n e k =
      ap placeless e ∙ sym (refusal-by placeless refl ts b) ∙ refusal-by (λ (m : ℕ). refusal_at m (uneven_of s)) refl ts d
      ∙ ap (λ (m : ℕ). refusal_at m (uneven_of s)) (sym e ∙ k) ∙ sym (prepare-refusal s)

  pub slots-stop : Few → (slots_number ≡ 0 → ⊥) → placeless slots_number ≡ refusal_of (prepare_row s)
  unfolding refusal_at
  slots-stop few h =
      plain atom_tests (refl, (refl, (refl, tt))) (refl, (refl, (refl, tt))) slots_number (atoms-number few)
      (sym (kept slots_number slots_number rest_number h) ∙ whole few)

  module _ (few : Few) (z : slots_number ≡ 0) where
    after-slots : rest_number ≡ number_of (prepare_row s)
    after-slots = sym (worked slots_number slots_number rest_number z) ∙ whole few

    atoms-none : number_of atom_tests ≡ 0
    atoms-none = sym (atoms-number few) ∙ z

    pub shares-stop : (shares_number ≡ 0 → ⊥) → placeless shares_number ≡ refusal_of (prepare_row s)
    unfolding refusal_at
    shares-stop h =
        let k = kept shares_number shares_number units_number h in
        plain figure_tests (refl, (refl, tt)) (refl, (refl, tt)) shares_number (sym k ∙ figures-number few atoms-none)
        (sym (ap (λ (f : ℕ). unless f f owners_number) k ∙ kept shares_number shares_number owners_number h) ∙ after-slots)

    module _ (t : shares_number ≡ 0) where
      units-are : figures_number ≡ units_number
      units-are = worked shares_number shares_number units_number t

      pub units-stop : (units_number ≡ 0 → ⊥) → placeless units_number ≡ refusal_of (prepare_row s)
      unfolding refusal_at
      units-stop h =
          plain figure_tests (refl, (refl, tt)) (refl, (refl, tt)) units_number (sym units-are ∙ figures-number few atoms-none)
          (sym (ap (λ (f : ℕ). unless f f owners_number) units-are ∙ kept units_number units_number owners_number h) ∙ after-slots)

      module _ (u : units_number ≡ 0) where
        figures-none : number_of figure_tests ≡ 0
        figures-none = sym (figures-number few atoms-none) ∙ units-are ∙ u

        after-figures : owners_number ≡ number_of (prepare_row s)
        after-figures = sym (worked figures_number figures_number owners_number (units-are ∙ u)) ∙ after-slots

        pub owners-stop : (f : Refusal) → f ≡ refusal_of owner_tests → (f.number ≡ 0 → ⊥) → f ≡ refusal_of (prepare_row s)
        unfolding refusal_at
        owners-stop f e h =
            let n = said owner_tests e in
            let k = sym (kept (number_of owner_tests) (number_of owner_tests) rota_number (λ v. h (n ∙ v))) ∙ after-figures in
            e ∙ refusal-by (λ (m : ℕ). refusal_at m (uneven_of s)) refl owner_tests (refl, (refl, tt))
            ∙ ap (λ (m : ℕ). refusal_at m (uneven_of s)) k ∙ sym (prepare-refusal s)

        module _ (o : number_of owner_tests ≡ 0) where
          pub rota-is : rota_number ≡ number_of (prepare_row s)
          rota-is = sym (worked (number_of owner_tests) (number_of owner_tests) rota_number o) ∙ after-figures

          pub rota-stop : placeless rota_number ≡ refusal_of (prepare_row s)
          unfolding refusal_at started_of number_of
          rota-stop =
              plain start_tests (refl, tt) (refl, tt) rota_number
              (start-number (ready_of s) (draws_of s) (owners_of s) (rota-sound few atoms-none figures-none o)) rota-is

-- ---- a job that passes all its tests

-- the numbers of the tests, in their order: none is 0, 13 comes first and the others rise
pub numbered : (s : List ℕ) (room : ℕ) → Numbered (job_tests s room)
unfolding job_tests read_row prepare_row
numbered s room =
    (lit< tt, (lit< tt, (lit< tt, (lit< tt, (lit< tt, (lit< tt, (lit< tt, (lit< tt, (lit< tt, (lit< tt, (lit< tt, tt)))))))))))

pub rising : (s : List ℕ) (room : ℕ) → Rising 0 (job_tests s room)
unfolding job_tests read_row prepare_row
rising s room =
    (lit≤ tt, (lit≤ tt, (lit≤ tt, (lit≤ tt, (lit≤ tt, (lit≤ tt, (lit≤ tt, (lit≤ tt, (lit≤ tt, (lit≤ tt, (lit≤ tt, tt)))))))))))

module _ (s : List ℕ) (room : ℕ) (A : AllPass (job_tests s room)) where
  few : Few s
  unfolding job_tests read_row prepare_row
  few = A 1 (lit< tt)

  pub free : all (ready_of s).slots (available_at (ready_of s).avail (owners_of s)) ≡ true
  unfolding job_tests read_row prepare_row
  free = A 10 (lit< tt)

  atoms : number_of (atom_tests s) ≡ 0
  unfolding job_tests read_row prepare_row number_of
  atoms = simp (A 3 (lit< tt), A 4 (lit< tt), A 5 (lit< tt))

  figures : number_of (figure_tests s) ≡ 0
  unfolding job_tests read_row prepare_row number_of
  figures = simp (A 6 (lit< tt), A 7 (lit< tt))

  owners : number_of (owner_tests s) ≡ 0
  unfolding job_tests read_row prepare_row number_of
  owners = simp (A 8 (lit< tt), A 9 (lit< tt))

  pub sound : RotaSound (ready_of s) (draws_of s) (owners_of s)
  sound = rota-sound s few atoms figures owners

  -- the demand of its atomic slots is the total of its base slots
  base_same : demand_of (base_of s).slots (base_of s).starts (base_of s).ends ≡ base_total s
  unfolding demand_of minutes_at base_total base_of
  base_same =
      let at = block_start s 1 in
      let n = (slot-count-says (counted s 1) (each-few s few).0).1 in
      sum_same (counted s 1) _ _
      (λ k h. ap₂ ◌-◌ (column-at 4 s (at + 8) 12 (counted s 1) k h n) (column-at 4 s (at + 4) 12 (counted s 1) k h n))

  pub demand-is : demand_of (ready_of s).slots (ready_of s).starts (ready_of s).ends ≡ base_total s
  demand-is = (atoms-right s few atoms).demand ∙ base_same

  -- and so is the sum of its targets
  shares-none : (targets_in s (ready_of s).slots (ready_of s).starts (ready_of s).ends (ready_of s).avail).number ≡ 0
  unfolding job_tests read_row prepare_row ready_of ready_in
  shares-none =
      let R = ready_of s in
      let f = right-flags (settings_in s) (A 7 (lit< tt)) in
      shares-number s few R.slots R.starts R.ends (atoms-right s few atoms) ∙ simp (A 6 (lit< tt), f.0, f.1)

  pub targets-right : (sumℤ (take (ready_of s).people (ready_of s).targets)
      ≡ pos (demand_of (ready_of s).slots (ready_of s).starts (ready_of s).ends))
      × ((p : ℕ) → p < (ready_of s).people → mag (get_or (ready_of s).targets p (pos 0)) < 2 ^ 63)
  unfolding ready_of ready_in targets_in
  targets-right = (targets-add-up _ _ shares-none, accepted-sized _ _ shares-none)

  -- slots that end by the instant of the freeze record are frozen
  pub frozen-there : (counted s 4 ≡ 0 → ⊥) → (k : ℕ) → k < (ready_of s).slots
      → get_or (ready_of s).ends k 0 ≤ instant_of s → slot (ready_of s).frozen 0 k ≡ 1
  unfolding ready_of ready_in
  frozen-there some k h e =
      let B = atoms-right s few atoms in
      let a = atoms_of s in
      frozen-at (value_of a.answer) a.starts a.ends (counted s 4) _ B.count-ok B.lent some k h e
