-- What a file whose layout and counts are right leaves known, and the parts that the stages return. Assumes nothing.
use Rattle.std.specs.Prelude.{Ok, Err}
use mathlib.Core.Path.{◌≡◌, refl, sym, ap, ap₂, ◌∙◌, subst}
use mathlib.Core.Logic.{⊎_elim}
use mathlib.Core.Bool.{Bool, true, cond}
use mathlib.Core.List.{List}
use Prim.Native.Nat.{ℕ, ◌+◌, ◌*◌, ◌≤◌, ◌<◌}
use native.Mathlib.Omega.{arith}
use borrow.Author.Tests.{leb-true, eqb-true}
use lib.Dec.{eqb, lit<, lit≤}
use lib.Ieee.{Float}
use lib.IntN.{ℤ, pos}
use lib.ListN.{length, get_or, replicate}
use Rattle.paper.specs.Limits.{number_of}
use Rattle.paper.specs.declared.Refusal.{Refusal}
use Rattle.paper.proofs.Rows.{passed}
use Rattle.paper.proofs.Logic.{by-test, both, lt-or-ge, people-says, slot-count-says}
use Rattle.paper.specs.Rows.{unless, refusal_of, answer_refusal}
use Rattle.slots.specs.Ranges.{Ranges, ranges}
use Rattle.slots.specs.Atomic as atomic
use Rattle.slots.specs.Availability.{availability_of}
use Rattle.units.specs.declared.Settings.{Settings}
use Rattle.units.specs.Starts.{unit_starts_is}
use Rattle.targets.specs.Outcome as targets
use Rattle.owners.specs.Derived.{plan, derived}
use Rattle.owners.specs.Entries as state
use Rattle.records.specs.Fields.{le}
use Rattle.records.specs.Records.{block_at, count_of, walk_ok}
use Rattle.records.proofs.Sequences.{counted-at, block-le, field_room}
use Rattle.records.proofs.Walks.{record-says}
use Rattle.job.specs.declared.Atoms.{Atoms}
use Rattle.job.specs.declared.JobSlots.{JobSlots}
use Rattle.job.specs.declared.JobUnits.{JobUnits}
use Rattle.job.specs.declared.Started.{Started}
use Rattle.job.specs.File.{job_layout, job_sizes, file_most, job_counts, job_starts, rest_ok, file_ok}
use Rattle.job.specs.Columns.{column, float_column}
use Rattle.job.specs.Stages.{job_counts_ok, instant_of}
use Rattle.job.specs.Stages.{counted, block_start, people_of, column_of, ranges_of, capacities_of, priors_of, settings_in, draw_columns}
use Rattle.job.specs.Stages.{draws_of, value_of, base_of, atoms_of, avail_in, targets_in, units_in, frozen_in, Ready, ready, ready_in, ready_of}
use Rattle.job.specs.Stages.{placed, all_even, uneven_in, narrowed, written_of, uneven_of, owners_of, start_of, started_of}
use Rattle.job.specs.Outcome.{read_row, prepare_row}
use Rattle.job.specs.Inside.{ReadOk, Refuses, AtomsIn, AtomsAs, SlotsIn, SlotsAs, UnitsIn, UnitsAs, TargetsIn, TargetsAs, owners_row, owners_tests}
use Rattle.job.specs.Inside.{OwnersIn, OwnersAs, StartedIn, StartedAs, PreparedIn, PreparedAs}
use Rattle.job.proofs.Files.{count_at, start-at, owners-end}
use Rattle.job.proofs.Prepares.{few-says}
use Rattle.job.proofs.Passing.{frozen-length}
use Rattle.job.proofs.Answered.{owner_tests, slots-stop, shares-stop, units-stop, owners-stop, rota-is, rota-stop}
use Rattle.std.specs.Prelude.{Result}
use Rattle.owners.specs.Entries.{placeless}
use Rattle.units.specs.Answers.{Written}

module _ {s c b : List ℕ} (K : ReadOk s c b) where
  count-is : (i : ℕ) → i < 7 → get_or c i 0 ≡ count_of job_layout s i
  count-is i h = count_at s c K.counts i h

  start_is : (i : ℕ) → i < 7 → get_or b i 0 ≡ block_at job_layout s i
  start_is i h = start-at s b K.starts i h

  pub read-block : (i : ℕ) → i < 7 → get_or b i 0 ≤ length s
  read-block i h = omega (arith, start_is i h, block-le job_layout s i)

  -- a field of record k of kind i + 1
  pub read-room : (i off n : ℕ) → i < 7 → off + n ≤ get_or job_sizes i 0 → (k : ℕ) → k < get_or c i 0
      → get_or b i 0 + (4 + off) + k * (4 + get_or job_sizes i 0) + n ≤ length s
  read-room i off n h l k g =
      omega (arith, field_room job_layout s i k off n (omega (arith, count-is i h)) l, start_is i h)

  pub read-owners : get_or b 5 0 + get_or c 5 0 * 8 ≤ length s
  read-owners = owners-end s c b K.counts K.starts

  pub read-freeze : (get_or c 4 0 ≡ 0 → ⊥) → get_or b 4 0 + 8 ≤ length s
  read-freeze h =
      ⊎_elim
      (λ (l : 0 < get_or c 4 0). omega (arith, read-room 4 0 4 (lit< tt) (lit≤ tt) 0 l))
      (λ (g : get_or c 4 0 ≤ 0). absurd (h (omega arith)))
      (lt-or-ge 0 (get_or c 4 0))

  one-settings : count_of job_layout s 0 ≡ 1
  unfolding file_ok rest_ok
  one-settings =
      let x = both (walk_ok job_layout file_most s) (rest_ok s (count_of job_layout s 0) (count_of job_layout s 4) (block_at job_layout s 5)
      (count_of job_layout s 5)) K.ok in
      eqb-true (count_of job_layout s 0) 1 (both (eqb (count_of job_layout s 0) 1) _ x.1).0

  pub read-settings : 12 ≤ length s
  unfolding block_at
  read-settings =
      omega (arith, (record-says s 1 8 _ (counted-at job_layout s 0 0 (omega (arith, one-settings)))).0)

  pub read-few : (1 ≤ get_or c 1 0) × (get_or c 1 0 ≤ 1024) × (get_or c 2 0 ≤ 32) × (get_or c 3 0 ≤ 1024) × (get_or c 6 0 ≤ 1024)
  read-few =
      let x = few-says (get_or c 1 0) (get_or c 2 0) (get_or c 3 0) (get_or c 6 0) K.few in
      let y = slot-count-says (get_or c 1 0) x.0 in
      (y.0, y.1, (people-says (get_or c 2 0) x.1).1, leb-true _ _ x.2, leb-true _ _ x.3)

-- ---- the atomic slots are not too many

pub atoms-few : (B : atomic.Base) (a : Atoms) → AtomsIn (atomic.atomise_of B) a → a.count ≤ 1024
unfolding atomic.atomise_of atomic.atomise_row atomic.base_row Rattle.paper.specs.Rows.answer_as unless
atoms-few B a w =
    by-test (eqb (number_of (atomic.atomise_row B)) 0) (a.count ≤ 1024)
    (λ t.
    let z = eqb-true (number_of (atomic.atomise_row B)) 0 t in
    let l = passed (atomic.atomise_row B) refl z 8 in
    omega (
      arith,
      leb-true (length (atomic.starts_of_atoms B)) 1024 l,
      sym (ap value_of w.answer)
          ∙ ap (λ (q : Bool). value_of (cond q (Ok (length (atomic.starts_of_atoms B)))
          (Err (number_of (atomic.atomise_row B))))) t,
    ))
    (λ f.
    omega (
      arith,
      sym (ap value_of w.answer) ∙ ap (λ (q : Bool). value_of (cond q (Ok (length (atomic.starts_of_atoms B)))
          (Err (number_of (atomic.atomise_row B))))) f,
    ))

-- ---- the columns of a file that was read

module _ {s c b : List ℕ} (K : ReadOk s c b) where
  -- where the counts and places that were read stand, those of the file do
  pub read_as : {A : Type 0} (f : List ℕ → List ℕ → A) → f c b ≡ f (job_counts s) (job_starts s)
  read_as f = ap₂ f K.counts K.starts

  pub read-column : (i off n : ℕ) → column n s (get_or b i 0 + (4 + off)) (4 + get_or job_sizes i 0) (get_or c i 0) ≡ column_of s i off n
  read-column i off n =
      read_as (λ (d e : List ℕ). column n s (get_or e i 0 + (4 + off)) (4 + get_or job_sizes i 0) (get_or d i 0))

  pub read-floats : float_column s (get_or b 2 0 + 4) 16 (get_or c 2 0) ≡ capacities_of s
  read-floats = read_as (λ (d e : List ℕ). float_column s (get_or e 2 0 + 4) 16 (get_or d 2 0))

  pub read_count : (i : ℕ) → get_or c i 0 ≡ counted s i
  read_count i = ap (λ (d : List ℕ). get_or d i 0) K.counts

  pub read-start : (i : ℕ) → get_or b i 0 ≡ block_start s i
  read-start i = ap (λ (e : List ℕ). get_or e i 0) K.starts

  pub read-instant : cond (eqb (get_or c 4 0) 0) 0 (le 4 s (get_or b 4 0 + 4)) ≡ instant_of s
  read-instant = read_as (λ (d e : List ℕ). cond (eqb (get_or d 4 0) 0) 0 (le 4 s (get_or e 4 0 + 4)))

  ranges-is : {ps os sh : List ℕ} → ps ≡ column_of s 3 0 2 → os ≡ column_of s 3 2 4 → sh ≡ column_of s 3 6 4
      → ranges (get_or c 3 0) ps os sh ≡ ranges_of s
  ranges-is {ps} {os} {sh} p o h =
      ap₂ (λ (n : ℕ) (x : List ℕ). ranges n x os sh) (read_count 3) p
      ∙ ap₂ (λ (y z : List ℕ). ranges (counted s 3) (column_of s 3 0 2) y z) o h

  pub draws-is : {k o t : List ℕ} → k ≡ column_of s 6 0 2 → o ≡ column_of s 6 2 2 → t ≡ column_of s 6 4 2
      → draw_columns (get_or c 6 0) k o t ≡ draws_of s
  unfolding draws_of
  draws-is {k} {o} {t} p q r =
      ap₂ (λ (n : ℕ) (x : List ℕ). draw_columns n x o t) (read_count 6) p
      ∙ ap₂ (λ (y z : List ℕ). draw_columns (counted s 6) (column_of s 6 0 2) y z) q r

  -- ---- the stages

  atoms-are : (st en ps os sh : List ℕ) → st ≡ column_of s 1 0 4 → en ≡ column_of s 1 4 4 → ps ≡ column_of s 3 0 2
      → os ≡ column_of s 3 2 4 → sh ≡ column_of s 3 6 4
      → atomic.base (get_or c 1 0) st en (get_or c 2 0) (ranges (get_or c 3 0) ps os sh) (replicate 1024 0) (replicate 1024 0) ≡ base_of s
  unfolding base_of
  atoms-are st en ps os sh p q r t u =
      ap₂ (λ (n : ℕ) (Q : Ranges). atomic.base n st en (get_or c 2 0) Q (replicate 1024 0) (replicate 1024 0)) (read_count 1) (ranges-is r t u)
      ∙ ap₂ (λ (x y : List ℕ). atomic.base (counted s 1) x y (get_or c 2 0) (ranges_of s) (replicate 1024 0) (replicate 1024 0)) p q
      ∙ ap (λ (n : ℕ). atomic.base (counted s 1) (column_of s 1 0 4) (column_of s 1 4 4) n (ranges_of s) (replicate 1024 0)
      (replicate 1024 0)) (read_count 2)

  pub slots-refused : (st en ps os sh : List ℕ) (f : Refusal) → st ≡ column_of s 1 0 4 → en ≡ column_of s 1 4 4 → ps ≡ column_of s 3 0 2
      → os ≡ column_of s 3 2 4 → sh ≡ column_of s 3 6 4
      → AtomsAs (atomic.atomise_of (atomic.base (get_or c 1 0) st en (get_or c 2 0) (ranges (get_or c 3 0) ps os sh) (replicate 1024 0)
      (replicate 1024 0))) (Err f)
      → SlotsAs s (Err f)
  unfolding atoms_of
  slots-refused st en ps os sh f p q r t u A =
      subst (λ (B : atomic.Base). AtomsAs (atomic.atomise_of B) (Err f)) (atoms-are st en ps os sh p q r t u) A

  pub slots-are : (st en ps os sh av : List ℕ) (a : Atoms) → st ≡ column_of s 1 0 4 → en ≡ column_of s 1 4 4 → ps ≡ column_of s 3 0 2
      → os ≡ column_of s 3 2 4 → sh ≡ column_of s 3 6 4
      → AtomsIn (atomic.atomise_of (atomic.base (get_or c 1 0) st en (get_or c 2 0) (ranges (get_or c 3 0) ps os sh) (replicate 1024 0)
      (replicate 1024 0))) a
      → av ≡ availability_of (get_or c 2 0) a.count a.starts a.ends (ranges (get_or c 3 0) ps os sh) (replicate 512 0)
      → length av ≡ 512
      → SlotsIn s (record { count = a.count; starts = a.starts; ends = a.ends; avail = av })
  unfolding atoms_of avail_in
  slots-are st en ps os sh av a p q r t u A v l =
      let X : AtomsIn (atoms_of s) a =
      subst (λ (B : atomic.Base). AtomsIn (atomic.atomise_of B) a) (atoms-are st en ps os sh p q r t u) A in
      record {
        answer = X.answer;
        starts = X.starts;
        ends = X.ends;
        avail = v ∙ ap₂ (λ (n : ℕ) (Q : Ranges). availability_of n a.count a.starts a.ends Q (replicate 512 0)) (read_count 2) (ranges-is r t u);
        few = atoms-few (base_of s) a X;
        starts-room = X.starts-room;
        ends-room = X.ends-room;
        avail-room = l;
      }

  pub targets-are : (n : ℕ) (S E av : List ℕ) (cp : List Float) (pr : List ℕ) (st : Settings) (h : Result (List ℤ) Refusal) → cp ≡ capacities_of s
      → pr ≡ priors_of s → st ≡ settings_in s
      → TargetsAs (targets.compute_targets (targets.given (get_or c 2 0) n S E av cp pr st.fairness st.edition) (replicate 32 (pos
      0))) h
      → TargetsAs (targets_in s n S E av) h
  unfolding targets_in
  targets-are n S E av cp pr st h p q t w =
      subst (λ (g : targets.Given). TargetsAs (targets.compute_targets g (replicate 32 (pos 0))) h)
      (ap₂ (λ (m : ℕ) (x : List Float). targets.given m n S E av x pr st.fairness st.edition) (read_count 2) p
      ∙ ap₂ (λ (y : List ℕ) (z : Settings). targets.given (people_of s) n S E av (capacities_of s) y z.fairness z.edition) q t)
      w

  pub frozen-are : (n : ℕ) (S E fz : List ℕ) (i : ℕ) → i ≡ cond (eqb (get_or c 4 0) 0) 0 (le 4 s (get_or b 4 0 + 4))
      → fz ≡ frozen_in n S E (get_or c 4 0) i → fz ≡ frozen_in n S E (counted s 4) (instant_of s)
  frozen-are n S E fz i e w = w ∙ ap₂ (λ (k j : ℕ). frozen_in n S E k j) (read_count 4) (e ∙ read-instant)

  -- ---- all that was prepared

  all-few : job_counts_ok (counted s 1) (people_of s) (counted s 3) (counted s 6) ≡ true
  all-few = sym (read_as (λ (d e : List ℕ). job_counts_ok (get_or d 1 0) (get_or d 2 0) (get_or d 3 0) (get_or d 6 0))) ∙ K.few

  -- what a stage refuses, the file is refused
  stopped : {n : ℕ} {f : Refusal} → Refuses n f → placeless n ≡ refusal_of (prepare_row s) → PreparedAs s (Err f)
  stopped R e = (R.said ∙ e, λ z. R.some (sym (ap (λ (v : Refusal). v.number) R.said) ∙ z))

  pub slots-refuse : (f : Refusal) → SlotsAs s (Err f) → PreparedAs s (Err f)
  slots-refuse f R = stopped R (slots-stop s all-few R.some)

  module _ (S : JobSlots) (A : SlotsIn s S) where
    count-of : S.count ≡ value_of (atoms_of s).answer
    count-of = sym (ap value_of A.answer)

    slots-none : answer_refusal (atoms_of s).answer ≡ 0
    slots-none = ap answer_refusal A.answer

    slots_as : {X : Type 0} (f : ℕ → List ℕ → List ℕ → List ℕ → X) → f S.count S.starts S.ends S.avail
        ≡ f (ready_of s).slots (ready_of s).starts (ready_of s).ends (ready_of s).avail
    unfolding ready_of ready_in
    slots_as f =
        ap (f S.count S.starts S.ends) A.avail
        ∙ ap₂ (λ (n : ℕ) (x : List ℕ). f n x S.ends (avail_in s n x S.ends)) count-of A.starts
        ∙ ap (λ (y : List ℕ). f (value_of (atoms_of s).answer) (atoms_of s).starts y
        (avail_in s (value_of (atoms_of s).answer) (atoms_of s).starts y)) A.ends

    shares_as : (targets_in s S.count S.starts S.ends S.avail).number
        ≡ (targets_in s (ready_of s).slots (ready_of s).starts (ready_of s).ends (ready_of s).avail).number
    shares_as = slots_as (λ (n : ℕ) (x y a : List ℕ). (targets_in s n x y a).number)

    units_as : (units_in s S.count S.starts S.ends) ≡ units_in s (ready_of s).slots (ready_of s).starts (ready_of s).ends
    units_as = slots_as (λ (n : ℕ) (x y a : List ℕ). units_in s n x y)

    pub targets-refuse : (f : Refusal) → TargetsAs (targets_in s S.count S.starts S.ends S.avail) (Err f) → PreparedAs s (Err f)
    targets-refuse f R =
        stopped (record { said = R.said ∙ ap placeless shares_as; some = λ z. R.some (shares_as ∙ z) })
        (shares-stop s all-few slots-none (λ z. R.some (shares_as ∙ z)))

    module _ (T : List ℤ) (B : TargetsIn (targets_in s S.count S.starts S.ends S.avail) T) (st : Settings) (C : st ≡ settings_in s) where
      shares-none : (targets_in s (ready_of s).slots (ready_of s).starts (ready_of s).ends (ready_of s).avail).number ≡ 0
      shares-none = sym shares_as ∙ B.number

      written_as : unit_starts_is st S.count S.starts S.ends (replicate 1024 0) ≡ units_in s S.count S.starts S.ends
      unfolding units_in
      written_as = ap (λ (z : Settings). unit_starts_is z S.count S.starts S.ends (replicate 1024 0)) C

      answer_as : answer_refusal (unit_starts_is st S.count S.starts S.ends (replicate 1024 0)).answer
          ≡ answer_refusal (units_in s (ready_of s).slots (ready_of s).starts (ready_of s).ends).answer
      answer_as = ap (λ (w : Written). answer_refusal w.answer) (written_as ∙ units_as)

      pub units-refuse : (f : Refusal) → UnitsAs (unit_starts_is st S.count S.starts S.ends (replicate 1024 0)) (Err f)
          → PreparedAs s (Err f)
      units-refuse f R =
          stopped (record { said = R.said ∙ ap placeless answer_as; some = λ z. R.some (answer_as ∙ z) })
          (units-stop s all-few slots-none shares-none (λ z. R.some (answer_as ∙ z)))

      module _ (U : JobUnits) (D : UnitsIn (unit_starts_is st S.count S.starts S.ends (replicate 1024 0)) U) where
        units-none : answer_refusal (units_in s (ready_of s).slots (ready_of s).starts (ready_of s).ends).answer ≡ 0
        units-none = sym answer_as ∙ ap answer_refusal D.answer

        -- the units that were found, in place of those of the file
        unit_count : U.count ≡ value_of (units_in s S.count S.starts S.ends).answer
        unit_count = sym (ap value_of D.answer) ∙ ap (λ (w : Written). value_of w.answer) written_as

        unit_begins : U.begins ≡ (units_in s S.count S.starts S.ends).buffer
        unit_begins = D.begins ∙ ap (λ (w : Written). w.buffer) written_as

        abbrev got : List ℕ → Ready
        got fz = ready (get_or c 2 0) S.count S.starts S.ends S.avail U.count U.begins fz T

        module _ (fz : List ℕ) (G : fz ≡ frozen_in S.count S.starts S.ends (counted s 4) (instant_of s)) where
          got_in : got fz ≡ ready_in s S.count S.starts S.ends S.avail
          unfolding ready_in
          got_in =
              ap₂ (λ (p u : ℕ). ready p S.count S.starts S.ends S.avail u U.begins fz T) (read_count 2) unit_count
              ∙ ap₂ (λ (f z : List ℕ). ready (people_of s) S.count S.starts S.ends S.avail
              (value_of (units_in s S.count S.starts S.ends).answer) f z T) unit_begins G
              ∙ ap (λ (t : List ℤ). ready (people_of s) S.count S.starts S.ends S.avail
              (value_of (units_in s S.count S.starts S.ends).answer) (units_in s S.count S.starts S.ends).buffer
              (frozen_in S.count S.starts S.ends (counted s 4) (instant_of s)) t) B.targets

          got-ready : got fz ≡ ready_of s
          unfolding ready_of
          got-ready =
              got_in ∙ ap (ready_in s S.count S.starts S.ends) A.avail
              ∙ ap₂ (λ (n : ℕ) (x : List ℕ). ready_in s n x S.ends (avail_in s n x S.ends)) count-of A.starts
              ∙ ap (λ (y : List ℕ). ready_in s (value_of (atoms_of s).answer) (atoms_of s).starts y
              (avail_in s (value_of (atoms_of s).answer) (atoms_of s).starts y)) A.ends

        abbrev right : Ready
        right = got (frozen_in S.count S.starts S.ends (counted s 4) (instant_of s))

        right-is : right ≡ ready_of s
        right-is = got-ready (frozen_in S.count S.starts S.ends (counted s 4) (instant_of s)) refl

        written_is : placed s (get_or b 5 0) S.count (get_or c 5 0) ≡ written_of s
        unfolding written_of
        written_is =
            ap₂ (λ (i j : ℕ). placed s i S.count j) (read-start 5) (read_count 5)
            ∙ ap (λ (R : Ready). placed s (block_start s 5) R.slots (counted s 5)) right-is

        tests_as : owners_tests s (get_or b 5 0) (get_or c 5 0) S.count (get_or c 2 0) U.count U.begins ≡ owner_tests s
        unfolding owners_row uneven_of
        tests_as =
            ap₂ (λ (i j : ℕ). owners_row s i j S.count (get_or c 2 0) (all_even S.count U.count U.begins
            (placed s (get_or b 5 0) S.count (get_or c 5 0))) (uneven_in S.count U.count U.begins
            (placed s (get_or b 5 0) S.count (get_or c 5 0)))) (read-start 5) (read_count 5)
            ∙ ap₂ (λ (R : Ready) (o : List ℕ). owners_row s (block_start s 5) (counted s 5) R.slots R.people
            (all_even R.slots R.units R.begins o) (uneven_in R.slots R.units R.begins o)) right-is written_is

        pub owners-refuse : (f : Refusal) → OwnersAs s (get_or b 5 0) (get_or c 5 0) S.count (get_or c 2 0) U.count U.begins (Err f)
            → PreparedAs s (Err f)
        owners-refuse f R =
            (owners-stop s all-few slots-none shares-none units-none f (R.0 ∙ ap refusal_of tests_as) R.1, R.1)

        module _ (O : List ℕ) (E : OwnersIn s (get_or b 5 0) (get_or c 5 0) S.count (get_or c 2 0) U.count U.begins O) where
          owners-none : number_of (owner_tests s) ≡ 0
          owners-none = sym (ap number_of tests_as) ∙ E.passes

          owners-is : O ≡ owners_of s
          unfolding owners_of
          owners-is = E.owners ∙ ap narrowed written_is

          started-is : state.from_slots (plan (get_or c 2 0) S.count S.starts S.ends) S.avail O
              (derived (replicate 512 0) (replicate 32 0) (replicate 2 0)) ≡ started_of s
          unfolding started_of start_of
          started-is = ap₂ (λ (R : Ready) (o : List ℕ). start_of R o) right-is owners-is

          rota_as : (state.from_slots (plan (get_or c 2 0) S.count S.starts S.ends) S.avail O
              (derived (replicate 512 0) (replicate 32 0) (replicate 2 0))).refusal.number ≡ (started_of s).refusal.number
          rota_as = ap (λ (y : state.Outcome). y.refusal.number) started-is

          pub rota-refuse : (f : Refusal) → StartedAs (state.from_slots (plan (get_or c 2 0) S.count S.starts S.ends) S.avail O
              (derived (replicate 512 0) (replicate 32 0) (replicate 2 0))) (Err f) → PreparedAs s (Err f)
          rota-refuse f R =
              stopped (record { said = R.said ∙ ap placeless rota_as; some = λ z. R.some (rota_as ∙ z) })
              (rota-stop s all-few slots-none shares-none units-none owners-none)

          pub prepared-are : (W : Started) (F : StartedIn (state.from_slots (plan (get_or c 2 0) S.count S.starts S.ends) S.avail O
              (derived (replicate 512 0) (replicate 32 0) (replicate 2 0))) W) (fz : List ℕ)
              → fz ≡ frozen_in S.count S.starts S.ends (counted s 4) (instant_of s)
              → PreparedIn s (record {
                people = get_or c 2 0;
                slots = S.count;
                starts = S.starts;
                ends = S.ends;
                avail = S.avail;
                units = U.count;
                begins = U.begins;
                frozen = fz;
                targets = T;
                owners = O;
                sets = W.sets;
                minutes = W.minutes;
                totals = W.totals;
              })
          prepared-are W F fz G =
              record {
                passes = sym (rota-is s all-few slots-none shares-none units-none owners-none) ∙ sym rota_as ∙ F.number;
                ready = got-ready fz G;
                owners = owners-is;
                derived = F.derived ∙ ap (λ (y : state.Outcome). y.derived) started-is;
                slots-few = A.few;
                people-few = (read-few K).2;
                starts-room = A.starts-room;
                ends-room = A.ends-room;
                begins-room = D.room;
                frozen-room = ap length G ∙ frozen-length _ _ _ _ _;
                targets-room = B.room;
              }

-- ---- the whole file

pub read-refusal : (s c : List ℕ) (ok room : Bool) → ok ≡ file_ok s → c ≡ job_counts s
    → refusal_of (read_row ok (get_or c 1 0) (get_or c 2 0) (get_or c 3 0) (get_or c 6 0) room)
    ≡ refusal_of (read_row (file_ok s) (counted s 1) (people_of s) (counted s 3) (counted s 6) room)
read-refusal s c ok room p q =
    ap₂ (λ (k : Bool) (d : List ℕ). refusal_of (read_row k (get_or d 1 0) (get_or d 2 0) (get_or d 3 0) (get_or d 6 0) room)) p q

pub read_number : (s c : List ℕ) (ok room : Bool) → ok ≡ file_ok s → c ≡ job_counts s
    → number_of (read_row ok (get_or c 1 0) (get_or c 2 0) (get_or c 3 0) (get_or c 6 0) room)
    ≡ number_of (read_row (file_ok s) (counted s 1) (people_of s) (counted s 3) (counted s 6) room)
read_number s c ok room p q =
    ap₂ (λ (k : Bool) (d : List ℕ). number_of (read_row k (get_or d 1 0) (get_or d 2 0) (get_or d 3 0) (get_or d 6 0) room)) p q

pub read_ok : (s c b : List ℕ) (ok room : Bool) → ok ≡ file_ok s → c ≡ job_counts s → b ≡ job_starts s
    → number_of (read_row ok (get_or c 1 0) (get_or c 2 0) (get_or c 3 0) (get_or c 6 0) room) ≡ 0 → ReadOk s c b × (room ≡ true)
unfolding read_row
read_ok s c b ok room p q r z =
    let h = passed (read_row ok (get_or c 1 0) (get_or c 2 0) (get_or c 3 0) (get_or c 6 0) room) refl z in
    (record { ok = sym p ∙ h 0; counts = q; starts = r; few = h 1 }, h 2)
