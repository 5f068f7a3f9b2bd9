-- A refusal as one number is read back: every number that an entry gives is small, and so is every place. Assumes nothing.
use Rattle.std.specs.Prelude.{Err}
use mathlib.Core.Path.{◌≡◌, refl, sym, ap, subst}
use mathlib.Core.Bool.{Bool, true, ◌&&◌}
use mathlib.Core.List.{List, [], ◌∷◌}
use Prim.Native.Nat.{ℕ, ◌≤◌, ◌<◌}
use native.Mathlib.Omega.{arith}
use borrow.Author.Tests.{eqb-true, eqb-false, ltb-true}
use lib.Dec.{eqb, ltb}
use lib.ListN.{length}
use Rattle.paper.specs.Limits.{Test, number_of}
use Rattle.paper.specs.declared.Refusal.{Refusal}
use Rattle.paper.specs.Rows.{accepted, refusal_of}
use Rattle.paper.proofs.Logic.{by-test, both, people-says, slot-count-says}
use Rattle.paper.proofs.Refusals.{number-pass, number-fail}
use Rattle.paper.proofs.Rows.{passed, said}
use Rattle.units.proofs.Units.{units-within}
use Rattle.owners.specs.Derived.{Plan, Derived}
use Rattle.owners.specs.Recount.{even_at, recount_tests}
use Rattle.owners.specs.Entries.{placeless, Outcome, outcome, lent_row, recount_row, recount_slots_row}
use Rattle.owners.proofs.Scans.{first-is}
use Rattle.rota.specs.Entries.{assign_row, assigned, played_list}
use Rattle.rota.specs.declared.draws.Draw.{Draw}
use Rattle.job.specs.Stages.{ready_of, written_of, uneven_in, uneven_of}
use Rattle.job.specs.Outcome.{read_row, prepare_row, job_tests, Outcome as JobOutcome, refused_as, listed_as, job_refusal, job_result}
use Rattle.job.proofs.Answered.{Few, atom_tests, atoms-right, units-there}
use Rattle.job.proofs.Results.{answered-none, answered-some}
use Rattle.boltraven_c.specs.Numbers.{refusal_number}
use Rattle.promises.specs.Entries.{Call, play_of, play_draws_of, of_draws}
use Rattle.promises.specs.Exports.{read_refusal, ReadsBack}
use Rattle.promises.specs.Places.{fault, FailsAt, unknown, unavailable, uneven, wrong-set, wrong-minutes, wrong-total, Places}
use Rattle.promises.proofs.Places.{with-units, slots-places, assign-places, before, fault-is, job-none}
use Rattle.promises.proofs.Rota.{draws-alike}

-- ---- a refusal whose numbers are small

pub record Small (f : Refusal) : Type 0 where
  number : f.number < 256
  part : f.part < 256
  place : f.place < 65536
  second : f.second < 65536

same-refusal : (f g : Refusal) → f.number ≡ g.number → f.part ≡ g.part → f.place ≡ g.place → f.second ≡ g.second → f ≡ g
same-refusal f g a b c d i = record { number = a i; part = b i; place = c i; second = d i }

pub small-back : (f : Refusal) → Small f → ReadsBack f
unfolding refusal_number
small-back f S =
    let a = S.number in
    let b = S.part in
    let c = S.place in
    let d = S.second in
    same-refusal (read_refusal (refusal_number f)) f (omega arith) (omega arith) (omega arith) (omega arith)

-- ---- the numbers of a row

abbrev small : List Test → Bool
small [] = true
small (t ∷ ts) = ltb t.number 256 && small ts

number_small : (ts : List Test) → small ts ≡ true → number_of ts < 256
unfolding number_of
number_small [] h = omega arith
number_small (t ∷ ts) h =
    let x = both (ltb t.number 256) (small ts) h in
    by-test t.passes _ (λ p. subst (λ (n : ℕ). n < 256) (sym (number-pass t ts p)) (number_small ts x.1))
    (λ q. subst (λ (n : ℕ). n < 256) (sym (number-fail t ts q)) (ltb-true t.number 256 x.0))

pub placeless-small : (n : ℕ) → n < 256 → Small (placeless n)
placeless-small n h = record { number = h; part = omega arith; place = omega arith; second = omega arith }

pub fault-small : (part place second : ℕ) → part ≤ 6 → place ≤ 1024 → second ≤ 1024 → Small (fault part place second)
fault-small part place second a b c = record { number = omega arith; part = omega arith; place = omega arith; second = omega arith }

-- ---- the places of a recount

fails-small : (P : Plan) (avail : List ℕ) (units : ℕ) (begins o : List ℕ) (D : Derived) → P.people ≤ 32 → P.slots ≤ 1024 → units ≤ 1024
    → (f : Refusal) → FailsAt P avail units begins o D f → Small f
fails-small P avail units begins o D few short many f (unknown k e L) =
    subst Small (sym e) (fault-small 1 k 0 (omega arith) (omega (arith, L.below)) (omega arith))
fails-small P avail units begins o D few short many f (unavailable k e K L) =
    subst Small (sym e) (fault-small 2 k 0 (omega arith) (omega (arith, L.below)) (omega arith))
fails-small P avail units begins o D few short many f (uneven u e K A L) =
    subst Small (sym e) (fault-small 3 u 0 (omega arith) (omega (arith, L.below)) (omega arith))
fails-small P avail units begins o D few short many f (wrong-set p k e K A U L M) =
    subst Small (sym e) (fault-small 4 p k (omega arith) (omega (arith, L.below)) (omega (arith, M.below)))
fails-small P avail units begins o D few short many f (wrong-minutes p e K A U S L) =
    subst Small (sym e) (fault-small 5 p 0 (omega arith) (omega (arith, L.below)) (omega arith))
fails-small P avail units begins o D few short many f (wrong-total i e K A U S M L) =
    subst Small (sym e) (fault-small 6 i 0 (omega arith) (omega (arith, L.below)) (omega arith))

places-small : (f : Refusal) (n : ℕ) (Fails : Refusal → Type 0) → Places f n Fails → f.number < 256
    → (n ≡ 0 → (g : Refusal) → Fails g → Small g) → Small f
places-small f n Fails L h few =
    by-test (eqb f.number 10) _
    (λ t. let x = L.fails (eqb-true _ 10 t) in few x.0 f x.1)
    (λ t. subst Small (sym (L.none (eqb-false _ 10 t))) (placeless-small f.number h))

-- ---- entry by entry

pub units-back : (counts room : Bool) (P : Plan) (avail : List ℕ) (units : ℕ) (begins o : List ℕ) (D : Derived)
    → ReadsBack (refusal_of (recount_row counts room P avail units begins o D))
unfolding recount_row lent_row recount_tests
units-back counts room P avail units begins o D =
    let ts = recount_row counts room P avail units begins o D in
    small-back (refusal_of ts) (places-small (refusal_of ts) _ (FailsAt P avail units begins o D)
    (with-units counts room P avail units begins o D)
    (subst (λ (n : ℕ). n < 256) (sym (said ts refl)) (number_small ts refl))
    (λ z.
    let h = passed _ refl z in
    let short = (slot-count-says P.slots (h 1)).1 in
    fails-small P avail units begins o D (people-says P.people (h 0)).1 short
    (omega (arith, short, units-within P.slots units begins (h 11)))))

module _ (P : Plan) (avail o : List ℕ) (D : Derived) where
  few : number_of (lent_row true true P avail o D) ≡ 0 → (g : Refusal) → FailsAt P avail 0 [] o D g → Small g
  unfolding lent_row
  few z =
      let h = passed (lent_row true true P avail o D) refl z in
      fails-small P avail 0 [] o D (people-says P.people (h 0)).1 (slot-count-says P.slots (h 1)).1 (omega arith)

  pub slots-back : ReadsBack (refusal_of (recount_slots_row P avail o D))
  unfolding recount_slots_row lent_row recount_tests
  slots-back =
      let ts = recount_slots_row P avail o D in
      small-back (refusal_of ts) (places-small (refusal_of ts) _ _ (slots-places P avail o D)
      (subst (λ (n : ℕ). n < 256) (sym (said ts refl)) (number_small ts refl)) few)

  pub assign-back : (k w : ℕ) → ReadsBack (assigned P avail o D k w).refusal
  unfolding assigned outcome assign_row recount_slots_row lent_row recount_tests
  assign-back k w =
      let ts = assign_row P avail o D k w in
      small-back (refusal_of ts) (places-small (refusal_of ts) _ _ (assign-places P avail o D k w)
      (subst (λ (n : ℕ). n < 256) (sym (said ts refl)) (number_small ts refl)) few)

pub play-back : (c : Call) → ReadsBack (play_of c).refusal
unfolding played_list outcome
play-back c = units-back _ _ c.plan c.avail c.units c.begins c.owners c.derived

pub draws-back : (c : Call) (ds : List Draw) → ReadsBack (play_draws_of c ds).refusal
draws-back c ds =
    subst ReadsBack (sym (ap (λ (y : Outcome). y.refusal) (draws-alike c ds))) (play-back (of_draws c ds))

-- ---- a job

module _ (s x : List ℕ) where
  abbrev ts : List Test
  ts = job_tests s (length x)

  -- its units are few where the tests before them pass
  uneven-few : (f : Refusal) → (job_result s x).answer ≡ Err f → f.number ≡ 10 → uneven_of s ≤ 1024
  unfolding job_tests read_row prepare_row number_of uneven_of uneven_in
  uneven-few f e t =
      let b = before s x f e t in
      let few : Few s = b 1 (omega arith) in
      let atoms : number_of (atom_tests s) ≡ 0 = simp (b 3 (omega arith), b 4 (omega arith), b 5 (omega arith)) in
      let A = atoms-right s few atoms in
      let u = (units-there s few A (b 7 (omega arith))).0 in
      let R = ready_of s in
      omega (
        arith,
        (first-is R.units (even_at R.slots R.units R.begins (written_of s))).within,
        units-within R.slots R.units R.begins u,
        (slot-count-says R.slots A.count-ok).1,
      )

  refused-small : (f : Refusal) → (job_result s x).answer ≡ Err f → f.number < 256 → Small f
  refused-small f e h =
      by-test (eqb f.number 10) _
      (λ t.
      let q = eqb-true _ 10 t in
      subst Small (sym (fault-is s x f e q)) (fault-small 3 (uneven_of s) 0 (omega arith) (uneven-few f e q) (omega arith)))
      (λ t. subst Small (sym (job-none s x f e (eqb-false _ 10 t))) (placeless-small f.number h))

  row_small : small ts ≡ true
  unfolding job_tests read_row prepare_row
  row_small = refl

  pub job-back : ReadsBack (job_refusal (job_result s x).answer)
  unfolding refused_as listed_as
  job-back =
      by-test (eqb (number_of ts) 0) _
      (λ t.
      subst ReadsBack (sym (ap (λ (y : JobOutcome). job_refusal y.answer) (answered-none s x (eqb-true _ 0 t))))
      (small-back accepted (placeless-small 0 (omega arith))))
      (λ t.
      let q = answered-some s x (eqb-false _ 0 t) in
      subst ReadsBack (sym (ap (λ (y : JobOutcome). job_refusal y.answer) q))
      (small-back (refusal_of ts) (refused-small (refusal_of ts) (ap (λ (y : JobOutcome). y.answer) q)
      (subst (λ (n : ℕ). n < 256) (sym (said ts refl)) (number_small ts row_small)))))
