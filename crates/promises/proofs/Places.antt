-- Where the recount failed, by the laws of owners and of job. Assumes nothing.
use Rattle.std.specs.Prelude.{Err}
use mathlib.Core.Path.{◌≡◌, refl, sym, ap, ◌∙◌, subst}
use mathlib.Core.Bool.{Bool, true, cond, not, ◌&&◌, ◌||◌}
use mathlib.Core.List.{List, [], ◌∷◌, ◌++◌}
use mathlib.Core.Logic.{◌↔◌, ◌≢◌}
use Prim.Native.Nat.{ℕ, ◌<◌}
use native.Mathlib.Omega.{arith}
use borrow.Author.Tests.{eq-eqb, ne_eqb, eqb-true, eqb-false, ltb-true, not-true}
use lib.Dec.{eqb, ltb}
use lib.ListN.{length, get_or}
use Rattle.paper.specs.Limits.{Test, test, number_of}
use Rattle.paper.specs.declared.Refusal.{Refusal}
use Rattle.paper.specs.Rows.{accepted, refusal_of}
use Rattle.paper.specs.Count.{all}
use Rattle.paper.proofs.Logic.{by-test, both, or_right}
use Rattle.paper.proofs.Count.{all-each, in-each, each_in}
use Rattle.paper.proofs.Refusals.{number-pass, number-fail}
use Rattle.paper.proofs.Rows.{numbered, said}
use Rattle.units.specs.Units.{unit_start, unit_end, units_ok}
use Rattle.owners.specs.Derived.{Plan, Derived}
use Rattle.owners.specs.Recount.{first_fail, known_at, available_at, even_at, set_slot_at, set_at, minutes_ok_at, total_ok_at, recount_tests}
use Rattle.owners.specs.Recount.{recounts}
use Rattle.owners.specs.Entries.{placeless, Outcome, outcome, lent_row, recount_row, recount_slots_row}
use Rattle.owners.proofs.RecountRefusals.{first_on, first_stops}
use Rattle.owners.proofs.Entered.{recount-number}
use Rattle.rota.specs.Entries.{assign_row, assigned, played_list}
use Rattle.rota.specs.declared.draws.Draw.{Draw}
use Rattle.job.specs.File.{JobFile}
use Rattle.job.specs.Stages.{uneven_of}
use Rattle.job.specs.Outcome.{rank, test_at, Lowest, read_row, prepare_row, job_tests, refusal_at, job_result}
use Rattle.job.proofs.Tests.{ByNumber, refusal-by}
use Rattle.job.proofs.Promises.{lowest-number}
use Rattle.promises.specs.Entries.{Call, play_of, play_draws_of, of_draws}
use Rattle.promises.specs.JobFields.{given_by, ready_from}
use Rattle.promises.specs.JobTests.{AllRight, LowestFault, UnitEven}
use Rattle.promises.specs.RotaRules.{PassesRecount}
use Rattle.promises.specs.Places.{fault, OwnerKnown, OwnerAvailable, OneOwner, SlotRight, SetRight, MinutesRight, TotalRight, FailsAt}
use Rattle.promises.specs.Places.{unknown, unavailable, uneven, wrong-set, wrong-minutes, wrong-total, Places, before_recount, PlacesByRule}
use Rattle.promises.proofs.Numbers.{none-given}
use Rattle.promises.proofs.Tests.{known-test, available-test}
use Rattle.promises.proofs.Lowest.{right-exactly, lowest-fault, fault-first}
use Rattle.promises.proofs.RotaRules.{held-says, says-held, recount-by-rule}
use Rattle.promises.proofs.Rota.{draws-alike}
use Rattle.promises.proofs.JobTests.{job-tests}

-- ---- each test says what is right at a place

module _ (P : Plan) (avail : List ℕ) (units : ℕ) (begins o : List ℕ) (D : Derived) where
  known_tells : (k : ℕ) → k < P.slots → (known_at P.people o k ≡ true) ↔ OwnerKnown P o k
  unfolding known_at
  known_tells k h = known-test P.people (get_or o k 0)

  available-tells : (k : ℕ) → k < P.slots → (available_at avail o k ≡ true) ↔ OwnerAvailable avail o k
  unfolding available_at
  available-tells k h = available-test avail (get_or o k 0) k

  even-tells : (u : ℕ) → u < units → (even_at P.slots units begins o u ≡ true) ↔ OneOwner P units begins o u
  unfolding even_at
  even-tells u h =
      let a = unit_start begins u in
      let e = unit_end P.slots units begins u in
      let q : ℕ → Bool = λ k. eqb (get_or o k 0) (get_or o a 0) in (
        λ t k i. eqb-true _ _ (in-each a e q t k i.from i.to),
        λ E. each_in a e q (λ k b c. eq-eqb _ _ (E k (record { known = h; from = b; to = c }))),
      )

  slot-tells : (p k : ℕ) → k < P.slots → (set_slot_at o D.sets p k ≡ true) ↔ SlotRight o D p k
  unfolding set_slot_at
  slot-tells p k h = (
    λ t. held-says o D.sets p k (eqb-true _ _ t),
    λ S. eq-eqb _ _ (says-held o D.sets p k S),
  )

  set_tells : (p : ℕ) → p < P.people → (set_at P.slots o D.sets p ≡ true) ↔ SetRight P o D p
  unfolding set_at
  set_tells p h = right-exactly P.slots (set_slot_at o D.sets p) (SlotRight o D p) (slot-tells p)

  minutes-tells : (p : ℕ) → p < P.people → (minutes_ok_at P o D.minutes p ≡ true) ↔ MinutesRight P o D p
  unfolding minutes_ok_at
  minutes-tells p h = (eqb-true _ _, eq-eqb _ _)

  total-tells : (i : ℕ) → i < 2 → (total_ok_at P o D.totals i ≡ true) ↔ TotalRight P o D i
  unfolding total_ok_at
  total-tells i h = (eqb-true _ _, eq-eqb _ _)

  -- ---- the recount by itself

  abbrev row : List Test
  row = recount_tests P avail units begins o D

  abbrev Known : Type 0
  Known = AllRight P.slots (OwnerKnown P o)

  known : (all P.slots (known_at P.people o) ≡ true) ↔ Known
  known = right-exactly P.slots (known_at P.people o) (OwnerKnown P o) known_tells

  free : (all P.slots (available_at avail o) ≡ true) ↔ AllRight P.slots (OwnerAvailable avail o)
  free = right-exactly P.slots (available_at avail o) (OwnerAvailable avail o) available-tells

  even : (all units (even_at P.slots units begins o) ≡ true) ↔ AllRight units (OneOwner P units begins o)
  even = right-exactly units (even_at P.slots units begins o) (OneOwner P units begins o) even-tells

  sets : (all P.people (set_at P.slots o D.sets) ≡ true) ↔ AllRight P.people (SetRight P o D)
  sets = right-exactly P.people (set_at P.slots o D.sets) (SetRight P o D) set_tells

  figures : (all P.people (minutes_ok_at P o D.minutes) ≡ true) ↔ AllRight P.people (MinutesRight P o D)
  figures = right-exactly P.people (minutes_ok_at P o D.minutes) (MinutesRight P o D) minutes-tells

  -- a refusal of the recount is at a place
  abbrev Fails : Refusal → Type 0
  Fails = FailsAt P avail units begins o D

  -- the set of the lowest person with a wrong one has a lowest wrong slot
  wrong-slot : (p : ℕ) → LowestFault P.people (SetRight P o D) p
      → LowestFault P.slots (SlotRight o D p) (first_fail P.slots (set_slot_at o D.sets p))
  unfolding set_at
  wrong-slot p L =
      lowest-fault P.slots (set_slot_at o D.sets p) (SlotRight o D p) (slot-tells p)
      (by-test (all P.slots (set_slot_at o D.sets p)) _ (λ t. absurd (L.wrong ((set_tells p L.below).0 t))) (λ f. f))

  fails-at : (refusal_of row).number ≢ 0 → Fails (refusal_of row)
  unfolding recount_tests refusal_of
  fails-at n =
      by-test (all P.slots (known_at P.people o)) _
      (λ a. by-test (all P.slots (available_at avail o)) _
      (λ b. by-test (all units (even_at P.slots units begins o)) _
      (λ c. by-test (all P.people (set_at P.slots o D.sets)) _
      (λ d. by-test (all P.people (minutes_ok_at P o D.minutes)) _
      (λ e. by-test (all 2 (total_ok_at P o D.totals)) _
      (λ g. absurd (n (simp (a, b, c, d, e, g))))
      (λ g. simp (a, b, c, d, e, g) (wrong-total _ refl (known.0 a) (free.0 b) (even.0 c) (sets.0 d) (figures.0 e)
      (lowest-fault 2 (total_ok_at P o D.totals) (TotalRight P o D) total-tells g))))
      (λ e. simp (a, b, c, d, e) (wrong-minutes _ refl (known.0 a) (free.0 b) (even.0 c) (sets.0 d)
      (lowest-fault P.people (minutes_ok_at P o D.minutes) (MinutesRight P o D) minutes-tells e))))
      (λ d.
      let L = lowest-fault P.people (set_at P.slots o D.sets) (SetRight P o D) set_tells d in
      simp (a, b, c, d) (wrong-set _ _ refl (known.0 a) (free.0 b) (even.0 c) L (wrong-slot _ L))))
      (λ c. simp (a, b, c) (uneven _ refl (known.0 a) (free.0 b)
      (lowest-fault units (even_at P.slots units begins o) (OneOwner P units begins o) even-tells c))))
      (λ b. simp (a, b) (unavailable _ refl (known.0 a)
      (lowest-fault P.slots (available_at avail o) (OwnerAvailable avail o) available-tells b))))
      (λ a. simp a (unknown _ refl (lowest-fault P.slots (known_at P.people o) (OwnerKnown P o) known_tells a)))

  -- and only that refusal is
  fails-is : (f : Refusal) → Fails f → refusal_of row ≡ f
  unfolding recount_tests refusal_of
  fails-is f (unknown k e L) =
      let x = fault-first P.slots (known_at P.people o) (OwnerKnown P o) known_tells k L in
      simp x.1 (ap (λ (i : ℕ). fault 1 i 0) (sym x.0) ∙ sym e)
  fails-is f (unavailable k e K L) =
      let x = fault-first P.slots (available_at avail o) (OwnerAvailable avail o) available-tells k L in
      simp (known.1 K, x.1) (ap (λ (i : ℕ). fault 2 i 0) (sym x.0) ∙ sym e)
  fails-is f (uneven u e K A L) =
      let x = fault-first units (even_at P.slots units begins o) (OneOwner P units begins o) even-tells u L in
      simp (known.1 K, free.1 A, x.1) (ap (λ (i : ℕ). fault 3 i 0) (sym x.0) ∙ sym e)
  fails-is f (wrong-set p k e K A U L M) =
      let x = fault-first P.people (set_at P.slots o D.sets) (SetRight P o D) set_tells p L in
      let y = fault-first P.slots (set_slot_at o D.sets p) (SlotRight o D p) (slot-tells p) k M in
      simp (known.1 K, free.1 A, even.1 U, x.1)
      (ap (λ (i : ℕ). fault 4 i (first_fail P.slots (set_slot_at o D.sets i))) (sym x.0) ∙ ap (fault 4 p) (sym y.0) ∙ sym e)
  fails-is f (wrong-minutes p e K A U S L) =
      let x = fault-first P.people (minutes_ok_at P o D.minutes) (MinutesRight P o D) minutes-tells p L in
      simp (known.1 K, free.1 A, even.1 U, sets.1 S, x.1) (ap (λ (i : ℕ). fault 5 i 0) (sym x.0) ∙ sym e)
  fails-is f (wrong-total i e K A U S M L) =
      let x = fault-first 2 (total_ok_at P o D.totals) (TotalRight P o D) total-tells i L in
      simp (known.1 K, free.1 A, even.1 U, sets.1 S, figures.1 M, x.1) (ap (λ (j : ℕ). fault 6 j 0) (sym x.0) ∙ sym e)

  -- it passes or answers 10
  ten-or-none : (X : Type 0) → (refusal_of row ≡ accepted → X) → ((refusal_of row).number ≡ 10 → Fails (refusal_of row) → X) → X
  unfolding recount_tests
  ten-or-none X f g =
      by-test (recounts P avail units begins o D) _
      (λ t. f (none-given row refl (recount-number P avail units begins o D ∙ ap (λ (b : Bool). cond b 0 10) t)))
      (λ t.
      let z = said row refl ∙ recount-number P avail units begins o D ∙ ap (λ (b : Bool). cond b 0 10) t in
      g z (fails-at (λ q. omega (arith, z, q))))

  passes-exactly : ((refusal_of row).number ≡ 0) ↔ PassesRecount P avail units begins o D
  passes-exactly =
      let law = recount-by-rule P avail units begins o D in
      let number = said row refl ∙ recount-number P avail units begins o D in (
        λ z. law.0 (by-test (recounts P avail units begins o D) _ (λ t. t)
            (λ f. absurd (omega (arith, z, number ∙ ap (λ (b : Bool). cond b 0 10) f)))),
        λ R. number ∙ ap (λ (b : Bool). cond b 0 10) (law.1 R),
      )

  -- ---- a row that asks it after others, each of which names no place and isn't numbered 10

  module _ (front : List Test) (r : numbered front ≡ true) (plain : ByNumber placeless front) (other : number_of front ≢ 10) where
    front-is : refusal_of front ≡ placeless (number_of front)
    front-is = refusal-by placeless refl front plain

    places : (f : Refusal) → f ≡ refusal_of (front ++ row) → Places f (number_of front) Fails
    places f e = record {
      fails = λ t. by-test (eqb (number_of front) 0) _
          (λ z.
          let q = e ∙ first_on front row r (eqb-true _ 0 z) in
          (eqb-true _ 0 z, subst Fails (sym q) (fails-at (λ y. omega (arith, t, ap (λ (g : Refusal). g.number) q, y)))))
          (λ n.
          let q = e ∙ first_stops front row (eqb-false _ 0 n) ∙ front-is in
          absurd (other (sym (ap (λ (g : Refusal). g.number) q) ∙ t)));
      says = λ g z F. e ∙ first_on front row r z ∙ fails-is g F;
      none = λ n. by-test (eqb (number_of front) 0) _
          (λ z.
          let q = e ∙ first_on front row r (eqb-true _ 0 z) in
          ten-or-none _ (λ y. q ∙ y ∙ ap placeless (sym (ap (λ (g : Refusal). g.number) (q ∙ y))))
          (λ t F. absurd (n (ap (λ (g : Refusal). g.number) q ∙ t))))
          (λ z.
          let q = e ∙ first_stops front row (eqb-false _ 0 z) ∙ front-is in
          q ∙ ap placeless (sym (ap (λ (g : Refusal). g.number) q)));
    }

  -- ---- a row that asks others after it

  ten : (f : Refusal) → Fails f → f.number ≡ 10
  ten f (unknown k e L) = ap (λ (g : Refusal). g.number) e
  ten f (unavailable k e K L) = ap (λ (g : Refusal). g.number) e
  ten f (uneven u e K A L) = ap (λ (g : Refusal). g.number) e
  ten f (wrong-set p k e K A U L M) = ap (λ (g : Refusal). g.number) e
  ten f (wrong-minutes p e K A U S L) = ap (λ (g : Refusal). g.number) e
  ten f (wrong-total i e K A U S M L) = ap (λ (g : Refusal). g.number) e

  places-before : (n : ℕ) (ts us : List Test) → numbered ts ≡ true → ByNumber placeless us → number_of us ≢ 10
      → Places (refusal_of ts) n Fails → Places (refusal_of (ts ++ us)) n Fails
  places-before n ts us r plain other L =
      let last : number_of ts ≡ 0 → refusal_of (ts ++ us) ≡ placeless (number_of us) =
      λ z. first_on ts us r z ∙ refusal-by placeless refl us plain in
      record {
        fails = λ t. by-test (eqb (number_of ts) 0) _
            (λ z. absurd (other (sym (ap (λ (g : Refusal). g.number) (last (eqb-true _ 0 z))) ∙ t)))
            (λ z.
            let q = first_stops ts us (eqb-false _ 0 z) in
            let x = L.fails (sym (ap (λ (g : Refusal). g.number) q) ∙ t) in
            (x.0, subst Fails (sym q) x.1));
        says = λ g z F.
            let q = L.says g z F in
            first_stops ts us (λ y. omega (arith, y, said ts refl, ap (λ (h : Refusal). h.number) q, ten g F)) ∙ q;
        none = λ m. by-test (eqb (number_of ts) 0) _
            (λ z. let q = last (eqb-true _ 0 z) in q ∙ ap placeless (sym (ap (λ (g : Refusal). g.number) q)))
            (λ z.
            let q = first_stops ts us (eqb-false _ 0 z) in
            q ∙ L.none (λ y. m (ap (λ (g : Refusal). g.number) q ∙ y))
            ∙ ap placeless (sym (ap (λ (g : Refusal). g.number) q)));
      }

-- a number that no test of a row has is not given
abbrev without : ℕ → List Test → Bool
without n [] = true
without n (t ∷ ts) = not (eqb t.number n) && without n ts

not-given : (n : ℕ) (ts : List Test) → n ≢ 0 → without n ts ≡ true → number_of ts ≢ n
unfolding number_of
not-given n [] z h e = z (sym e)
not-given n (t ∷ ts) z h e =
    let x = both (not (eqb t.number n)) (without n ts) h in
    by-test t.passes _ (λ p. not-given n ts z x.1 (sym (number-pass t ts p) ∙ e))
    (λ f. eqb-false t.number n (not-true _ x.0) (sym (number-fail t ts f) ∙ e))

-- ---- the entries

pub with-units : (counts room : Bool) (P : Plan) (avail : List ℕ) (units : ℕ) (begins o : List ℕ) (D : Derived)
    → Places (refusal_of (recount_row counts room P avail units begins o D)) (before_recount counts room P avail units begins o D)
    (FailsAt P avail units begins o D)
unfolding recount_row lent_row
with-units counts room P avail units begins o D =
    places P avail units begins o D (lent_row counts room P avail o D ++ (test 9 (units_ok P.slots units begins) ∷ [])) refl
    (refl, (refl, (refl, (refl, (refl, (refl, (refl, (refl, (refl, (refl, (refl, (refl, tt))))))))))))
    (not-given 10 _ (λ q. omega arith) refl) _ refl

-- without units no unit is uneven
never-three : (P : Plan) (avail o : List ℕ) (D : Derived) (f : Refusal) (n : ℕ) → Places f n (FailsAt P avail 0 [] o D) → f.part ≢ 3
never-three P avail o D f n L q =
    by-test (eqb f.number 10) _ (λ t. at (L.fails (eqb-true _ 10 t)).1)
    (λ t. absurd (omega (arith, q, ap (λ (g : Refusal). g.part) (L.none (eqb-false _ 10 t)))))
  where
    at : FailsAt P avail 0 [] o D f → ⊥
    at (unknown k e F) = omega (arith, q, ap (λ (g : Refusal). g.part) e)
    at (unavailable k e K F) = omega (arith, q, ap (λ (g : Refusal). g.part) e)
    at (uneven u e K A F) = omega (arith, F.below)
    at (wrong-set p k e K A U F M) = omega (arith, q, ap (λ (g : Refusal). g.part) e)
    at (wrong-minutes p e K A U S F) = omega (arith, q, ap (λ (g : Refusal). g.part) e)
    at (wrong-total i e K A U S M F) = omega (arith, q, ap (λ (g : Refusal). g.part) e)

module _ (P : Plan) (avail o : List ℕ) (D : Derived) where
  abbrev lent : ℕ
  lent = number_of (lent_row true true P avail o D)

  pub slots-places : Places (refusal_of (recount_slots_row P avail o D)) lent (FailsAt P avail 0 [] o D)
  unfolding recount_slots_row lent_row
  slots-places =
      places P avail 0 [] o D (lent_row true true P avail o D) refl
      (refl, (refl, (refl, (refl, (refl, (refl, (refl, (refl, (refl, (refl, (refl, tt))))))))))) (not-given 10 _ (λ q. omega arith)
      refl) _ refl

  pub assign-places : (k w : ℕ) → Places (assigned P avail o D k w).refusal lent (FailsAt P avail 0 [] o D)
  unfolding assigned outcome assign_row recount_slots_row lent_row recount_tests
  assign-places k w =
      places-before P avail 0 [] o D lent (recount_slots_row P avail o D) _ refl (refl, (refl, (refl, tt)))
      (not-given 10 _ (λ q. omega arith) refl) slots-places

play-fails : (c : Call) → (play_of c).refusal.number ≡ 10
    → FailsAt c.plan c.avail c.units c.begins c.owners c.derived (play_of c).refusal
unfolding played_list outcome
play-fails c t = ((with-units _ _ c.plan c.avail c.units c.begins c.owners c.derived).fails t).1

draws-fail : (c : Call) (ds : List Draw) → (play_draws_of c ds).refusal.number ≡ 10
    → FailsAt c.plan c.avail c.units c.begins c.owners c.derived (play_draws_of c ds).refusal
draws-fail c ds t =
    let q = ap (λ (y : Outcome). y.refusal) (draws-alike c ds) in
    subst (FailsAt c.plan c.avail c.units c.begins c.owners c.derived) (sym q)
    (play-fails (of_draws c ds) (sym (ap (λ (f : Refusal). f.number) q) ∙ t))

-- ---- a job

module _ (s x : List ℕ) (f : Refusal) (e : (job_result s x).answer ≡ Err f) where
  job_is : f ≡ refusal_at f.number (uneven_of s)
  job_is = ((lowest-number s x f).0 e).1

  pub job-none : f.number ≢ 10 → f ≡ placeless f.number
  unfolding refusal_at
  job-none n = job_is ∙ simp (ne_eqb f.number 10 n)

  module _ (t : f.number ≡ 10) where
    abbrev ts : List Test
    ts = job_tests s (length x)

    L : Lowest ts f.number
    L = ((lowest-number s x f).0 e).0

    -- the one test of that number, and those before it pass
    eighth : L.place ≡ 8
    unfolding job_tests read_row prepare_row all
    eighth =
        eqb-true L.place 8 (or_right (not (eqb (test_at ts L.place).number 10)) (eqb L.place 8)
        (all-each 11 (λ k. not (eqb (test_at ts k).number 10) || eqb k 8) refl L.place L.within)
        (ap not (eq-eqb _ 10 (L.number ∙ t))))

    pub before : (j : ℕ) → j < 8 → (test_at ts j).passes ≡ true
    unfolding job_tests read_row prepare_row all
    before j h =
        let lower = ltb-true (rank (test_at ts j).number) 10 (all-each 8 (λ k. ltb (rank (test_at ts k).number) 10) refl j h) in
        by-test (test_at ts j).passes _ (λ p. p)
        (λ q. absurd (omega (arith, lower, L.least j (omega (arith, h)) q, ap rank t)))

    pub fault-is : f ≡ fault 3 (uneven_of s) 0
    unfolding refusal_at
    fault-is = job_is ∙ ap (λ (n : ℕ). refusal_at n (uneven_of s)) t

    job-place : (J : JobFile s)
        → let R = ready_from (given_by J.records) in
        (f ≡ fault 3 f.place 0) × LowestFault R.units (UnitEven J.records R) f.place
    unfolding job_tests read_row prepare_row
    job-place J =
        let R = ready_from (given_by J.records) in
        let q = ap (λ (g : Refusal). g.place) fault-is in
        let u = (job-tests s (length x)).uneven J before (sym (ap (λ (k : ℕ). (test_at ts k).passes) eighth) ∙ L.fails) in
        (fault-is ∙ ap (λ (k : ℕ). fault 3 k 0) (sym q), subst (LowestFault R.units (UnitEven J.records R)) (sym q) u)

pub places-by-rule : PlacesByRule
places-by-rule = record {
  recount = λ P avail units begins o D. (passes-exactly P avail units begins o D, fails-at P avail units begins o D);
  only = λ P avail units begins o D f g F G. sym (fails-is P avail units begins o D f F) ∙ fails-is P avail units begins o D g G;
  with-units = with-units;
  without-units = λ P avail o D. let L = slots-places P avail o D in (L, never-three P avail o D _ _ L);
  assign = λ P avail o D k w. let L = assign-places P avail o D k w in (L, never-three P avail o D _ _ L);
  play = play-fails;
  play-draws = draws-fail;
  job = λ s x J f e t. job-place s x f e t J;
  job-none = job-none;
}
