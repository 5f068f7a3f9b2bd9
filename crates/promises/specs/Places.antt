-- Where the recount failed, as the paper says it: the part, and the lowest place at fault in it; no part before it has a fault. Assumes nothing.
use Rattle.std.specs.Prelude.{◌≡◌, Bool, true, List, [], ◌∷◌, ◌++◌, ◌⊎◌, ◌↔◌, ◌≢◌, ℕ, ◌<◌, get_or, Err}
use Rattle.paper.specs.Limits.{nobody, test, number_of}
use Rattle.paper.specs.declared.Refusal.{Refusal}
use Rattle.paper.specs.Rows.{refusal_of}
use Rattle.slotset.specs.Answers.{row_slots}
use Rattle.units.specs.Units.{unit_start, units_ok, InUnit}
use Rattle.owners.specs.Derived.{Plan, Derived, worked, total_of}
use Rattle.owners.specs.Recount.{recount_tests}
use Rattle.owners.specs.Entries.{placeless, lent_row, recount_row, recount_slots_row}
use Rattle.rota.specs.Entries.{assigned}
use Rattle.rota.specs.declared.draws.Draw.{Draw}
use Rattle.job.specs.File.{JobFile}
use Rattle.job.specs.Outcome.{job_result}
use Rattle.promises.specs.Entries.{Call, play_of, play_draws_of}
use Rattle.promises.specs.JobFields.{given_by, ready_from}
use Rattle.promises.specs.JobTests.{AllRight, LowestFault, UnitEven}
use Rattle.promises.specs.RotaRules.{PassesRecount}

-- 10, with its part, its place and a second place
abbrev pub fault : ℕ → ℕ → ℕ → Refusal
fault part place second = record { number = 10; part = part; place = place; second = second }

-- ---- what is right at a place: the owner of a slot is known, and is available; a unit has one owner; a slot of a person's set is as the
-- owners say, and so is the set; a person's minutes are; a stored total is

abbrev pub OwnerKnown : Plan → List ℕ → ℕ → Type 0
OwnerKnown P o k = (get_or o k 0 ≡ nobody) ⊎ (get_or o k 0 < P.people)

abbrev pub OwnerAvailable : List ℕ → List ℕ → ℕ → Type 0
OwnerAvailable avail o k = get_or o k 0 ≢ nobody → row_slots avail (get_or o k 0) k ≡ 1

abbrev pub OneOwner : Plan → ℕ → List ℕ → List ℕ → ℕ → Type 0
OneOwner P units begins o u = (k : ℕ) → InUnit P.slots units begins k u → get_or o k 0 ≡ get_or o (unit_start begins u) 0

abbrev pub SlotRight : List ℕ → Derived → ℕ → ℕ → Type 0
SlotRight o D p k = (row_slots D.sets p k ≡ 1) ↔ (get_or o k 0 ≡ p)

abbrev pub SetRight : Plan → List ℕ → Derived → ℕ → Type 0
SetRight P o D p = AllRight P.slots (SlotRight o D p)

abbrev pub MinutesRight : Plan → List ℕ → Derived → ℕ → Type 0
MinutesRight P o D p = get_or D.minutes p 0 ≡ worked P o p

abbrev pub TotalRight : Plan → List ℕ → Derived → ℕ → Type 0
TotalRight P o D i = get_or D.totals i 0 ≡ total_of P o i

-- ---- "10 becomes 10.1 to 10.5 .. checked in that order .. the lowest slot, unit or person, for a wrong set the lowest person and that
-- person's lowest slot"; "a wrong stored total is 10.6, after wrong minutes; place 0 is minutes, 1 the count"

pub data FailsAt (P : Plan) (avail : List ℕ) (units : ℕ) (begins o : List ℕ) (D : Derived) (f : Refusal) : Type 0 where
  unknown : (k : ℕ) → f ≡ fault 1 k 0 → LowestFault P.slots (OwnerKnown P o) k → FailsAt P avail units begins o D f
  unavailable : (k : ℕ) → f ≡ fault 2 k 0 → AllRight P.slots (OwnerKnown P o)
      → LowestFault P.slots (OwnerAvailable avail o) k → FailsAt P avail units begins o D f
  uneven : (u : ℕ) → f ≡ fault 3 u 0 → AllRight P.slots (OwnerKnown P o) → AllRight P.slots (OwnerAvailable avail o)
      → LowestFault units (OneOwner P units begins o) u → FailsAt P avail units begins o D f
  wrong-set : (p k : ℕ) → f ≡ fault 4 p k → AllRight P.slots (OwnerKnown P o) → AllRight P.slots (OwnerAvailable avail o)
      → AllRight units (OneOwner P units begins o) → LowestFault P.people (SetRight P o D) p
      → LowestFault P.slots (SlotRight o D p) k → FailsAt P avail units begins o D f
  wrong-minutes : (p : ℕ) → f ≡ fault 5 p 0 → AllRight P.slots (OwnerKnown P o) → AllRight P.slots (OwnerAvailable avail o)
      → AllRight units (OneOwner P units begins o) → AllRight P.people (SetRight P o D)
      → LowestFault P.people (MinutesRight P o D) p → FailsAt P avail units begins o D f
  wrong-total : (i : ℕ) → f ≡ fault 6 i 0 → AllRight P.slots (OwnerKnown P o) → AllRight P.slots (OwnerAvailable avail o)
      → AllRight units (OneOwner P units begins o) → AllRight P.people (SetRight P o D) → AllRight P.people (MinutesRight P o D)
      → LowestFault 2 (TotalRight P o D) i → FailsAt P avail units begins o D f

-- what an entry answers, where n is the number of the tests before the recount: 10 exactly where they pass and the recount fails, with its
-- part and place, of which only one fits; any other number names none
pub record Places (f : Refusal) (n : ℕ) (Fails : Refusal → Type 0) : Type 0 where
  pub fails : f.number ≡ 10 → (n ≡ 0) × Fails f
  pub says : (g : Refusal) → n ≡ 0 → Fails g → f ≡ g
  pub none : f.number ≢ 10 → f ≡ placeless f.number

-- the number of the tests before the recount, with units and without
abbrev pub before_recount : Bool → Bool → Plan → List ℕ → ℕ → List ℕ → List ℕ → Derived → ℕ
before_recount counts room P avail units begins o D =
    number_of (lent_row counts room P avail o D ++ (test 9 (units_ok P.slots units begins) ∷ []))

pub record PlacesByRule : Type 0 where
  -- the recount by itself: it passes, or it fails at a place; and only one refusal fits
  pub recount : (P : Plan) (avail : List ℕ) (units : ℕ) (begins o : List ℕ) (D : Derived)
      → let f = refusal_of (recount_tests P avail units begins o D) in
      ((f.number ≡ 0) ↔ PassesRecount P avail units begins o D) × (f.number ≢ 0 → FailsAt P avail units begins o D f)
  pub only : (P : Plan) (avail : List ℕ) (units : ℕ) (begins o : List ℕ) (D : Derived) (f g : Refusal)
      → FailsAt P avail units begins o D f → FailsAt P avail units begins o D g → f ≡ g
  -- every row with units: the recount's and both plays'
  pub with-units : (counts room : Bool) (P : Plan) (avail : List ℕ) (units : ℕ) (begins o : List ℕ) (D : Derived)
      → Places (refusal_of (recount_row counts room P avail units begins o D)) (before_recount counts room P avail units begins o D)
      (FailsAt P avail units begins o D)
  -- the recount without units, and assign, which asks it: never an uneven unit, whatever is lent
  pub without-units : (P : Plan) (avail o : List ℕ) (D : Derived)
      → let f = refusal_of (recount_slots_row P avail o D) in
      Places f (number_of (lent_row true true P avail o D)) (FailsAt P avail 0 [] o D) × (f.part ≢ 3)
  pub assign : (P : Plan) (avail o : List ℕ) (D : Derived) (k w : ℕ)
      → let f = (assigned P avail o D k w).refusal in
      Places f (number_of (lent_row true true P avail o D)) (FailsAt P avail 0 [] o D) × (f.part ≢ 3)
  -- a play, of columns and of structs, that answers 10
  pub play : (c : Call) → (play_of c).refusal.number ≡ 10
      → FailsAt c.plan c.avail c.units c.begins c.owners c.derived (play_of c).refusal
  pub play-draws : (c : Call) (ds : List Draw) → (play_draws_of c ds).refusal.number ≡ 10
      → FailsAt c.plan c.avail c.units c.begins c.owners c.derived (play_draws_of c ds).refusal
  -- "in a job only 10.3 comes": its unit is the lowest to which the records give two owners
  pub job : (s x : List ℕ) (J : JobFile s) (f : Refusal) → (job_result s x).answer ≡ Err f → f.number ≡ 10
      → let R = ready_from (given_by J.records) in (f ≡ fault 3 f.place 0) × LowestFault R.units (UnitEven J.records R) f.place
  pub job-none : (s x : List ℕ) (f : Refusal) → (job_result s x).answer ≡ Err f → f.number ≢ 10 → f ≡ placeless f.number
