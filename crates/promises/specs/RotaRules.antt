-- Demand 2, the rota: the recount, and what from_slots, assign and empty leave, as the paper says. Assumes nothing.
use Rattle.std.specs.Prelude.{◌≡◌, true, cond, List, [], ◌⊎◌, ◌↔◌, ◌≢◌, ℕ, ◌+◌, ◌-◌, ◌*◌, ◌≤◌, ◌<◌, eqb, get_or, Ok}
use Rattle.paper.specs.Limits.{nobody}
use Rattle.paper.specs.Count.{sum, count}
use Rattle.slotset.specs.Slots.{slot}
use Rattle.slotset.specs.Answers.{row_slots, slots_of}
use Rattle.paper.specs.Rows.{answer_refusal}
use Rattle.units.specs.Units.{unit_start, units_ok, InUnit}
use Rattle.owners.specs.Derived.{Plan, Derived, worked, uncovered}
use Rattle.owners.specs.Recount.{recounts}
use Rattle.owners.specs.Entries.{Outcome, from_slots, emptied, owner_is, minutes_is, unassigned_is, uncovered_is, slots_of_is}
use Rattle.rota.specs.Entries.{assigned}
use Rattle.promises.specs.Entries.{Call, no_of, on_rota}

-- "The recount ..: owners known and available, units uniform, sets and minutes equal to those worked out from owners", and so the stored
-- totals: the minutes of the slots that nobody owns, and how many they are
pub record PassesRecount (P : Plan) (avail : List ℕ) (units : ℕ) (begins o : List ℕ) (D : Derived) : Type 0 where
  pub known : (k : ℕ) → k < P.slots → (get_or o k 0 ≡ nobody) ⊎ (get_or o k 0 < P.people)
  pub available : (k : ℕ) → k < P.slots → get_or o k 0 ≢ nobody → row_slots avail (get_or o k 0) k ≡ 1
  pub uniform : (u k : ℕ) → InUnit P.slots units begins k u → get_or o k 0 ≡ get_or o (unit_start begins u) 0
  pub sets : (p k : ℕ) → p < P.people → k < P.slots → (row_slots D.sets p k ≡ 1) ↔ (get_or o k 0 ≡ p)
  pub minutes : (p : ℕ) → p < P.people → get_or D.minutes p 0 ≡ worked P o p
  pub uncovered : get_or D.totals 0 0 ≡ worked P o nobody
  pub unassigned : get_or D.totals 1 0 ≡ count P.slots (λ k. eqb (get_or o k 0) nobody)

-- "Bytes past the list's end or the needed length always stay": owners past the slots, minutes past the people, what lies past the two
-- totals, and each bit of the sets that is no slot of a person
pub record PastKept (people slots : ℕ) (o : List ℕ) (D : Derived) (y : Outcome) : Type 0 where
  pub owners : (k : ℕ) → slots ≤ k → get_or y.owners k 0 ≡ get_or o k 0
  pub minutes : (p : ℕ) → people ≤ p → get_or y.derived.minutes p 0 ≡ get_or D.minutes p 0
  pub totals : (i : ℕ) → 2 ≤ i → get_or y.derived.totals i 0 ≡ get_or D.totals i 0
  pub sets : (i : ℕ) → ((p k : ℕ) → p < people → k < slots → i ≡ 1024 * p + k → ⊥) → slot y.derived.sets 0 i ≡ slot D.sets 0 i

-- what an entry that makes a rota leaves, units aside: it passes the recount, and what lies past it is as it was
pub record Made (P : Plan) (avail o : List ℕ) (D : Derived) (y : Outcome) : Type 0 where
  pub recount : PassesRecount P avail 0 [] y.owners y.derived
  pub past : PastKept P.people P.slots o D y

pub record RotaByRule : Type 0 where
  -- the minutes of an owner are the lengths of the slots that they own; "Uncovered minutes are the lengths of slots owned by nobody"
  pub minutes : (P : Plan) (o : List ℕ) (w : ℕ)
      → worked P o w ≡ sum P.slots (λ k. cond (eqb (get_or o k 0) w) (get_or P.ends k 0 - get_or P.starts k 0) 0)
  pub uncovered : (P : Plan) (o : List ℕ) → uncovered P o ≡ worked P o nobody
  -- the test that 10 stands for, both ways
  pub recount : (P : Plan) (avail : List ℕ) (units : ℕ) (begins o : List ℕ) (D : Derived)
      → (recounts P avail units begins o D ≡ true) ↔ PassesRecount P avail units begins o D
  -- "`from_slots` makes sets and minutes from owners", and the totals
  pub from-slots : (P : Plan) (avail o : List ℕ) (D : Derived)
      → let y = from_slots P avail o D in y.refusal.number ≡ 0 → (y.owners ≡ o) × Made P avail o D y
  -- "Single-slot assign recounts too but asks nothing of units or frozen flags": slot k has the owner, every other slot the one it had
  pub assign : (P : Plan) (avail o : List ℕ) (D : Derived) (k w : ℕ)
      → let y = assigned P avail o D k w in y.refusal.number ≡ 0
      → (get_or y.owners k 0 ≡ w) × ((j : ℕ) → j ≢ k → get_or y.owners j 0 ≡ get_or o j 0) × Made P avail o D y
  -- "a rota it makes uneven is refused by the next play", whatever the draws
  pub uneven : (c : Call) (k w : ℕ) → no_of c ≡ 0
      → let y = assigned c.plan c.avail c.owners c.derived k w in y.refusal.number ≡ 0
      → (u j : ℕ) → InUnit c.plan.slots c.units c.begins j u → get_or y.owners j 0 ≢ get_or y.owners (unit_start c.begins u) 0
      → no_of (on_rota c y.owners y.derived c.answers) ≡ 10
  -- an empty rota: nobody owns a slot, and it passes the recount, units too, whatever the availability
  pub empty : (P : Plan) (o : List ℕ) (D : Derived)
      → let y = emptied P o D in y.refusal.number ≡ 0
      → ((k : ℕ) → k < P.slots → get_or y.owners k 0 ≡ nobody)
      × ((avail : List ℕ) (units : ℕ) (begins : List ℕ) → units_ok P.slots units begins ≡ true
      → PassesRecount P avail units begins y.owners y.derived)
      × PastKept P.people P.slots o D y
  -- what is answered: a slot's owner, a person's minutes, how many slots nobody owns, and their minutes
  pub owner-answered : (people slots : ℕ) (o : List ℕ) (k : ℕ) → answer_refusal (owner_is people slots o k) ≡ 0
      → owner_is people slots o k ≡ Ok (get_or o k 0)
  pub minutes-answered : (people : ℕ) (m : List ℕ) (p : ℕ) → answer_refusal (minutes_is people m p) ≡ 0
      → minutes_is people m p ≡ Ok (get_or m p 0)
  pub unassigned-answered : (people slots : ℕ) (o : List ℕ) → answer_refusal (unassigned_is people slots o) ≡ 0
      → unassigned_is people slots o ≡ Ok (count slots (λ k. eqb (get_or o k 0) nobody))
  pub uncovered-answered : (P : Plan) (o : List ℕ) → answer_refusal (uncovered_is P o) ≡ 0 → uncovered_is P o ≡ Ok (worked P o nobody)
  -- a person's slots, as a set by value: as many as there are slots, and each as in the person's row
  pub slots-answered : (people slots : ℕ) (ws : List ℕ) (p : ℕ)
      → let y = slots_of_is people slots ws p in y.number ≡ 0
      → (y.set.len ≡ slots) × ((k : ℕ) → k < slots → slots_of y.set k ≡ row_slots ws p k)
