-- Demand 3, a definition a sentence: what holds of every list of draws that a component accepts, whatever its rota. Assumes nothing.
use Rattle.std.specs.Prelude.{◌≡◌, true, List, ◌++◌, ℕ, ◌+◌, ◌^◌, ◌≤◌, ◌<◌, eqb, get_or, take, drop, Ok}
use Rattle.paper.specs.Limits.{nobody}
use Rattle.paper.specs.Count.{sum, count}
use Rattle.slotset.specs.Slots.{slot}
use Rattle.slots.specs.Lent.{demand_of}
use Rattle.units.specs.Units.{unit_of}
use Rattle.rota.specs.Acts as acts
use Rattle.owners.specs.Derived.{known_by, total_of}
use Rattle.owners.specs.Recount.{available_for, recounts}
use Rattle.owners.specs.Entries.{Outcome, slots_of_is}
use Rattle.rota.specs.declared.draws.Draw.{Draw}
use Rattle.promises.specs.Entries.{Call, Component, no_of, play_of, with_draws, on_rota, of_draws, play_draws_of, afresh_in, board_in}
use Rattle.promises.specs.MoveRules.{draw_at, found_at}
use Rattle.promises.specs.RotaRules.{PastKept}

-- "From any rota that passes the recount, any accepted list of draws ends in the rota that the rules give worked out afresh."
abbrev pub EndsAfresh : Component → Type 0
EndsAfresh C = (c : Call) → no_of c ≡ 0 → C.play c ≡ afresh_in c

-- a list of draws in structs ends as its three columns do, so that each sentence holds of it too
abbrev pub DrawsAlike : Type 0
DrawsAlike = (c : Call) (ds : List Draw) → play_draws_of c ds ≡ play_of (of_draws c ds)

-- the owner of slot k before the call, and after it
abbrev pub before : Call → ℕ → ℕ
before c k = get_or c.owners k 0

abbrev pub after : Component → Call → ℕ → ℕ
after C c k = get_or (C.play c).owners k 0

-- "Frozen slots keep their owners"
abbrev pub FrozenKeep : Component → Type 0
FrozenKeep C =
    (c : Call) → no_of c ≡ 0 → (k : ℕ) → k < c.plan.slots → eqb (slot c.frozen 0 k) 1 ≡ true → after C c k ≡ before c k

-- "every owner is available": each slot has a known person who is available for it, or nobody
abbrev pub OwnersAvailable : Component → Type 0
OwnersAvailable C =
    (c : Call) → no_of c ≡ 0 → (k : ℕ) → k < c.plan.slots
    → (known_by c.plan.people (after C c k) ≡ true) × (available_for c.avail (after C c k) k ≡ true)

-- "no covered slot becomes uncovered"
abbrev pub CoveredStays : Component → Type 0
CoveredStays C = (c : Call) → no_of c ≡ 0 → (k : ℕ) → k < c.plan.slots → (before c k ≡ nobody → ⊥) → after C c k ≡ nobody → ⊥

-- draw i of a call acts and hands unit u over, by its kind and the runs at its step
pub record HandedAt (c : Call) (i u : ℕ) : Type 0 where
  pub acting : acts.Acts (board_in c) (found_at c i) (draw_at c i)
  pub over : acts.HandsOver (board_in c) (found_at c i) (draw_at c i) acting u

-- "only units that an acting draw hands over change owner"
abbrev pub OnlyHandedOver : Component → Type 0
OnlyHandedOver C =
    (c : Call) → no_of c ≡ 0 → (k : ℕ) → k < c.plan.slots
    → ((i : ℕ) → i < c.count → HandedAt c i (unit_of c.units c.begins k) → ⊥) → after C c k ≡ before c k

-- "sets and minutes equal a recount": the rota that is left passes it, units and stored totals too
abbrev pub Recounts : Component → Type 0
Recounts C =
    (c : Call) → no_of c ≡ 0
    → recounts c.plan c.avail c.units c.begins (C.play c).owners (C.play c).derived ≡ true

-- .. so that the count of a person's set is the number of slots that they own
abbrev pub SizesRecount : Component → Type 0
SizesRecount C =
    (c : Call) → no_of c ≡ 0 → (p : ℕ) → p < c.plan.people
    → C.size (slots_of_is c.plan.people c.plan.slots (C.play c).derived.sets p).set
    ≡ Ok (count c.plan.slots (λ k. eqb (after C c k) p))

-- "minutes plus uncovered minutes equal the slots' total": the stored uncovered minutes are those that are answered, and this is their sum
abbrev pub AddsUp : Component → Type 0
AddsUp C =
    (c : Call) → no_of c ≡ 0
    → let stored = get_or (C.play c).derived.totals 0 0 in
    (C.uncovered c.plan (C.play c).owners ≡ Ok stored)
    × (sum c.plan.people (λ p. get_or (C.play c).derived.minutes p 0) + stored
    ≡ demand_of c.plan.slots c.plan.starts c.plan.ends)

-- no draw raises a stored total: neither the uncovered minutes nor the number of slots that nobody owns
abbrev pub TotalsFall : Component → Type 0
TotalsFall C = (c : Call) → no_of c ≡ 0 → (i : ℕ) → i < 2 → get_or (C.play c).derived.totals i 0 ≤ get_or c.derived.totals i 0

-- a total that is wrong at the start is refused, and never carried on
abbrev pub WrongTotalsRefused : Type 0
WrongTotalsRefused =
    (c : Call) (i : ℕ) → i < 2 → (get_or c.derived.totals i 0 ≡ total_of c.plan c.owners i → ⊥) → no_of c ≡ 0 → ⊥

-- and of the paper, bytes past the list's end or the needed length stay: those of the rota, and answers past the draws
abbrev pub PastStays : Component → Type 0
PastStays C =
    (c : Call) → no_of c ≡ 0
    → PastKept c.plan.people c.plan.slots c.owners c.derived (C.play c)
    × ((k : ℕ) → c.count ≤ k → get_or (C.play c).answers k 0 ≡ get_or c.answers k 0)

-- "and a list played in two calls ends as in one"

-- the call with its first n draws alone
abbrev pub first_call : Call → ℕ → Call
first_call c n = with_draws c n c.draws c.firsts c.seconds

-- the call with the m draws after them, on what an outcome left
abbrev pub next_call : Call → Outcome → ℕ → ℕ → Call
next_call c y n m =
    on_rota (with_draws c m (drop n c.draws) (drop n c.firsts) (drop n c.seconds)) y.owners y.derived (drop n y.answers)

abbrev pub second_call : Component → Call → ℕ → ℕ → Call
second_call C c n m = next_call c (C.play (first_call c n)) n m

-- words of a lent set are numbers of 64 bits
abbrev pub Words : List ℕ → Type 0
Words ws = (j : ℕ) → get_or ws j 0 < 2 ^ 64

pub record InTwo (C : Component) (c : Call) (n m : ℕ) : Type 0 where
  pub first : (C.play (first_call c n)).refusal.number ≡ 0
  pub second : (C.play (second_call C c n m)).refusal.number ≡ 0
  pub owners : (C.play (second_call C c n m)).owners ≡ (C.play c).owners
  pub derived : (C.play (second_call C c n m)).derived ≡ (C.play c).derived
  pub answers : take n (C.play (first_call c n)).answers ++ (C.play (second_call C c n m)).answers ≡ (C.play c).answers

abbrev pub TwoCalls : Component → Type 0
TwoCalls C = (c : Call) (n m : ℕ) → c.count ≡ n + m → no_of c ≡ 0 → Words c.derived.sets → InTwo C c n m
