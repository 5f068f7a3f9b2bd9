-- What contracts of private functions cite, here and in rota: what the checks leave known. Assumes nothing.
use Rattle.std.specs.Prelude.{◌≡◌, ℕ, ◌-◌, ◌*◌, ◌<◌, ◌≤◌, Bool, true, false, not, List, length, ◌==◌, slice_index, Result, Ok, Err}
use Rattle.paper.specs.Count.{fill}
use Rattle.slotset.specs.Slots.{slot, same_slots}
use Rattle.slotset.specs.Answers.{row_slots}
use Rattle.slots.specs.Lent.{SlotsSound}
use Rattle.owners.specs.Derived.{Plan, Derived, known_by, held, worked, total_of, afresh}

-- the people and the lent slots are right
pub record PlanSound (P : Plan) : Type 0 where
  pub people-some : 1 ≤ P.people
  pub people-few : P.people ≤ 32
  pub slots-some : 1 ≤ P.slots
  pub slots-few : P.slots ≤ 1024
  pub lent : SlotsSound P.slots P.starts P.ends

-- what a rota is lent in has room
pub record RotaRoom (people slots : ℕ) (avail o : List ℕ) (D : Derived) : Type 0 where
  pub avail-room : 16 * people ≤ length avail
  pub owners-room : slots ≤ length o
  pub sets-room : 16 * people ≤ length D.sets
  pub minutes-room : people ≤ length D.minutes
  pub totals-room : 2 ≤ length D.totals

-- what sets, minutes and totals are made from: rooms, and owners that are known
pub record Makes (P : Plan) (o : List ℕ) (D : Derived) : Type 0 where
  pub owners-room : P.slots ≤ length o
  pub sets-room : 16 * P.people ≤ length D.sets
  pub minutes-room : P.people ≤ length D.minutes
  pub totals-room : 2 ≤ length D.totals
  pub known : (k : ℕ) → k < P.slots → known_by P.people (slice_index o k) ≡ true

-- a rota in step: owners known, sets, minutes and totals as worked out from them
pub record InStep (P : Plan) (o : List ℕ) (D : Derived) : Type 0 where
  pub owners-room : P.slots ≤ length o
  pub sets-room : 16 * P.people ≤ length D.sets
  pub minutes-room : P.people ≤ length D.minutes
  pub totals-room : 2 ≤ length D.totals
  pub known : (k : ℕ) → k < P.slots → known_by P.people (slice_index o k) ≡ true
  pub sets : (p k : ℕ) → p < P.people → k < P.slots → slot D.sets (16 * p) k ≡ held o p k
  pub minutes : (p : ℕ) → p < P.people → slice_index D.minutes p ≡ worked P o p
  pub totals : (i : ℕ) → i < 2 → slice_index D.totals i ≡ total_of P o i

-- slots a up to e, at least one and none past n, have one owner
pub record OneOwner (o : List ℕ) (n a e : ℕ) : Type 0 where
  pub some : a < e
  pub within : e ≤ n
  pub each : (k : ℕ) → a ≤ k → k < e → slice_index o k ≡ slice_index o a

-- o and D have become o' and D': slots a up to e have gone to w, and what is derived is that worked out afresh
pub record HandedOver (P : Plan) (o : List ℕ) (D : Derived) (a e w : ℕ) (o' : List ℕ) (D' : Derived) : Type 0 where
  pub owners : o' ≡ fill w a (e - a) o
  pub derived : D' ≡ afresh P o' D
  pub step : InStep P o' D'

-- two tests agree: the bit that stands in a set, and the one that is due
abbrev pub same_bit : Bool → Bool → Bool
same_bit a true = a
same_bit a false = not a

-- an answer is yes
abbrev pub is_yes : Result Bool ℕ → Bool
is_yes (Ok true) = true
is_yes (Ok false) = false
is_yes (Err n) = false

-- person p's set, and entry p of a column, are the same in two that are lent
abbrev pub same_set : ℕ → List ℕ → List ℕ → ℕ → Bool
same_set slots ws vs p = same_slots (row_slots ws p) (row_slots vs p) slots

abbrev pub same_entry : List ℕ → List ℕ → ℕ → Bool
same_entry l m p = slice_index l p == slice_index m p
