-- Demand 3's first sentence as a rule: what each draw of a play leaves to the next, and that there is exactly one such play. Assumes nothing.
use Rattle.std.specs.Prelude.{◌≡◌, true, List, ◌↔◌, ℕ, zero, suc, ◌*◌, ◌≤◌, ◌<◌, length, get_or}
use Rattle.paper.specs.Limits.{set_words}
use Rattle.slotset.specs.Slots.{slot}
use Rattle.rota.specs.Board.{Board, InUnit}
use Rattle.rota.specs.Moves.{Draw}
use Rattle.rota.specs.Acts as acts
use Rattle.promises.specs.Entries.{Call, Component, no_of, board_in}
use Rattle.promises.specs.MoveRules.{draw_at}

-- one draw turns the owners o into o': if it acts, each slot has the owner that its move's rule gives its unit, and what lies past the slots
-- stays; if it doesn't, nothing changes
pub record Turn (B : Board) (o : List ℕ) (d : Draw) (o' : List ℕ) : Type 0 where
  pub acting : (A : acts.Acts B o d) (u k : ℕ) → InUnit B u k → get_or o' k 0 ≡ acts.owner_then B o d A u
  pub past : (k : ℕ) → B.slots ≤ k → get_or o' k 0 ≡ get_or o k 0
  pub long : length o' ≡ length o
  pub idle : (acts.Acts B o d → ⊥) → o' ≡ o

-- the owners that each draw of a call finds: the call's own at first, then what the draw before it leaves
pub record History (c : Call) (found : ℕ → List ℕ) : Type 0 where
  pub starts : found zero ≡ c.owners
  pub turns : (i : ℕ) → i < c.count → Turn (board_in c) (found i) (draw_at c i) (found (suc i))

-- an accepted play leaves what its last draw leaves, and answers each draw by what it finds
pub record PlayedBy (C : Component) (c : Call) (found : ℕ → List ℕ) : Type 0 where
  pub history : History c found
  pub owners : (C.play c).owners ≡ found c.count
  pub answers : (i : ℕ) → i < c.count
      → acts.GivenBy (get_or (C.play c).answers i 0) (acts.Acts (board_in c) (found i) (draw_at c i))
      (acts.ChoiceOutside (board_in c) (found i) (draw_at c i))

abbrev pub PlaysByRule : Component → Type 0
PlaysByRule C = (c : Call) → no_of c ≡ 0 → (found : ℕ → List ℕ) × PlayedBy C c found

-- and there is no other: two histories of one accepted call find the same owners at every draw, and leave the same
abbrev pub OneHistory : Type 0
OneHistory = (c : Call) → no_of c ≡ 0 → (f g : ℕ → List ℕ) → History c f → History c g → (i : ℕ) → i ≤ c.count → f i ≡ g i

-- ---- the board, in slots

-- slot k is one of unit u: from the unit's start on, and before the next unit's start, if there is one, and the slot count
pub record InSlots (c : Call) (u k : ℕ) : Type 0 where
  pub known : u < c.units
  pub from : get_or c.begins u 0 ≤ k
  pub before-next : suc u < c.units → k < get_or c.begins (suc u) 0
  pub below : k < c.plan.slots

-- a person fits a unit exactly when they are available for each of its slots; a unit is frozen exactly when some slot of it is
pub record BoardInSlots (c : Call) : Type 0 where
  pub in-unit : (u k : ℕ) → InUnit (board_in c) u k ↔ InSlots c u k
  pub fits : (p u : ℕ) → p < c.plan.people → u < c.units
      → ((board_in c).fits p u ≡ true) ↔ ((k : ℕ) → InSlots c u k → slot c.avail (set_words * p) k ≡ 1)
  pub nobody-else : (p u : ℕ) → (board_in c).fits p u ≡ true → (p < c.plan.people) × (u < c.units)
  pub frozen : (u : ℕ) → u < c.units → ((board_in c).frozen u ≡ true) ↔ ((k : ℕ) × InSlots c u k × (slot c.frozen 0 k ≡ 1))

abbrev pub BoardsInSlots : Type 0
BoardsInSlots = (c : Call) → no_of c ≡ 0 → BoardInSlots c
