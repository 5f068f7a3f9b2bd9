-- A replay of recorded blocks: what one block comes to, both ways; and over blocks of any number, each on what the one before it left,
-- demand 3 sentence by sentence, of all draws so far as one list of any length. Assumes nothing.
use Rattle.std.specs.Prelude.{◌≡◌, true, List, [], ◌∷◌, ◌++◌, ◌↔◌, ℕ, suc, ◌+◌, ◌≤◌, ◌<◌, eqb, length, get_or, take, Result, Ok, Err}
use Rattle.paper.specs.Limits.{draws_most, nobody, Test, number_of}
use Rattle.paper.specs.declared.Refusal.{Refusal}
use Rattle.paper.specs.Rows.{refusal_of}
use Rattle.paper.specs.Count.{sum}
use Rattle.slotset.specs.Slots.{slot}
use Rattle.slots.specs.Lent.{demand_of}
use Rattle.units.specs.Units.{unit_of}
use Rattle.owners.specs.Derived.{Derived, known_by, afresh}
use Rattle.owners.specs.Recount.{available_for, recounts}
use Rattle.rota.specs.declared.replay.Replayed.{Replayed}
use Rattle.rota.specs.declared.replay.Replayed.TheVariants as variant
use Rattle.rota.specs.Board.{Board}
use Rattle.rota.specs.Moves.{Draw, draw}
use Rattle.rota.specs.Plays.{draws_of, owners_after, answers}
use Rattle.rota.specs.Acts as acts
use Rattle.rota.specs.Entries.{columns_enough}
use Rattle.rota.specs.Replays.{Outcome, replay_row, replayed}
use Rattle.promises.specs.Entries.{Call, Component, no_of, board_in}
use Rattle.promises.specs.Rota.{Words}
use Rattle.promises.specs.ManyCalls.{Part, part_call, draws_of_parts}

-- ---- one block

-- a recorded block is a part whose answers are the recorded ones; a replay takes the rota, and what is read besides of a call
abbrev pub Replay : Type 0
Replay = Call → List ℕ → Derived → Part → Outcome

abbrev pub replay_of : Replay
replay_of c o D b =
    replayed c.plan c.avail c.units c.begins c.frozen b.count b.draws b.firsts b.seconds b.answers o D

-- its tests: 13 first, then those of the play of its draws
abbrev pub replay_tests : Call → List ℕ → Derived → Part → List Test
replay_tests c o D b =
    replay_row c.plan c.avail c.units c.begins c.frozen b.count
    (columns_enough b.count b.draws b.firsts b.seconds) b.answers o D

abbrev pub block_draws : Part → List Draw
block_draws b = draws_of b.draws b.firsts b.seconds b.count

-- draw i of a list is answered by the rules as it was recorded
abbrev pub Agree : Board → List ℕ → List Draw → List ℕ → ℕ → Type 0
Agree B o ds rs i = get_or (answers B o ds) i 0 ≡ get_or rs i 0

-- draw p is the first of a block that isn't
pub record FirstDiffers (c : Call) (o : List ℕ) (b : Part) (p : ℕ) : Type 0 where
  pub below : p < b.count
  pub before : (i : ℕ) → i < p → Agree (board_in c) o (block_draws b) b.answers i
  pub here : Agree (board_in c) o (block_draws b) b.answers p → ⊥

-- what is played: all draws of a block that agrees; up to and with the one that differs; of a refused block none
abbrev pub played_in : Result Replayed Refusal → Part → List Draw
played_in (Ok variant.Agrees) b = block_draws b
played_in (Ok (variant.Differs p)) b = take (suc p) (block_draws b)
played_in (Err f) b = []

-- a block that isn't refused leaves the owners that the rules give for these draws, and the rest worked out afresh
pub record BlockPlayed (R : Replay) (c : Call) (o : List ℕ) (D : Derived) (b : Part) : Type 0 where
  pub owners : (R c o D b).owners ≡ owners_after (board_in c) o (played_in (R c o D b).answer b)
  pub derived : (R c o D b).derived ≡ afresh c.plan (R c o D b).owners D

pub record BlocksByRule (R : Replay) : Type 0 where
  -- "agrees" exactly when nothing stands against it and every answer is the recorded one
  pub agrees : (c : Call) (o : List ℕ) (D : Derived) (b : Part)
      → ((R c o D b).answer ≡ Ok variant.Agrees)
      ↔ ((number_of (replay_tests c o D b) ≡ 0)
      × ((i : ℕ) → i < b.count → Agree (board_in c) o (block_draws b) b.answers i))
  -- a place exactly when nothing stands against it and that draw is the first that differs
  pub differs : (c : Call) (o : List ℕ) (D : Derived) (b : Part) (p : ℕ)
      → ((R c o D b).answer ≡ Ok (variant.Differs p)) ↔ ((number_of (replay_tests c o D b) ≡ 0) × FirstDiffers c o b p)
  pub played : (c : Call) (o : List ℕ) (D : Derived) (b : Part) → number_of (replay_tests c o D b) ≡ 0 → BlockPlayed R c o D b
  -- refused by its tests, with part and place, and the rota is as it was lent
  pub refused : (c : Call) (o : List ℕ) (D : Derived) (b : Part) → (number_of (replay_tests c o D b) ≡ 0 → ⊥)
      → ((R c o D b).answer ≡ Err (refusal_of (replay_tests c o D b))) × ((R c o D b).owners ≡ o) × ((R c o D b).derived ≡ D)

-- ---- blocks one after another

-- every block agrees, each on what the one before it left; and what the last one leaves
unfoldable pub AllAgree : Replay → Call → List ℕ → Derived → List Part → Type 0
AllAgree R c o D [] = Unit
AllAgree R c o D (b ∷ bs) = let y = R c o D b in (y.answer ≡ Ok variant.Agrees) × AllAgree R c y.owners y.derived bs

unfoldable pub owners_left : Replay → Call → List ℕ → Derived → List Part → List ℕ
owners_left R c o D [] = o
owners_left R c o D (b ∷ bs) = let y = R c o D b in owners_left R c y.owners y.derived bs

unfoldable pub derived_left : Replay → Call → List ℕ → Derived → List Part → Derived
derived_left R c o D [] = D
derived_left R c o D (b ∷ bs) = let y = R c o D b in derived_left R c y.owners y.derived bs

-- all recorded answers, as one list
unfoldable pub recorded_of : List Part → List ℕ
recorded_of [] = []
recorded_of (b ∷ bs) = take b.count b.answers ++ recorded_of bs

-- the block after them
abbrev pub next : Replay → Call → List ℕ → Derived → List Part → Part → Outcome
next R c o D bs b = R c (owners_left R c o D bs) (derived_left R c o D bs) b

-- blocks that agree, then one that isn't refused: so far a replay has come
pub record Came (R : Replay) (c : Call) (o : List ℕ) (D : Derived) (bs : List Part) (b : Part) : Type 0 where
  pub agree : AllAgree R c o D bs
  pub accepted : number_of (replay_tests c (owners_left R c o D bs) (derived_left R c o D bs) b) ≡ 0

-- all draws so far, as one list: those of the blocks that agree, and those that were played of the last one
abbrev pub so_far : Replay → Call → List ℕ → Derived → List Part → Part → List Draw
so_far R c o D bs b = draws_of_parts bs ++ played_in (next R c o D bs b).answer b

-- "the rota is the one that rule 2 gives for all draws so far as one list"
pub record IsOneList (R : Replay) (c : Call) (o : List ℕ) (D : Derived) (bs : List Part) (b : Part) : Type 0 where
  pub owners : (next R c o D bs b).owners ≡ owners_after (board_in c) o (so_far R c o D bs b)
  pub derived : (next R c o D bs b).derived ≡ afresh c.plan (next R c o D bs b).owners D

abbrev pub OneList : Replay → Type 0
OneList R =
    (c : Call) (o : List ℕ) (D : Derived) (bs : List Part) (b : Part) → Words D.sets → Came R c o D bs b
    → IsOneList R c o D bs b

-- ---- demand 3 of all draws so far, sentence by sentence

abbrev pub owner_left : Replay → Call → List ℕ → Derived → List Part → Part → ℕ → ℕ
owner_left R c o D bs b k = get_or (next R c o D bs b).owners k 0

-- draw i of a list, and the owners that it finds
abbrev pub draw_in : List Draw → ℕ → Draw
draw_in ds i = get_or ds i (draw 0 0 0)

abbrev pub found_in : Board → List ℕ → List Draw → ℕ → List ℕ
found_in B o ds i = owners_after B o (take i ds)

-- it acts and hands unit u over, by its kind and the runs at its step
pub record HandedIn (B : Board) (o : List ℕ) (ds : List Draw) (i u : ℕ) : Type 0 where
  pub acting : acts.Acts B (found_in B o ds i) (draw_in ds i)
  pub over : acts.HandsOver B (found_in B o ds i) (draw_in ds i) acting u

pub record KeepsDemandThree (C : Component) (R : Replay) (c : Call) (o : List ℕ) (D : Derived) (bs : List Part) (b : Part) : Type 0 where
  -- "frozen slots keep their owners"
  pub frozen : (k : ℕ) → k < c.plan.slots → eqb (slot c.frozen 0 k) 1 ≡ true → owner_left R c o D bs b k ≡ get_or o k 0
  -- "every owner is available"
  pub available : (k : ℕ) → k < c.plan.slots
      → (known_by c.plan.people (owner_left R c o D bs b k) ≡ true) × (available_for c.avail (owner_left R c o D bs b k) k ≡ true)
  -- "no covered slot becomes uncovered"
  pub covered : (k : ℕ) → k < c.plan.slots → (get_or o k 0 ≡ nobody → ⊥) → owner_left R c o D bs b k ≡ nobody → ⊥
  -- "only units that an acting draw hands over change owner"
  pub only-handed : (k : ℕ) → k < c.plan.slots
      → ((i : ℕ) → i < length (so_far R c o D bs b)
      → HandedIn (board_in c) o (so_far R c o D bs b) i (unit_of c.units c.begins k) → ⊥)
      → owner_left R c o D bs b k ≡ get_or o k 0
  -- "sets and minutes equal a recount": the rota that is left passes it, units and stored totals too
  pub recount : recounts c.plan c.avail c.units c.begins (next R c o D bs b).owners (next R c o D bs b).derived ≡ true
  -- "minutes plus uncovered minutes equal the slots' total": the stored uncovered minutes are those answered, and this is their sum
  pub adds-up : let stored = get_or (next R c o D bs b).derived.totals 0 0 in
      (C.uncovered c.plan (next R c o D bs b).owners ≡ Ok stored)
      × (sum c.plan.people (λ p. get_or (next R c o D bs b).derived.minutes p 0) + stored
      ≡ demand_of c.plan.slots c.plan.starts c.plan.ends)

abbrev pub DemandThree : Component → Replay → Type 0
DemandThree C R =
    (c : Call) (o : List ℕ) (D : Derived) (bs : List Part) (b : Part) → Words D.sets → Came R c o D bs b
    → KeepsDemandThree C R c o D bs b

-- ---- the first difference of all

-- where a block differs, its draw is the first of all draws that is not answered as recorded
pub record FirstOfAll (c : Call) (o : List ℕ) (bs : List Part) (b : Part) (p : ℕ) : Type 0 where
  pub before : (i : ℕ) → i < length (draws_of_parts bs) + p
      → Agree (board_in c) o (draws_of_parts bs ++ block_draws b) (recorded_of bs ++ b.answers) i
  pub here : Agree (board_in c) o (draws_of_parts bs ++ block_draws b) (recorded_of bs ++ b.answers) (length (draws_of_parts bs) + p) → ⊥

abbrev pub NamesTheFirst : Replay → Type 0
NamesTheFirst R =
    (c : Call) (o : List ℕ) (D : Derived) (bs : List Part) (b : Part) (p : ℕ) → Words D.sets → AllAgree R c o D bs
    → (next R c o D bs b).answer ≡ Ok (variant.Differs p) → FirstOfAll c o bs b p

-- ---- how the draws are cut into blocks doesn't matter

-- the rota can be played on: a call of no draws is accepted
abbrev pub Playable : Call → List ℕ → Derived → Type 0
Playable c o D = no_of (part_call c o D (record { count = 0; draws = []; firsts = []; seconds = []; answers = [] })) ≡ 0

-- a block as it may be lent, whatever its answers
pub record Lendable (b : Part) : Type 0 where
  pub few : b.count ≤ draws_most
  pub draws : b.count ≤ length b.draws
  pub firsts : b.count ≤ length b.firsts
  pub seconds : b.count ≤ length b.seconds
  pub recorded : b.count ≤ length b.answers

unfoldable pub AllLendable : List Part → Type 0
AllLendable [] = Unit
AllLendable (b ∷ bs) = Lendable b × AllLendable bs

-- "all agree" exactly when every answer of every block does, of all draws as one list
abbrev pub AgreeAsOne : Replay → Type 0
AgreeAsOne R =
    (c : Call) (o : List ℕ) (D : Derived) (bs : List Part) → Words D.sets → Playable c o D → AllLendable bs
    → AllAgree R c o D bs ↔ (recorded_of bs ≡ answers (board_in c) o (draws_of_parts bs))

-- the same draws and recorded answers cut otherwise agree too, and leave the same rota
pub record CutAlike (R : Replay) (c : Call) (o : List ℕ) (D : Derived) (bs es : List Part) : Type 0 where
  pub agree : AllAgree R c o D es
  pub owners : owners_left R c o D es ≡ owners_left R c o D bs
  pub derived : derived_left R c o D es ≡ derived_left R c o D bs

abbrev pub CutAnywhere : Replay → Type 0
CutAnywhere R =
    (c : Call) (o : List ℕ) (D : Derived) (bs es : List Part) → Words D.sets → Playable c o D → AllLendable es
    → AllAgree R c o D bs → draws_of_parts es ≡ draws_of_parts bs → recorded_of es ≡ recorded_of bs → CutAlike R c o D bs es

-- and so does what was played up to a difference: the same draws so far leave the same rota, however they were cut
abbrev pub EndsAlike : Replay → Type 0
EndsAlike R =
    (c : Call) (o : List ℕ) (D : Derived) (bs es : List Part) (b e : Part) → Words D.sets → Came R c o D bs b → Came R c o D es e
    → so_far R c o D es e ≡ so_far R c o D bs b
    → ((next R c o D es e).owners ≡ (next R c o D bs b).owners) × ((next R c o D es e).derived ≡ (next R c o D bs b).derived)
