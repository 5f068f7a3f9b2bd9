-- The function way_back, by its rule: what it writes is the way back and leads there; where it tells a unit there is none; and when it refuses.
-- Assumes nothing.
use Rattle.std.specs.Prelude.{◌≡◌, cond, List, [], ◌∷◌, ℕ, ◌≤◌, ◌<◌, eqb, length, get_or, replicate, take, Result, Ok, Err}
use Rattle.paper.specs.Limits.{Test, number_of}
use Rattle.paper.specs.declared.Refusal.{Refusal}
use Rattle.paper.specs.Rows.{refusal_of}
use Rattle.paper.specs.Count.{onto}
use Rattle.owners.specs.Derived.{afresh}
use Rattle.rota.specs.Board.{owner_of}
use Rattle.rota.specs.Plays.{draws_of}
use Rattle.wayback.specs.declared.Way.{Way}
use Rattle.wayback.specs.declared.Way.TheVariants as way
use Rattle.wayback.specs.Back.{back}
use Rattle.wayback.specs.Answers.{Outcome, InWay, way_row, way_back_of}
use Rattle.boltraven_c.specs.Ways.{way_number, way_told}
use Rattle.promises.specs.Entries.{Call, Component, board_in}
use Rattle.promises.specs.Accepts.{no_draw}
use Rattle.promises.specs.ManyCalls.{Part, part_call}
use Rattle.promises.specs.Exports.{read_refusal}
use Rattle.promises.specs.Table.{rules, Refuses}

-- what is remembered, and the three columns to write; the rota, slots, units, availability and flags are those of a call
pub record Asked : Type 0 where
  pub remembered : List ℕ
  pub draws : List ℕ
  pub firsts : List ℕ
  pub seconds : List ℕ

abbrev pub way_for : Call → Asked → Outcome
way_for c q =
    way_back_of c.plan c.avail c.units c.begins c.frozen q.remembered c.owners c.derived q.draws q.firsts
    q.seconds

abbrev pub way_tests : Call → Asked → List Test
way_tests c q =
    way_row c.plan c.avail c.units c.begins c.frozen q.remembered c.owners c.derived q.draws q.firsts
    q.seconds

-- the number of its refusal; 0 for draws and for a unit
abbrev pub way_refusal : Result Way Refusal → ℕ
way_refusal (Ok w) = 0
way_refusal (Err f) = f.number

-- the answer that a C caller reads of its number and of what is told beside it
abbrev pub read_way : ℕ → ℕ → Result Way Refusal
read_way v told = cond (eqb v 0) (Ok (way.Draws told)) (cond (eqb v 65536) (Ok (way.NoWay told)) (Err (read_refusal v)))

-- ---- the draws

-- a play of what was written, with its answers in x
abbrev pub written : Call → Asked → ℕ → List ℕ → Part
written c q n x =
    let y = way_for c q in record { count = n; draws = y.draws; firsts = y.firsts; seconds = y.seconds; answers = x }

-- the first n entries of the columns are `back`, and what lies past them stays; played, they are accepted, every one acts, each slot has its
-- remembered owner, and the rest is worked out afresh from these
pub record Leads (C : Component) (c : Call) (q : Asked) (n : ℕ) : Type 0 where
  pub is-back : draws_of (way_for c q).draws (way_for c q).firsts (way_for c q).seconds n ≡ back (board_in c) q.remembered c.owners
  pub past : (k : ℕ) → n ≤ k
      → (get_or (way_for c q).draws k 0 ≡ get_or q.draws k 0) × (get_or (way_for c q).firsts k 0 ≡ get_or q.firsts k 0)
      × (get_or (way_for c q).seconds k 0 ≡ get_or q.seconds k 0)
  pub accepted : (x : List ℕ) → n ≤ length x → (C.play (part_call c c.owners c.derived (written c q n x))).refusal.number ≡ 0
  pub act : (x : List ℕ) → n ≤ length x → (i : ℕ) → i < n
      → get_or (C.play (part_call c c.owners c.derived (written c q n x))).answers i 0 ≡ 0
  pub owners : (x : List ℕ) → n ≤ length x
      → (C.play (part_call c c.owners c.derived (written c q n x))).owners ≡ onto (take c.plan.slots q.remembered) c.owners
  pub derived : (x : List ℕ) → n ≤ length x
      → (C.play (part_call c c.owners c.derived (written c q n x))).derived ≡ afresh c.plan q.remembered c.derived

-- ---- a unit in the way

-- the lowest such unit; nothing is written; and whatever is played on the rota, that unit doesn't get its remembered owner
pub record Blocks (C : Component) (c : Call) (q : Asked) (u : ℕ) : Type 0 where
  pub in-way : InWay (board_in c) q.remembered c.owners u
  pub lowest : (v : ℕ) → v < u → InWay (board_in c) q.remembered c.owners v → ⊥
  pub kept : ((way_for c q).draws ≡ q.draws) × ((way_for c q).firsts ≡ q.firsts) × ((way_for c q).seconds ≡ q.seconds)
  pub no_way : (w : Part) → (C.play (part_call c c.owners c.derived w)).refusal.number ≡ 0
      → owner_of (board_in c) (C.play (part_call c c.owners c.derived w)).owners u ≡ owner_of (board_in c) q.remembered u → ⊥

-- ---- the rule

pub record WayByRule (C : Component) : Type 0 where
  pub draws : (c : Call) (q : Asked) (n : ℕ) → (way_for c q).answer ≡ Ok (way.Draws n) → Leads C c q n
  pub unit : (c : Call) (q : Asked) (u : ℕ) → (way_for c q).answer ≡ Ok (way.NoWay u) → Blocks C c q u
  -- where nothing is refused and no unit is in the way, the draws are answered
  pub found : (c : Call) (q : Asked) → number_of (way_tests c q) ≡ 0
      → ((u : ℕ) → InWay (board_in c) q.remembered c.owners u → ⊥)
      → (way_for c q).answer ≡ Ok (way.Draws (length (back (board_in c) q.remembered c.owners)))
  -- refused by the table, with part and place, and the columns as they were
  pub refused : (c : Call) (q : Asked)
      → Refuses {A = List ℕ × List ℕ × List ℕ} (rules (way_tests c q)) (way_refusal (way_for c q).answer)
      (q.draws, q.firsts, q.seconds) (let y = way_for c q in (y.draws, y.firsts, y.seconds))
  pub with-place : (c : Call) (q : Asked) → (number_of (way_tests c q) ≡ 0 → ⊥)
      → (way_for c q).answer ≡ Err (refusal_of (way_tests c q))
  -- in C: the answer that was meant, whatever was lent for what is told
  pub reads : (c : Call) (q : Asked) (was : ℕ)
      → let w = (way_for c q).answer in read_way (way_number w) (way_told was w) ≡ w
  -- it is not empty: two units, owners 0 and 1, remembered 1 and 1: one draw
  pub example : way_for no_draw
      record { remembered = 1 ∷ 1 ∷ []; draws = replicate 2 9; firsts = replicate 2 9; seconds = replicate 2 9 }
      ≡ record { answer = Ok (way.Draws 1); draws = 0 ∷ 9 ∷ []; firsts = 0 ∷ 9 ∷ []; seconds = 1 ∷ 9 ∷ [] }
