-- Demand 2, moves: "A draw acts exactly when those rules say." The rules of each move, one field a condition of the paper, are
-- the records of rota's specs/Acts.antt. Assumes nothing.
use Rattle.std.specs.Prelude.{◌≡◌, true, List, ◌↔◌, ℕ, ◌<◌, get_or}
use Rattle.units.specs.Units.{unit_of}
use Rattle.rota.specs.Board.{Board, owner_of, RunOf}
use Rattle.rota.specs.Moves.{Draw, draw, handed, run_first, run_last}
use Rattle.rota.specs.Plays.{step, answer, owners_after, draws_of}
use Rattle.rota.specs.Acts as acts
use Rattle.promises.specs.Entries.{Call, no_of, play_of, board_in}

-- draw i of a call, and the owners that it finds: those that the draws before it leave
abbrev pub draw_at : Call → ℕ → Draw
draw_at c i = draw (get_or c.draws i 0) (get_or c.firsts i 0) (get_or c.seconds i 0)

abbrev pub found_at : Call → ℕ → List ℕ
found_at c i = owners_after (board_in c) c.owners (draws_of c.draws c.firsts c.seconds i)

pub record MovesByRule : Type 0 where
  -- "Each gets an answer byte: 0 acted, 1 no move, 2 choice outside": 0 exactly when its move's conditions hold, 2 exactly
  -- when its number, a named unit or its choice lies outside, 1 exactly when neither; of any board, owners and draw
  pub answers : (B : Board) (o : List ℕ) (d : Draw) → acts.GivenBy (answer B o d) (acts.Acts B o d) (acts.ChoiceOutside B o d)
  -- each answer of an accepted play is that of its draw at its step: "Play goes on after 1 and 2."
  pub play : (c : Call) → no_of c ≡ 0 → (i : ℕ) → i < c.count
      → acts.GivenBy (get_or (play_of c).answers i 0) (acts.Acts (board_in c) (found_at c i) (draw_at c i))
      (acts.ChoiceOutside (board_in c) (found_at c i) (draw_at c i))
  -- a draw that acts leaves each slot with the owner that the rule gives its unit
  pub hands-over : (c : Call) → no_of c ≡ 0 → (i : ℕ) (A : acts.Acts (board_in c) (found_at c i) (draw_at c i)) (k : ℕ) → k < c.plan.slots
      → get_or (step (board_in c) (found_at c i) (draw_at c i)) k 0
      ≡ acts.owner_then (board_in c) (found_at c i) (draw_at c i) A (unit_of c.units c.begins k)
  -- one that doesn't changes nothing
  pub keeps : (B : Board) (o : List ℕ) (d : Draw) → (answer B o d ≡ 0 → ⊥) → step B o d ≡ o
  -- the units that an acting draw hands over, as demand 3 has them, are those of its move
  pub handed : (B : Board) (o : List ℕ) (d : Draw) (A : acts.Acts B o d) (u : ℕ) → (handed B o d u ≡ true) ↔ acts.HandsOver B o d A u
  -- "A run here is a maximal stretch of units with one owner."
  pub run : (B : Board) (o : List ℕ) (u : ℕ) → u < B.units → RunOf B.units (owner_of B o) u (run_first B o u) (run_last B o u)
  pub one-run : (B : Board) (o : List ℕ) (u a b : ℕ) → u < B.units → RunOf B.units (owner_of B o) u a b
      → (a ≡ run_first B o u) × (b ≡ run_last B o u)
