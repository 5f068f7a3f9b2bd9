-- What one draw, and a list of draws, leave in the lent columns. Assumes nothing.
use Rattle.std.specs.Prelude.{◌≡◌, List, ℕ, ◌≤◌, ◌<◌, length, set}
use Rattle.paper.specs.Count.{onto}
use Rattle.rota.specs.Board.{Board, BoardSound, Even}
use Rattle.rota.specs.Moves.{Draw}
use Rattle.rota.specs.Plays.{step, answer, owners_after, answers}
use Rattle.owners.specs.Derived.{Plan, Derived, afresh}
use Rattle.owners.specs.Inside.{InStep, PlanSound}

-- one draw: its answer, its owners, and sets and minutes worked out afresh from them
pub record Stepped (P : Plan) (B : Board) (o : List ℕ) (D : Derived) (d : Draw) (r : ℕ) (o' : List ℕ) (D' : Derived) : Type 0 where
  pub answer : r ≡ answer B o d
  pub owners : o' ≡ step B o d
  pub derived : D' ≡ afresh P o' D
  pub in_step : InStep P o' D'

-- what one draw asks, with its answer at i of x
pub record StepAsks (P : Plan) (B : Board) (o : List ℕ) (D : Derived) (begins fits flags : List ℕ) (i : ℕ) (x : List ℕ) : Type 0 where
  pub sound : PlanSound P
  pub in_step : InStep P o D
  pub board : BoardSound B
  pub even : Even B o
  pub room : (B.units ≤ length begins) × (B.units ≤ length fits) × (B.units ≤ length flags)
  pub answers : i < length x

-- what it leaves
pub record SteppedAt (P : Plan) (B : Board) (o : List ℕ) (D : Derived) (d : Draw) (i : ℕ) (x o' : List ℕ) (D' : Derived) (x' :
    List ℕ) : Type 0 where
  pub stepped : Stepped P B o D d (answer B o d) o' D'
  pub answers : x' ≡ set x i (answer B o d)

-- a list of draws
pub record Ran (P : Plan) (B : Board) (o : List ℕ) (D : Derived) (x : List ℕ) (ds : List Draw) (o' : List ℕ) (D' : Derived) (x' :
    List ℕ) : Type 0 where
  pub owners : o' ≡ owners_after B o ds
  pub derived : D' ≡ afresh P o' D
  pub answers : x' ≡ onto (answers B o ds) x
  pub in_step : InStep P o' D'

-- room in the columns of draws and answers
pub record DrawRoom (n : ℕ) (ks fs ss x : List ℕ) : Type 0 where
  pub draws : n ≤ length ks
  pub firsts : n ≤ length fs
  pub seconds : n ≤ length ss
  pub answers : n ≤ length x
