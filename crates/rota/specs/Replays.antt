-- A replay of one recorded block: its draws are played in order, up to and with the first that is answered otherwise. Assumes nothing.
use Rattle.std.specs.Prelude.{◌≡◌, Bool, cond, List, ◌∷◌, ℕ, suc, eqb, ltb, leb, length, get_or, take, Result, Ok, Err}
use Rattle.paper.specs.Limits.{Test, test}
use Rattle.paper.specs.declared.Refusal.{Refusal}
use Rattle.paper.specs.Rows.{unless, refusal_of}
use Rattle.paper.specs.Count.{all}
use Rattle.owners.specs.Derived.{Plan, Derived, afresh}
use Rattle.owners.specs.Recount.{first_fail}
use Rattle.rota.specs.declared.replay.Replayed.{Replayed}
use Rattle.rota.specs.declared.replay.Replayed.TheVariants as variant
use Rattle.rota.specs.Board.{Board}
use Rattle.rota.specs.Moves.{Draw}
use Rattle.rota.specs.Plays.{draws_of, owners_after, answers}
use Rattle.rota.specs.Lent.{board_of}
use Rattle.rota.specs.Entries.{play_row, columns_enough}

-- ---- where recorded answers part from the play's

-- draw i of a list is answered as it was recorded
unfoldable pub agrees_at : Board → List ℕ → List Draw → List ℕ → ℕ → Bool
agrees_at B o ds rs i = eqb (get_or (answers B o ds) i 0) (get_or rs i 0)

-- the first draw that isn't, or the number of draws
unfoldable pub agreeing : Board → List ℕ → List Draw → List ℕ → ℕ
agreeing B o ds rs = first_fail (length ds) (agrees_at B o ds rs)

-- the draws that are played: those before it, and it
unfoldable pub block_played : Board → List ℕ → List Draw → List ℕ → List Draw
block_played B o ds rs = take (suc (agreeing B o ds rs)) ds

-- ---- the tests: 13 for a recorded answer above 2, before all; then a play's 1, 2, 9, 10, whose room for answers is the recorded ones'

-- an answer that isn't lent is not at fault here
unfoldable pub answer_ok : List ℕ → ℕ → Bool
answer_ok rs i = leb (get_or rs i 0) 2

unfoldable pub replay_row : Plan → List ℕ → ℕ → List ℕ → List ℕ → ℕ → Bool → List ℕ → List ℕ → Derived → List Test
replay_row P avail units begins frozen n enough rs o D =
    test 13 (all n (answer_ok rs)) ∷ play_row P avail units begins frozen n enough o D rs

-- ---- the outcome: what is answered, and the lent columns at exit

pub record Outcome : Type 0 where
  pub answer : Result Replayed Refusal
  pub owners : List ℕ
  pub derived : Derived

-- of n draws the first p agree, and no more
unfoldable pub agrees_up_to : ℕ → ℕ → Replayed
agrees_up_to n p = cond (ltb p n) (variant.Differs p) variant.Agrees

-- owners by the rule for the draws that are played, sets and minutes worked out afresh; a refusal changes nothing
unfoldable pub replayed_list : Plan → List ℕ → ℕ → List ℕ → List ℕ → ℕ → Bool → List Draw → List ℕ → List ℕ → Derived → Outcome
replayed_list P avail units begins frozen n enough ds rs o D =
    let B = board_of P.people P.slots units avail begins frozen in
    let f = refusal_of (replay_row P avail units begins frozen n enough rs o D) in
    let o' = owners_after B o (block_played B o ds rs) in
    record {
      answer = unless f.number (Err f) (Ok (agrees_up_to n (agreeing B o ds rs)));
      owners = unless f.number o o';
      derived = unless f.number D (afresh P o' D);
    }

-- of draws in three columns
abbrev pub replayed : Plan → List ℕ → ℕ → List ℕ → List ℕ → ℕ → List ℕ → List ℕ → List ℕ → List ℕ → List ℕ → Derived → Outcome
replayed P avail units begins frozen n ks fs ss rs o D =
    replayed_list P avail units begins frozen n (columns_enough n ks fs ss) (draws_of ks fs ss n) rs o D

-- what is answered and what is left are those of the outcome
pub record Replays (y : Outcome) (r : Result Replayed Refusal) (o : List ℕ) (D : Derived) : Type 0 where
  pub answer : r ≡ y.answer
  pub owners : o ≡ y.owners
  pub derived : D ≡ y.derived

-- ---- what the play of a block leaves, where nothing stands against it

-- p draws agree; owners, sets and minutes are those after the draws that are played
pub record RanOn (P : Plan) (B : Board) (o : List ℕ) (D : Derived) (ds : List Draw) (rs : List ℕ) (p : ℕ) (o' : List ℕ) (D' : Derived) :
    Type 0 where
  pub place : p ≡ agreeing B o ds rs
  pub owners : o' ≡ owners_after B o (take (suc p) ds)
  pub derived : D' ≡ afresh P o' D
