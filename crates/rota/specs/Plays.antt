-- A play: the draws of a list in order, over owners alone. Assumes nothing.
use Rattle.std.specs.Prelude.{Bool, false, ◌&&◌, ◌||◌, List, [], ◌∷◌, ◌++◌, ℕ, zero, suc, eqb, get_or}
use Rattle.rota.specs.Board.{Board}
use Rattle.rota.specs.Moves.{Draw, draw, decided, answer_of, act, handed}

-- the owners after one draw, and after a list of draws
unfoldable pub step : Board → List ℕ → Draw → List ℕ
step B o d = act (decided B o d) o

unfoldable pub owners_after : Board → List ℕ → List Draw → List ℕ
owners_after B o [] = o
owners_after B o (d ∷ ds) = owners_after B (step B o d) ds

-- the answer to a draw, and to each of a list
unfoldable pub answer : Board → List ℕ → Draw → ℕ
answer B o d = answer_of (decided B o d)

unfoldable pub answers : Board → List ℕ → List Draw → List ℕ
answers B o [] = []
answers B o (d ∷ ds) = answer B o d ∷ answers B (step B o d) ds

-- some draw of the list acts and hands unit u over, at its step
unfoldable pub touched : Board → List ℕ → List Draw → ℕ → Bool
touched B o [] u = false
touched B o (d ∷ ds) u = (eqb (answer B o d) 0 && handed B o d u) || touched B (step B o d) ds u

-- the first n draws of three columns
unfoldable pub draws_of : List ℕ → List ℕ → List ℕ → ℕ → List Draw
draws_of ks fs ss zero = []
draws_of ks fs ss (suc n) = draws_of ks fs ss n ++ (draw (get_or ks n 0) (get_or fs n 0) (get_or ss n 0) ∷ [])
