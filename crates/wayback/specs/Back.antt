-- The way back from one rota to another: a reassign for each unit whose owner differs, and no other draw. Assumes nothing.
use Rattle.std.specs.Prelude.{◌≡◌, Bool, not, List, map, ℕ, ◌<◌, eqb, length, get_or}
use Rattle.paper.specs.Count.{among, count}
use Rattle.rota.specs.Board.{Board, owner_of}
use Rattle.rota.specs.Moves.{Draw, draw}

-- ---- by a: owners as they are to be again; o: owners as they are now

-- the units whose owner differs, ascending
unfoldable pub differs : Board → List ℕ → List ℕ → ℕ → Bool
differs B a o u = not (eqb (owner_of B a u) (owner_of B o u))

unfoldable pub differing : Board → List ℕ → List ℕ → List ℕ
differing B a o = among (differs B a o) B.units

-- the place of person p in unit u's domain: as many before them fit it
unfoldable pub place_in : Board → ℕ → ℕ → ℕ
place_in B u p = count p (λ q. B.fits q u)

-- draw 0 of unit u, to its owner in a
abbrev pub back_draw : Board → List ℕ → ℕ → Draw
back_draw B a u = draw 0 u (place_in B u (owner_of B a u))

unfoldable pub back : Board → List ℕ → List ℕ → List Draw
back B a o = map (back_draw B a) (differing B a o)

-- a list of draws, as three columns
unfoldable pub kinds_of : List Draw → List ℕ
kinds_of ds = map (λ d. d.kind) ds

unfoldable pub firsts_of : List Draw → List ℕ
firsts_of ds = map (λ d. d.first) ds

unfoldable pub seconds_of : List Draw → List ℕ
seconds_of ds = map (λ d. d.second) ds

-- ---- the same in any order, and by any draws that are reassigns

abbrev pub draw_at : List Draw → ℕ → Draw
draw_at ds i = get_or ds i (draw 0 0 0)

-- the owner of unit u is another one
pub record Differ (B : Board) (a o : List ℕ) (u : ℕ) : Type 0 where
  pub known : u < B.units
  pub other : owner_of B a u ≡ owner_of B o u → ⊥

-- each draw is a reassign of a unit whose owner differs, to its owner in a; no two name one unit, and every such unit is named
pub record TakesBack (B : Board) (a o : List ℕ) (ds : List Draw) : Type 0 where
  pub reassigns : (i : ℕ) → i < length ds → (draw_at ds i).kind < 35
  pub differ : (i : ℕ) → i < length ds → Differ B a o (draw_at ds i).first
  pub to : (i : ℕ) → i < length ds → (draw_at ds i).second ≡ place_in B (draw_at ds i).first (owner_of B a (draw_at ds i).first)
  pub once : (i j : ℕ) → i < j → j < length ds → (draw_at ds i).first ≡ (draw_at ds j).first → ⊥
  pub every : (u : ℕ) → Differ B a o u → (i : ℕ) × (i < length ds) × ((draw_at ds i).first ≡ u)
