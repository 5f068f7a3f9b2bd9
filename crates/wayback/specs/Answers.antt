-- What a caller is answered of a way back, and what the three lent columns hold then. Assumes nothing.
use Rattle.std.specs.Prelude.{◌≡◌, Bool, true, cond, not, ◌&&◌, ◌||◌, List, [], ◌∷◌, ◌++◌, ◌⊎◌, ℕ, eqb, ltb, leb, length, Result, Ok, Err}
use Rattle.paper.specs.Limits.{set_words, nobody, Test, test_in, test}
use Rattle.paper.specs.declared.Refusal.{Refusal}
use Rattle.paper.specs.Rows.{refusal_of}
use Rattle.paper.specs.Count.{all, onto}
use Rattle.owners.specs.Derived.{Plan, Derived}
use Rattle.owners.specs.Recount.{first_fail, known_at, available_at, even_at}
use Rattle.owners.specs.Entries.{recount_row}
use Rattle.rota.specs.Board.{Board, owner_of, unowned}
use Rattle.rota.specs.Moves.{Draw}
use Rattle.rota.specs.Lent.{board_of}
use Rattle.rota.specs.Entries.{columns_enough}
use Rattle.wayback.specs.declared.Way.{Way}
use Rattle.wayback.specs.declared.Way.TheVariants as way
use Rattle.wayback.specs.Back.{differs, Differ, back, kinds_of, firsts_of, seconds_of}

-- ---- the tests: of the rota as it is 1, 2, 9, 10; then of the owners that are to be again

-- rule 2 of the units, the flags, those owners, and the columns: room for a draw a slot
unfoldable pub way_room_ok : ℕ → ℕ → List ℕ → List ℕ → List ℕ → List ℕ → List ℕ → List ℕ → Bool
way_room_ok slots units begins frozen a ks fs ss =
    leb units (length begins) && (leb set_words (length frozen) && (leb slots (length a) && columns_enough slots ks fs ss))

-- a unit with two owners 10, as the recount has it; an unknown owner 11, one who is not available 12
unfoldable pub remembered_row : Plan → List ℕ → ℕ → List ℕ → List ℕ → List Test
remembered_row P avail units begins a =
    test_in 10 (all units (even_at P.slots units begins a)) 3 (first_fail units (even_at P.slots units begins a)) 0
    ∷ test 11 (all P.slots (known_at P.people a)) ∷ test 12 (all P.slots (available_at avail a)) ∷ []

unfoldable pub way_row : Plan → List ℕ → ℕ → List ℕ → List ℕ → List ℕ → List ℕ → Derived → List ℕ → List ℕ → List ℕ → List Test
way_row P avail units begins frozen a o D ks fs ss =
    recount_row true (way_room_ok P.slots units begins frozen a ks fs ss) P avail units begins o D
    ++ remembered_row P avail units begins a

-- ---- the answer

-- a unit that no reassign gives back: its owner differs, and nobody owned it or it is frozen
unfoldable pub in_the_way : Board → List ℕ → List ℕ → ℕ → Bool
in_the_way B a o u = differs B a o u && (unowned B a u || B.frozen u)

pub record InWay (B : Board) (a o : List ℕ) (u : ℕ) : Type 0 where
  pub differ : Differ B a o u
  pub lost : (owner_of B a u ≡ nobody) ⊎ (B.frozen u ≡ true)

-- the first of them, or the unit count
unfoldable pub first_in_way : Board → List ℕ → List ℕ → ℕ
first_in_way B a o = first_fail B.units (λ u. not (in_the_way B a o u))

-- what is answered, and the columns at exit
pub record Outcome : Type 0 where
  pub answer : Result Way Refusal
  pub draws : List ℕ
  pub firsts : List ℕ
  pub seconds : List ℕ

-- a refusal, or a unit in the way, changes nothing; else the draws, and what lies past them stays
unfoldable pub way_of : Result Way Refusal → List ℕ → List ℕ → List ℕ → Outcome
way_of r ks fs ss = record { answer = r; draws = ks; firsts = fs; seconds = ss }

unfoldable pub draws_written : List Draw → List ℕ → List ℕ → List ℕ → Outcome
draws_written ds ks fs ss =
    way_of (Ok (way.Draws (length ds))) (onto (kinds_of ds) ks) (onto (firsts_of ds) fs) (onto (seconds_of ds) ss)

unfoldable pub way_back_of : Plan → List ℕ → ℕ → List ℕ → List ℕ → List ℕ → List ℕ → Derived → List ℕ → List ℕ → List ℕ → Outcome
way_back_of P avail units begins frozen a o D ks fs ss =
    let B = board_of P.people P.slots units avail begins frozen in
    let f = refusal_of (way_row P avail units begins frozen a o D ks fs ss) in
    cond (eqb f.number 0)
    (cond (ltb (first_in_way B a o) units) (way_of (Ok (way.NoWay (first_in_way B a o))) ks fs ss) (draws_written (back B a o) ks fs ss))
    (way_of (Err f) ks fs ss)

-- what is answered and what is left are those of the outcome
pub record Ended (y : Outcome) (r : Result Way Refusal) (ks fs ss : List ℕ) : Type 0 where
  pub said : r ≡ y.answer
  pub draws : ks ≡ y.draws
  pub firsts : fs ≡ y.firsts
  pub seconds : ss ≡ y.seconds
