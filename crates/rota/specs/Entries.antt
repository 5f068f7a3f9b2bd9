-- What a caller is answered of assign and of a play, and what the lent columns hold then. Assumes nothing.
use Rattle.std.specs.Prelude.{Bool, ◌&&◌, List, [], ◌∷◌, ◌++◌, ℕ, ltb, leb, length, set}
use Rattle.paper.specs.Limits.{draws_most, Test, test}
use Rattle.paper.specs.Rows.{refusal_of}
use Rattle.paper.specs.Count.{onto}
use Rattle.owners.specs.Derived.{Plan, Derived, known_by, afresh}
use Rattle.owners.specs.Recount.{available_for}
use Rattle.owners.specs.Entries.{Outcome, outcome, recount_row, recount_slots_row}
use Rattle.rota.specs.Moves.{Draw}
use Rattle.rota.specs.Plays.{draws_of, owners_after, answers}
use Rattle.rota.specs.Lent.{board_of}

-- ---- assign: 1, 2, 9, 10, 11, 12; it asks nothing of units

unfoldable pub assign_row : Plan → List ℕ → List ℕ → Derived → ℕ → ℕ → List Test
assign_row P avail o D k w =
    recount_slots_row P avail o D
    ++ (test 11 (ltb k P.slots) ∷ test 11 (known_by P.people w) ∷ test 12 (available_for avail w k) ∷ [])

unfoldable pub assigned : Plan → List ℕ → List ℕ → Derived → ℕ → ℕ → Outcome
assigned P avail o D k w =
    outcome (refusal_of (assign_row P avail o D k w)) o D [] (set o k w) (afresh P (set o k w) D) []

-- ---- play: 1, 2, 9, 10

-- rule 2 of the units, the flags and the answers, and of the draws: `enough` says that as many are lent as are played
unfoldable pub play_room_ok : ℕ → List ℕ → List ℕ → ℕ → Bool → List ℕ → Bool
play_room_ok units begins frozen n enough x = leb units (length begins) && (leb 16 (length frozen) && (enough && leb n (length x)))

-- the recount's row, with the number of draws and their room
abbrev pub play_row : Plan → List ℕ → ℕ → List ℕ → List ℕ → ℕ → Bool → List ℕ → Derived → List ℕ → List Test
play_row P avail units begins frozen n enough o D x =
    recount_row (leb n draws_most) (play_room_ok units begins frozen n enough x) P avail units begins o D

-- the draws as one list: owners by the rule, sets and minutes worked out afresh, one answer a draw
unfoldable pub played_list : Plan → List ℕ → ℕ → List ℕ → List ℕ → ℕ → Bool → List Draw → List ℕ → Derived → List ℕ → Outcome
played_list P avail units begins frozen n enough ds o D x =
    let B = board_of P.people P.slots units avail begins frozen in
    outcome (refusal_of (play_row P avail units begins frozen n enough o D x)) o D x
    (owners_after B o ds) (afresh P (owners_after B o ds) D) (onto (answers B o ds) x)

-- of draws in three columns: each has n entries, and the first n of each are the draws
unfoldable pub columns_enough : ℕ → List ℕ → List ℕ → List ℕ → Bool
columns_enough n ks fs ss = leb n (length ks) && (leb n (length fs) && leb n (length ss))

abbrev pub played : Plan → List ℕ → ℕ → List ℕ → List ℕ → ℕ → List ℕ → List ℕ → List ℕ → List ℕ → Derived → List ℕ → Outcome
played P avail units begins frozen n ks fs ss o D x =
    played_list P avail units begins frozen n (columns_enough n ks fs ss) (draws_of ks fs ss n) o D x
