-- A play of a lent list of draws, each a struct of its three numbers. Assumes nothing.
use Rattle.std.specs.Prelude.{List, map, ℕ, leb, length, get_or, take}
use Rattle.owners.specs.Derived.{Plan, Derived}
use Rattle.owners.specs.Entries.{Outcome}
use Rattle.rota.specs.declared.draws.Draw as struct
use Rattle.rota.specs.Moves.{Draw, draw}
use Rattle.rota.specs.Entries.{played_list}

-- a struct's numbers, as the rules name a draw
abbrev pub numbers : struct.Draw → Draw
numbers d = draw d.draw d.first d.second

-- the list has n structs, and the first n are the draws
abbrev pub played_draws : Plan → List ℕ → ℕ → List ℕ → List ℕ → ℕ → List struct.Draw → List ℕ → Derived → List ℕ → Outcome
played_draws P avail units begins frozen n ds o D x =
    played_list P avail units begins frozen n (leb n (length ds)) (map numbers (take n ds)) o D x

-- the struct at i; past the end, one of zeros
abbrev pub none : struct.Draw
none = record { draw = 0; first = 0; second = 0 }

abbrev pub draw_at : List struct.Draw → ℕ → struct.Draw
draw_at ds i = get_or ds i none

-- the same draws in three columns
unfoldable pub draws : List struct.Draw → List ℕ
draws ds = map (λ d. d.draw) ds

unfoldable pub firsts : List struct.Draw → List ℕ
firsts ds = map (λ d. d.first) ds

unfoldable pub seconds : List struct.Draw → List ℕ
seconds ds = map (λ d. d.second) ds
