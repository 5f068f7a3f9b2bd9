-- What private functions of mend alone cite: how far the list is written, and what is worked out beside what was found. Assumes nothing.
use Rattle.std.specs.Prelude.{◌≡◌, true, cond, List, ◌++◌, ℕ, ◌+◌, ◌*◌, ◌≤◌, ◌<◌, leb, length, get_or, Ok, Err}
use Rattle.paper.specs.Limits.{people_ok, slot_count_ok}
use Rattle.paper.specs.Count.{count, over, onto}
use Rattle.slots.specs.Lent.{slot_room_ok, slots_ok}
use Rattle.units.specs.Units.{units_ok}
use Rattle.owners.specs.Derived.{Plan, derived, sets_from, worked, total_of}
use Rattle.mend.specs.Mended.{mended}
use Rattle.mend.specs.Repairs.{Rota, rota, column, entries, Repair, differs_at, repairs_of, repairs, numbers}
use Rattle.mend.specs.Answers.{Outcome}

-- the list, which was `first`, holds the n repairs of rs; what lies past them stays
pub record Listed (rs : List Repair) (first : List ℕ) (n : ℕ) (list : List ℕ) : Type 0 where
  pub number : n ≡ length rs
  pub written : list ≡ onto (numbers rs) first

-- after the first `at` repairs those of a column are listed, and then there are r
pub record Lists (part : ℕ) (flag : ℕ → ℕ) (n : ℕ) (old new : List ℕ) (at r : ℕ) (l l' : List ℕ) : Type 0 where
  pub number : r ≡ at + count n (differs_at old new)
  pub goes : (rs : List Repair) (first : List ℕ) → Listed rs first at l → Listed (rs ++ repairs_of part flag n old new) first r l'

-- how many places of a part differ, and of all four
abbrev pub differences : ℕ → ℕ → Rota → Rota → ℕ → ℕ
differences people slots found new part = count (entries people slots part) (differs_at (column found part) (column new part))

unfoldable pub how_many : ℕ → ℕ → Rota → Rota → ℕ
how_many people slots found new =
    let of = differences people slots found new in of 0 + of 1 + of 2 + of 3

-- the first n entries of one column, in another
unfoldable pub copied : ℕ → List ℕ → List ℕ → List ℕ
copied n from to = over (λ k. get_or from k 0) n to

-- owners and sets can be mended: rules 1, 2 and 9
pub record Mendable (P : Plan) (avail : List ℕ) (units : ℕ) (begins o s : List ℕ) : Type 0 where
  pub people : people_ok P.people ≡ true
  pub count : slot_count_ok P.slots ≡ true
  pub room : slot_room_ok P.slots P.starts P.ends ≡ true
  pub lent : slots_ok P.slots P.starts P.ends ≡ true
  pub units-ok : units_ok P.slots units begins ≡ true
  pub avail-room : 16 * P.people ≤ length avail
  pub owners-room : P.slots ≤ length o
  pub sets-room : 16 * P.people ≤ length s

-- the columns that are written have room
pub record NewRoom (people slots : ℕ) (o s m t : List ℕ) : Type 0 where
  pub owners : slots ≤ length o
  pub sets : 16 * people ≤ length s
  pub minutes : people ≤ length m
  pub totals : 2 ≤ length t

-- what is worked out from owners o and sets s, as far as it counts
pub record WorkedOut (P : Plan) (avail : List ℕ) (units : ℕ) (begins o s o' s' m' t' : List ℕ) : Type 0 where
  pub owners : (k : ℕ) → k < P.slots → get_or o' k 0 ≡ get_or (mended P avail units begins o) k 0
  pub sets : (j : ℕ) → j < 16 * P.people → get_or s' j 0 ≡ get_or (sets_from P.people P.slots (mended P avail units begins o) s) j 0
  pub minutes : (p : ℕ) → p < P.people → get_or m' p 0 ≡ worked P (mended P avail units begins o) p
  pub totals : (i : ℕ) → i < 2 → get_or t' i 0 ≡ total_of P (mended P avail units begins o) i

-- a new rota is written where another was found, with the list of what differs; 2 where that has no room, and then nothing is written
abbrev pub taken_over : ℕ → ℕ → Rota → Rota → Rota
taken_over people slots found new =
    rota (copied slots new.owners found.owners) (derived (copied (16 * people) new.derived.sets found.derived.sets)
    (copied people new.derived.minutes found.derived.minutes) (copied 2 new.derived.totals found.derived.totals))

unfoldable pub write_out : ℕ → ℕ → List ℕ → Rota → Rota → List ℕ → Outcome
write_out people slots frozen found new l =
    let n = how_many people slots found new in
    cond (leb (5 * n) (length l))
    (record {
      answer = Ok n;
      rota = taken_over people slots found new;
      list = onto (numbers (repairs people slots frozen found
          new)) l;
    })
    (record { answer = Err 2; rota = found; list = l })
