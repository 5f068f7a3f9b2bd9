-- The recount: owners known and available, units uniform, sets, minutes and totals as worked out from owners. Assumes nothing.
use Rattle.std.specs.Prelude.{ℕ, zero, suc, ◌*◌, Bool, cond, ◌&&◌, ◌||◌, List, [], ◌∷◌, ◌==◌, nat_eq, slice_index}
use Rattle.paper.specs.Limits.{nobody, Test, test_in}
use Rattle.paper.specs.Count.{all, all_in}
use Rattle.slotset.specs.Slots.{slot}
use Rattle.units.specs.Units.{unit_start, unit_end}
use Rattle.units.specs.Domains.{available}
use Rattle.owners.specs.Derived.{Plan, Derived, known_by, worked, held, total_of}

-- of the numbers below n the first at which p fails, or n
unfoldable pub first_fail : ℕ → (ℕ → Bool) → ℕ
first_fail zero p = 0
first_fail (suc n) p = cond (all n p) (cond (p n) (suc n) n) (first_fail n p)

-- nobody, or a person who is available
unfoldable pub available_for : List ℕ → ℕ → ℕ → Bool
available_for avail w k = w == nobody || available avail w k

-- ---- the six tests

unfoldable pub known_at : ℕ → List ℕ → ℕ → Bool
known_at people o k = known_by people (slice_index o k)

unfoldable pub available_at : List ℕ → List ℕ → ℕ → Bool
available_at avail o k = available_for avail (slice_index o k) k

-- each slot of unit u has the owner of its first slot
unfoldable pub even_at : ℕ → ℕ → List ℕ → List ℕ → ℕ → Bool
even_at slots units begins o u =
    all_in (unit_start begins u) (unit_end slots units begins u) (λ k. nat_eq (slice_index o k) (slice_index o (unit_start begins u)))

-- slot k of person p's set is as worked out; so is each of its slots
unfoldable pub set_slot_at : List ℕ → List ℕ → ℕ → ℕ → Bool
set_slot_at o ws p k = slot ws (16 * p) k == held o p k

unfoldable pub set_at : ℕ → List ℕ → List ℕ → ℕ → Bool
set_at slots o ws p = all slots (set_slot_at o ws p)

unfoldable pub minutes_ok_at : Plan → List ℕ → List ℕ → ℕ → Bool
minutes_ok_at P o m p = slice_index m p == worked P o p

-- total i is as worked out
unfoldable pub total_ok_at : Plan → List ℕ → List ℕ → ℕ → Bool
total_ok_at P o t i = slice_index t i == total_of P o i

-- 10 by its parts, each with the lowest place at fault: of what is derived, a person and that person's slot, a person, and a total
abbrev pub derived_tests : Plan → List ℕ → Derived → List Test
derived_tests P o D =
    let p = first_fail P.people (set_at P.slots o D.sets) in
    test_in 10 (all P.people (set_at P.slots o D.sets)) 4 p (first_fail P.slots (set_slot_at o D.sets p))
    ∷ test_in 10 (all P.people (minutes_ok_at P o D.minutes)) 5 (first_fail P.people (minutes_ok_at P o D.minutes)) 0
    ∷ test_in 10 (all 2 (total_ok_at P o D.totals)) 6 (first_fail 2 (total_ok_at P o D.totals)) 0 ∷ []

-- and before that a slot, a slot, a unit
unfoldable pub recount_tests : Plan → List ℕ → ℕ → List ℕ → List ℕ → Derived → List Test
recount_tests P avail units begins o D =
    test_in 10 (all P.slots (known_at P.people o)) 1 (first_fail P.slots (known_at P.people o)) 0
    ∷ test_in 10 (all P.slots (available_at avail o)) 2 (first_fail P.slots (available_at avail o)) 0
    ∷ test_in 10 (all units (even_at P.slots units begins o)) 3 (first_fail units (even_at P.slots units begins o)) 0
    ∷ derived_tests P o D

-- the recount passes
unfoldable pub recounts : Plan → List ℕ → ℕ → List ℕ → List ℕ → Derived → Bool
recounts P avail units begins o D =
    all P.slots (known_at P.people o) && (all P.slots (available_at avail o)
    && (all units (even_at P.slots units begins o)
    && (all P.people (set_at P.slots o D.sets)
    && (all P.people (minutes_ok_at P o D.minutes) && all 2 (total_ok_at P o D.totals)))))
