-- The owners of a damaged rota, mended in two steps: owners that can't stay are cleared, then units without one owner. Assumes nothing.
use Rattle.std.specs.Prelude.{◌≡◌, Bool, true, cond, ◌&&◌, List, ℕ, zero, suc, ◌-◌, get_or}
use Rattle.paper.specs.Limits.{nobody}
use Rattle.paper.specs.Count.{over, fill}
use Rattle.units.specs.Units.{unit_start, unit_end, InUnit}
use Rattle.owners.specs.Derived.{Plan}
use Rattle.owners.specs.Recount.{known_at, available_at, even_at}

-- ---- step 1: an owner who is unknown, or not available for the slot, is cleared

unfoldable pub may_keep : ℕ → List ℕ → List ℕ → ℕ → Bool
may_keep people avail o k = known_at people o k && available_at avail o k

unfoldable pub left_to : ℕ → List ℕ → List ℕ → ℕ → ℕ
left_to people avail o k = cond (may_keep people avail o k) (get_or o k 0) nobody

unfoldable pub barred_cleared : ℕ → ℕ → List ℕ → List ℕ → List ℕ
barred_cleared people slots avail o = over (left_to people avail o) slots o

-- ---- step 2: of the first n units, each that has not one owner is cleared whole

-- slots a up to e, without e, are nobody's
abbrev pub vacated : ℕ → ℕ → List ℕ → List ℕ
vacated a e o = fill nobody a (e - a) o

unfoldable pub uneven_cleared : ℕ → ℕ → List ℕ → List ℕ → ℕ → List ℕ
uneven_cleared slots units begins o zero = o
uneven_cleared slots units begins o (suc u) =
    let before = uneven_cleared slots units begins o u in
    cond (even_at slots units begins o u) before (vacated (unit_start begins u) (unit_end slots units begins u) before)

-- ---- both: units are judged on the owners that step 1 leaves

unfoldable pub mended : Plan → List ℕ → ℕ → List ℕ → List ℕ → List ℕ
mended P avail units begins o =
    uneven_cleared P.slots units begins (barred_cleared P.people P.slots avail o) units

-- ---- no more than that: what must hold for slot k to keep its owner

pub record Keeps (P : Plan) (avail : List ℕ) (units : ℕ) (begins o : List ℕ) (k : ℕ) : Type 0 where
  pub known : known_at P.people o k ≡ true
  pub available : available_at avail o k ≡ true
  pub alike : (u j : ℕ) → InUnit P.slots units begins k u → InUnit P.slots units begins j u
      → left_to P.people avail o j ≡ get_or o k 0
