-- The five rules of a rota made elsewhere, each as a test of one slot; and shifts, which are runs of one owner's slots. Assumes nothing.
use Rattle.std.specs.Prelude.{Bool, true, not, cond, ◌&&◌, ◌||◌, List, ℕ, ◌-◌, eqb, leb, get_or}
use Rattle.paper.specs.Limits.{nobody}
use Rattle.paper.specs.Count.{all}
use Rattle.slotset.specs.Runs.{first_around, last_around}
use Rattle.units.specs.Units.{unit_start, unit_of}
use Rattle.units.specs.Domains.{unfrozen}
use Rattle.owners.specs.Derived.{held}
use Rattle.owners.specs.Recount.{known_at, available_at}

-- rule 1: the owner of slot k is known and available for it
unfoldable pub allowed_at : ℕ → List ℕ → List ℕ → ℕ → Bool
allowed_at people avail o k = known_at people o k && available_at avail o k

-- rule 2: a frozen slot has its published owner
unfoldable pub published_at : List ℕ → List ℕ → List ℕ → ℕ → Bool
published_at frozen published o k = unfrozen frozen k || eqb (get_or o k 0) (get_or published k 0)

-- rule 3: slot k has the owner of its unit's first slot
unfoldable pub uniform_at : ℕ → List ℕ → List ℕ → ℕ → Bool
uniform_at units begins o k = eqb (get_or o k 0) (get_or o (unit_start begins (unit_of units begins k)) 0)

-- ---- shifts

-- the first and the last slot of the stretch around slot k that its owner has
abbrev pub shift_first : ℕ → List ℕ → ℕ → ℕ
shift_first slots o k = first_around 1 (held o (get_or o k 0)) slots k

abbrev pub shift_last : ℕ → List ℕ → ℕ → ℕ
shift_last slots o k = last_around 1 (held o (get_or o k 0)) slots k

-- slot k is somebody's, and the first of its shift; or the last of its stretch
unfoldable pub opens_at : ℕ → List ℕ → ℕ → Bool
opens_at slots o k = not (eqb (get_or o k 0) nobody) && eqb (shift_first slots o k) k

unfoldable pub closes_at : ℕ → List ℕ → ℕ → Bool
closes_at slots o k = eqb (shift_last slots o k) k

-- rule 4: the shift that slot k opens goes on for at most `cap` minutes, from its first start to its last end
unfoldable pub capped_at : ℕ → ℕ → List ℕ → List ℕ → List ℕ → ℕ → Bool
capped_at slots cap starts ends o k =
    cond (opens_at slots o k) (leb (get_or ends (shift_last slots o k) 0 - get_or starts k 0) cap) true

-- rule 5: the shift that slot k opens starts at least `rest` minutes after each earlier one of its owner has ended
unfoldable pub rested_at : ℕ → ℕ → List ℕ → List ℕ → List ℕ → ℕ → Bool
rested_at slots rest starts ends o k =
    cond (opens_at slots o k)
    (all k (λ j. cond (eqb (get_or o j 0) (get_or o k 0) && closes_at slots o j) (leb rest (get_or starts k 0 - get_or ends j 0)) true)) true
