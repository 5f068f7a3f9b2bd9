-- The passes, over the people's standings in order. Every step on a Float is IEEE 754's at binary64, rounded once. Assumes nothing.
use Rattle.std.specs.Prelude.{ℕ, zero, suc, ◌+◌, ◌*◌, ◌/◌, ◌<◌, ◌≤◌, Bool, true, false, cond, not, ◌&&◌, ◌||◌, List, [], ◌∷◌, map, length, nat_lt, Float}
use mathlib.Core.List.{foldl}
use Rattle.std.specs.Float.{nan, inf, fin, binary64}
use Rattle.std.specs.Float.Ieee.{add, sub, mul, div, lt, up, down}
use Rattle.targets.specs.declared.Standing.{Standing}
use Rattle.targets.specs.Figures.{zero_f, whole}

-- ---- one number

-- rounding to whole minutes: the nearest whole number, halves away from zero, of a number that is not below 0. The whole part of x + 1/2
unfoldable pub rounded : Float → ℕ
rounded nan = 0
rounded (inf s) = 0
rounded (fin s m e) = (m * up e * 2 + down e) / (down e * 2)

-- the same, said of x and r: r - 1/2 ≤ x < r + 1/2, so that a half goes up
abbrev pub NearestWhole : Float → ℕ → Type 0
NearestWhole nan r = ⊥
NearestWhole (inf s) r = ⊥
NearestWhole (fin s m e) r = (r * 2 * down e ≤ m * up e * 2 + down e) × (m * up e * 2 < (r * 2 + 1) * down e)

-- refusal 8's guard, kept: a number is finite, and of size below 2 ^ 40
unfoldable pub within : Float → Bool
within nan = false
within (inf s) = false
within (fin s m e) = nat_lt (m * up e) (1099511627776 * down e)

-- ---- one person

-- N * (raw / sum) - prior: the quotient, the product and the difference are rounded each
abbrev pub unrounded : Float → Float → Standing → Float
unrounded n sum l = sub binary64 (mul binary64 n (div binary64 l.raw sum)) (whole l.person.prior)

-- below 0: pinned at 0. Else rounded to the nearest whole number. Who is pinned stays so
unfoldable pub settled : Float → Standing → Standing
settled x l =
    cond l.pinned l
    (cond (lt x zero_f)
    (record { person = l.person; raw = l.raw; target = 0; pinned = true })
    (record { person = l.person; raw = l.raw; target = rounded x; pinned = false }))

abbrev pub settle : Float → Float → Standing → Standing
settle n sum l = settled (unrounded n sum l) l

-- an unpinned person's unrounded target breaks the guard
abbrev pub outside : Float → Float → Standing → Bool
outside n sum l = not l.pinned && not (within (unrounded n sum l))

-- an unpinned person's unrounded target is below 0
abbrev pub below_zero : Float → Float → Standing → Bool
below_zero n sum l = not l.pinned && lt (unrounded n sum l) zero_f

-- ---- one pass

abbrev pub with_share : Float → Standing → Float
with_share sum l = cond l.pinned sum (add binary64 sum l.raw)

-- the raw shares of the unpinned, added in order
abbrev pub share_sum : List Standing → Float
share_sum = foldl with_share zero_f

abbrev pub with_prior : ℕ → Standing → ℕ
with_prior n l = cond l.pinned n (n + l.person.prior)

-- N: demand plus the priors of the unpinned, a whole number
abbrev pub notional : ℕ → List Standing → ℕ
notional demand = foldl with_prior demand

-- some person passes the test
abbrev pub some : (Standing → Bool) → List Standing → Bool
some p [] = false
some p (l ∷ ls) = p l || some p ls

-- how the passes stand: another is due over these standings; these standings are what they leave; refusal 8
pub data Passed : Type 0 where
  again done : List Standing → Passed
  refused : Passed

-- a pass with this N and this sum: stop if the sum is not above 0, keeping the targets; go on if it pinned somebody
abbrev pub passed : Float → Float → List Standing → Passed
passed n sum ls =
    cond (lt zero_f sum)
    (cond (some (outside n sum) ls) refused
    (cond (some (below_zero n sum) ls) (again (map (settle n sum) ls)) (done (map (settle n sum) ls))))
    (done ls)

unfoldable pub pass : ℕ → Passed → Passed
pass demand (again ls) = passed (whole (notional demand ls)) (share_sum ls) ls
pass demand (done ls) = done ls
pass demand refused = refused

-- k passes
unfoldable pub passes : ℕ → ℕ → Passed → Passed
passes zero demand p = p
passes (suc k) demand p = passes k demand (pass demand p)

-- what the passes leave: at most people + 1 of them
abbrev pub passes_leave : ℕ → List Standing → Passed
passes_leave demand ls = passes (suc (length ls)) demand (again ls)

-- the standings that they leave, and whether refusal 8's guard was kept in all of them
abbrev pub standings_left : Passed → List Standing
standings_left (again ls) = ls
standings_left (done ls) = ls
standings_left refused = []

abbrev pub guarded : Passed → Bool
guarded (again ls) = true
guarded (done ls) = true
guarded refused = false
