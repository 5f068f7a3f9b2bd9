-- Edition 2 of the rule on the remainder: it is handed out minute by minute, once the passes have left their standings. Assumes nothing.
use Rattle.std.specs.Prelude.{◌≡◌, ℕ, zero, suc, ◌-◌, ◌<◌, ◌≤◌, Bool, false, cond, not, ◌&&◌, List, [], ◌∷◌, map, length, ℤ, ◌==◌, nat_le, nat_lt, slice_index_or}
use Rattle.targets.specs.declared.Standing.{Standing}
use Rattle.targets.specs.Figures.{pad}
use Rattle.targets.specs.Passes.{some}
use Rattle.targets.specs.Remainder.{total_of, target_of, adjusted}

-- ---- who takes part: the unpinned, or everybody if nobody is unpinned

abbrev pub unpinned : Standing → Bool
unpinned l = not l.pinned

abbrev pub unpin : Standing → Standing
unpin l = record { person = l.person; raw = l.raw; target = l.target; pinned = false }

unfoldable pub taking_part : List Standing → List Standing
taking_part ls = cond (some unpinned ls) ls (map unpin ls)

-- ---- one minute

abbrev pub retargeted : ℕ → Standing → Standing
retargeted t l = record { person = l.person; raw = l.raw; target = t; pinned = l.pinned }

abbrev pub one_more : Standing → Standing
one_more l = retargeted (suc l.target) l

abbrev pub one_less : Standing → Standing
one_less l = retargeted (l.target - 1) l

-- unpinned, with less than t; with more
abbrev pub has_less : ℕ → Standing → Bool
has_less t l = unpinned l && nat_lt l.target t

abbrev pub has_more : ℕ → Standing → Bool
has_more t l = unpinned l && nat_lt t l.target

-- unpinned, and nobody unpinned has less; nobody unpinned has more
unfoldable pub is_smallest : List Standing → Standing → Bool
is_smallest ls l = unpinned l && not (some (has_less l.target) ls)

unfoldable pub is_largest : List Standing → Standing → Bool
is_largest ls l = unpinned l && not (some (has_more l.target) ls)

-- the first who passes the test is changed: the lowest number among equals
abbrev pub on_first : (Standing → Bool) → (Standing → Standing) → List Standing → List Standing
on_first p f [] = []
on_first p f (l ∷ ls) = cond (p l) (f l ∷ ls) (l ∷ on_first p f ls)

-- a missing minute goes to the smallest target, an extra one is taken from the largest
unfoldable pub give_minute : List Standing → List Standing
give_minute ls = on_first (is_smallest ls) one_more ls

unfoldable pub take_minute : List Standing → List Standing
take_minute ls = on_first (is_largest ls) one_less ls

-- the same, said of every person: k is unpinned, nobody unpinned has less (more), and nobody unpinned before k has as little (much)
pub record Smallest (ls : List Standing) (k : ℕ) : Type 0 where
  pub here : k < length ls
  pub free : (slice_index_or ls k pad).pinned ≡ false
  pub least : (j : ℕ) → j < length ls → (slice_index_or ls j pad).pinned ≡ false → (slice_index_or ls k pad).target ≤ (slice_index_or ls j pad).target
  pub first : (j : ℕ) → j < k → (slice_index_or ls j pad).pinned ≡ false → (slice_index_or ls k pad).target < (slice_index_or ls j pad).target

pub record LargestFirst (ls : List Standing) (k : ℕ) : Type 0 where
  pub here : k < length ls
  pub free : (slice_index_or ls k pad).pinned ≡ false
  pub most : (j : ℕ) → j < length ls → (slice_index_or ls j pad).pinned ≡ false → (slice_index_or ls j pad).target ≤ (slice_index_or ls k pad).target
  pub first : (j : ℕ) → j < k → (slice_index_or ls j pad).pinned ≡ false → (slice_index_or ls j pad).target < (slice_index_or ls k pad).target

-- ---- all minutes

-- k times
unfoldable pub times : ℕ → (List Standing → List Standing) → List Standing → List Standing
times zero f ls = ls
times (suc k) f ls = times k f (f ls)

-- as many as are missing, or as many as are too many
unfoldable pub handed_out : ℕ → List Standing → List Standing
handed_out demand ls =
    cond (nat_le (total_of ls) demand) (times (demand - total_of ls) give_minute ls) (times (total_of ls - demand) take_minute ls)

unfoldable pub spread : ℕ → List Standing → List ℤ
spread demand ls = map target_of (handed_out demand (taking_part ls))

-- ---- by edition: 0 is edition 1, 1 is edition 2

unfoldable pub shared_out : ℕ → ℕ → List Standing → List ℤ
shared_out edition demand ls = cond (edition == 1) (spread demand ls) (adjusted demand ls)
