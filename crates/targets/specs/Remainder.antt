-- What is done with the remainder, once the passes have left their standings. Assumes nothing.
use Rattle.std.specs.Prelude.{◌≡◌, ℕ, ◌+◌, ◌<◌, ◌≤◌, true, false, cond, not, ◌&&◌, ◌⊎◌, List, [], ◌∷◌, map, length, ℤ, pos, ◌+ℤ◌, ◌-ℤ◌, nat_le, slice_index_or, slice_set}
use mathlib.Core.List.{foldl}
use Rattle.targets.specs.declared.Standing.{Standing}
use Rattle.targets.specs.declared.Best.{Best}
use Rattle.targets.specs.Figures.{pad}

abbrev pub with_target : ℕ → Standing → ℕ
with_target sum l = sum + l.target

-- the targets, added up
abbrev pub total_of : List Standing → ℕ
total_of = foldl with_target 0

-- ---- who takes the remainder: the largest unpinned target, the last of equals, or person 0 if all are pinned

-- `at` is the one so far, `top` its target, `next` the number of the person who comes now
abbrev pub better : Best → Standing → Best
better b l =
    cond (not l.pinned && nat_le b.top l.target)
    (record { at = b.next; top = l.target; next = b.next + 1 })
    (record { at = b.at; top = b.top; next = b.next + 1 })

abbrev pub best : List Standing → Best
best = foldl better (record { at = 0; top = 0; next = 0 })

abbrev pub taker_of : List Standing → ℕ
taker_of ls = (best ls).at

-- the same, said of every person: k is unpinned, nobody unpinned has more, and nobody unpinned after k has as much
pub record Largest (ls : List Standing) (k : ℕ) : Type 0 where
  pub here : k < length ls
  pub free : (slice_index_or ls k pad).pinned ≡ false
  pub most : (j : ℕ) → j < length ls → (slice_index_or ls j pad).pinned ≡ false → (slice_index_or ls j pad).target ≤ (slice_index_or ls k pad).target
  pub last : (j : ℕ) → k < j → j < length ls → (slice_index_or ls j pad).pinned ≡ false → (slice_index_or ls j pad).target < (slice_index_or ls k pad).target

abbrev pub AllPinned : List Standing → Type 0
AllPinned ls = (j : ℕ) → j < length ls → (slice_index_or ls j pad).pinned ≡ true

abbrev pub Takes : List Standing → ℕ → Type 0
Takes ls k = Largest ls k ⊎ (AllPinned ls × (k ≡ 0))

-- ---- the targets

abbrev pub target_of : Standing → ℤ
target_of l = pos l.target

-- demand less the targets goes to the taker
unfoldable pub adjusted : ℕ → List Standing → List ℤ
adjusted demand ls =
    let k = taker_of ls in
    slice_set (map target_of ls) k (pos (slice_index_or ls k pad).target +ℤ (pos demand -ℤ pos (total_of ls)))

-- the targets, added up
abbrev pub sumℤ : List ℤ → ℤ
sumℤ [] = pos 0
sumℤ (z ∷ zs) = z +ℤ sumℤ zs
