-- The next and the previous slot of a value, set (1) or unset (0), in a set of `len` slots. Assumes nothing.
use Rattle.std.specs.Prelude.{◌≡◌, cond, ℕ, zero, suc, ◌-◌, ◌≤◌, ◌<◌, min, eqb, Option, Some, None}

-- of the n slots from `at` on, the first that is v
unfoldable pub up : ℕ → (ℕ → ℕ) → ℕ → ℕ → Option ℕ
up v f zero at = None
up v f (suc n) at = cond (eqb (f at) v) (Some at) (up v f n (suc at))

-- of the slots below n, the last that is v
unfoldable pub down : ℕ → (ℕ → ℕ) → ℕ → Option ℕ
down v f zero = None
down v f (suc n) = cond (eqb (f n) v) (Some n) (down v f n)

-- the first slot at or after `from` that is v
unfoldable pub next_with : ℕ → (ℕ → ℕ) → ℕ → ℕ → Option ℕ
next_with v f len from = up v f (len - from) from

-- the last slot below `end` that is v; an end past the length is lowered to it
unfoldable pub last_below : ℕ → (ℕ → ℕ) → ℕ → ℕ → Option ℕ
last_below v f len end = down v f (min end len)

abbrev pub next_set : (ℕ → ℕ) → ℕ → ℕ → Option ℕ
next_set f len from = next_with 1 f len from

abbrev pub prev_set : (ℕ → ℕ) → ℕ → ℕ → Option ℕ
prev_set f len from = last_below 1 f len (suc from)

abbrev pub next_unset_after : (ℕ → ℕ) → ℕ → ℕ → Option ℕ
next_unset_after f len from = next_with 0 f len (suc from)

abbrev pub prev_unset_before : (ℕ → ℕ) → ℕ → ℕ → Option ℕ
prev_unset_before f len from = last_below 0 f len from

-- ---- the same, said of every slot

-- the first slot at or after `from`, below len, that is v; or there is none
abbrev pub First : ℕ → (ℕ → ℕ) → ℕ → ℕ → Option ℕ → Type 0
First v f len from (Some i) = (from ≤ i) × (i < len) × (f i ≡ v) × ((k : ℕ) → from ≤ k → k < i → f k ≡ v → ⊥)
First v f len from None = (k : ℕ) → from ≤ k → k < len → f k ≡ v → ⊥

-- the last slot below `end`, below len, that is v; or there is none
abbrev pub Last : ℕ → (ℕ → ℕ) → ℕ → ℕ → Option ℕ → Type 0
Last v f len end (Some i) = (i < end) × (i < len) × (f i ≡ v) × ((k : ℕ) → i < k → k < end → k < len → f k ≡ v → ⊥)
Last v f len end None = (k : ℕ) → k < end → k < len → f k ≡ v → ⊥
