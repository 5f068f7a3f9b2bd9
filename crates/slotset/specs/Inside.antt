-- What only contracts of private functions cite: what one word of a set answers, and what a search came to. Assumes nothing.
use Rattle.std.specs.Prelude.{◌≡◌, ◌&&◌, cond, List, ◌↔◌, ℕ, zero, suc, ◌+◌, ◌-◌, ◌≤◌, ◌<◌, ltb, leb, get_or, Option, Some, None}
use Rattle.paper.specs.Bits.{bit_of}

-- the bits of r are set where those of w are v
abbrev pub Wanted : ℕ → ℕ → ℕ → Type 0
Wanted v w r = (k : ℕ) → k < 64 → (bit_of r k ≡ 1) ↔ (bit_of w k ≡ v)

-- every bit of r is v
abbrev pub Every : ℕ → ℕ → Type 0
Every v r = (k : ℕ) → k < 64 → bit_of r k ≡ v

-- r is the first bit of w from s on that is v, or 64
pub record FirstBit (v w s r : ℕ) : Type 0 where
  pub from : s ≤ r
  pub to : r ≤ 64
  pub clear : (k : ℕ) → s ≤ k → k < r → bit_of w k ≡ v → ⊥
  pub hit : r < 64 → bit_of w r ≡ v

-- r is one past the last bit of w up to s that is v, or 0
pub record LastBit (v w s r : ℕ) : Type 0 where
  pub to : r ≤ s + 1
  pub clear : (k : ℕ) → r ≤ k → k ≤ s → bit_of w k ≡ v → ⊥
  pub hit : 0 < r → bit_of w (r - 1) ≡ v

-- how many of the k lowest bits of w are set
unfoldable pub ones_below : ℕ → ℕ → ℕ
ones_below w zero = 0
ones_below w (suc k) = bit_of w k + ones_below w k

-- r has the bits of x from s up to e, and those of w elsewhere
abbrev pub Merged : ℕ → ℕ → ℕ → ℕ → ℕ → Type 0
Merged w x s e r = (k : ℕ) → k < 64 → bit_of r k ≡ cond (leb s k && ltb k e) (bit_of x k) (bit_of w k)

-- r is the first word from `first` up to `end` that is not x, or `end`; the words stand from word b on
pub record SkippedUp (ws : List ℕ) (b x first end r : ℕ) : Type 0 where
  pub from : first ≤ r
  pub to : r ≤ end
  pub same : (k : ℕ) → first ≤ k → k < r → get_or ws (b + k) 0 ≡ x
  pub other : r < end → get_or ws (b + r) 0 ≡ x → ⊥

-- r is one past the last word below `before` that is not x; where there is a word, it is at least 1
pub record SkippedDown (ws : List ℕ) (b x before r : ℕ) : Type 0 where
  pub some : 0 < before → 0 < r
  pub to : r ≤ before
  pub same : (k : ℕ) → r ≤ k → k < before → get_or ws (b + k) 0 ≡ x
  pub other : 1 < r → get_or ws (b + (r - 1)) 0 ≡ x → ⊥

-- the slot i as found, if it is below the length
unfoldable pub found_below : ℕ → ℕ → Option ℕ
found_below len i = cond (ltb i len) (Some i) None

-- what is found is below n, or above n
abbrev pub Below : ℕ → Option ℕ → Type 0
Below n (Some i) = i < n
Below n None = Unit

abbrev pub Above : ℕ → Option ℕ → Type 0
Above n (Some i) = n < i
Above n None = Unit
