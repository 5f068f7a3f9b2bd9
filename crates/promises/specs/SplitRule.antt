-- Splitting, of what the entry leaves: base slot by base slot, its start and its cuts are where its pieces start, its cuts and its end are
-- where they end, and they add up to it. Assumes nothing.
use Rattle.std.specs.Prelude.{◌≡◌, List, [], ◌∷◌, ◌++◌, ℕ, zero, suc, ◌+◌, ◌-◌, ◌<◌, length, get_or, Ok}
use Rattle.paper.specs.Limits.{number_of}
use Rattle.slots.specs.Atomic.{Base, atomise_of, atomise_row, is_cut, IsCuts}

-- the lists of 0, 1 and on, below n, one after the other
unfoldable pub strung : (ℕ → List ℕ) → ℕ → List ℕ
strung f zero = []
strung f (suc n) = strung f n ++ f n

-- c is the ascending list of all cuts strictly inside base slot k
abbrev pub CutsOf : Base → ℕ → List ℕ → Type 0
CutsOf B k c = IsCuts (is_cut B.people B.ranges) (get_or B.starts k 0) c (get_or B.ends k 0)

-- the lengths of pieces, by their starts and their ends, added up
unfoldable pub lengths : List ℕ → List ℕ → ℕ
lengths [] ends = 0
lengths (s ∷ starts) [] = 0
lengths (s ∷ starts) (e ∷ ends) = e - s + lengths starts ends

-- where c k are the cuts of base slot k, for each k: the pieces that are left
pub record LeavesPieces (B : Base) (c : ℕ → List ℕ) : Type 0 where
  pub number : (atomise_of B).answer ≡ Ok (length (strung (λ k. get_or B.starts k 0 ∷ c k) B.slots))
  pub starts : (i : ℕ) → i < length (strung (λ k. get_or B.starts k 0 ∷ c k) B.slots)
      → get_or (atomise_of B).starts i 0 ≡ get_or (strung (λ k. get_or B.starts k 0 ∷ c k) B.slots) i 0
  pub ends : (i : ℕ) → i < length (strung (λ k. get_or B.starts k 0 ∷ c k) B.slots)
      → get_or (atomise_of B).ends i 0 ≡ get_or (strung (λ k. c k ++ (get_or B.ends k 0 ∷ [])) B.slots) i 0

pub record SplitAtCuts : Type 0 where
  pub pieces : (B : Base) → number_of (atomise_row B) ≡ 0 → (c : ℕ → List ℕ) → ((k : ℕ) → k < B.slots → CutsOf B k (c k)) → LeavesPieces B c
  -- "Atomic lengths add up to base lengths."
  pub add-up : (B : Base) (k : ℕ) (c : List ℕ) → CutsOf B k c
      → lengths (get_or B.starts k 0 ∷ c) (c ++ (get_or B.ends k 0 ∷ [])) ≡ get_or B.ends k 0 - get_or B.starts k 0
