-- Counting to n: a test at every number, the sum, a list whose first entries are made anew, the numbers that pass a test. Assumes nothing.
use Rattle.std.specs.Prelude.{◌≡◌, Bool, true, false, ◌&&◌, ◌||◌, not, cond, List, [], ◌∷◌, ◌++◌, ℕ, zero, suc, ◌+◌, ◌-◌, ◌≤◌, ◌<◌, length, drop, set}

-- p holds of every number below n
unfoldable pub all : ℕ → (ℕ → Bool) → Bool
all zero p = true
all (suc n) p = all n p && p n

-- p holds of every number from a up to e, without e
unfoldable pub all_in : ℕ → ℕ → (ℕ → Bool) → Bool
all_in a e p = all (e - a) (λ j. p (a + j))

-- p holds of some number below n
unfoldable pub some : ℕ → (ℕ → Bool) → Bool
some zero p = false
some (suc n) p = some n p || p n

-- the sum of f over the numbers below n
unfoldable pub sum : ℕ → (ℕ → ℕ) → ℕ
sum zero f = 0
sum (suc n) f = sum n f + f n

-- the sum of f over the numbers from a up to e, without e
unfoldable pub sum_in : ℕ → ℕ → (ℕ → ℕ) → ℕ
sum_in a e f = sum (e - a) (λ j. f (a + j))

-- how many numbers below n pass p
unfoldable pub count : ℕ → (ℕ → Bool) → ℕ
count n p = sum n (λ k. cond (p k) 1 0)

-- l with entry k set to f k, for each k below n
unfoldable pub over : (ℕ → ℕ) → ℕ → List ℕ → List ℕ
over f zero l = l
over f (suc n) l = set (over f n l) n (f n)

-- l with its n entries from a on set to v
unfoldable pub fill : ℕ → ℕ → ℕ → List ℕ → List ℕ
fill v a zero l = l
fill v a (suc n) l = set (fill v a n l) (a + n) v

-- a list written from the front of old; what lies past its end stays
unfoldable pub onto : List ℕ → List ℕ → List ℕ
onto l old = l ++ drop (length l) old

-- the numbers below n that pass p, ascending
unfoldable pub among : (ℕ → Bool) → ℕ → List ℕ
among p zero = []
among p (suc n) = among p n ++ cond (p n) (n ∷ []) []

-- r is the first number from a up to e at which p is v; e where there is none
pub record FirstWhere (v : Bool) (p : ℕ → Bool) (a e r : ℕ) : Type 0 where
  pub from : a ≤ r
  pub within : r ≤ e
  pub here : r < e → p r ≡ v
  pub before : (k : ℕ) → a ≤ k → k < r → p k ≡ not v
