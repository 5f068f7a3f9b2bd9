-- Bytes written into a lent buffer. Assumes nothing.
use Rattle.std.specs.Prelude.{◌≡◌, List, ◌++◌, ℕ, ◌+◌, length, take, drop}

-- x with l written from `at` on
unfoldable pub put : List ℕ → ℕ → List ℕ → List ℕ
put l at x = take at x ++ (l ++ drop (at + length l) x)

-- l was written from `at` on: where it ends, and the buffer then
pub record Wrote (l : List ℕ) (at : ℕ) (x : List ℕ) (end : ℕ) (y : List ℕ) : Type 0 where
  pub ends : end ≡ at + length l
  pub text : y ≡ put l at x
