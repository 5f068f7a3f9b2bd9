-- The first test of a row, and rule 2 of lent sets. Assumes nothing.
use mathlib.Core.Path.{◌≡◌, ap}
use mathlib.Core.Bool.{Bool, true, false, cond}
use mathlib.Core.List.{List, ◌∷◌}
use Prim.Native.Nat.{ℕ, ◌*◌, ◌/◌}
use native.Mathlib.Omega.{arith}
use borrow.Author.Tests.{leb-true, le-leb}
use lib.Dec.{leb}
use Rattle.paper.specs.Limits.{Test, number_of}
use Rattle.paper.proofs.Logic.{same_test}

-- the first of a row of tests: where it passes, the others are asked; where it fails, its number
pub number-pass : (t : Test) (ts : List Test) → t.passes ≡ true → number_of (t ∷ ts) ≡ number_of ts
unfolding number_of
number-pass t ts e = ap (λ (b : Bool). cond b (number_of ts) t.number) e

pub number-fail : (t : Test) (ts : List Test) → t.passes ≡ false → number_of (t ∷ ts) ≡ t.number
unfolding number_of
number-fail t ts e = ap (λ (b : Bool). cond b (number_of ts) t.number) e

-- room for a set a person, without the product
pub words-room : (people n : ℕ) → leb people (n / 16) ≡ leb (16 * people) n
words-room people n =
    same_test (leb people (n / 16)) (leb (16 * people) n)
    (λ t. le-leb (16 * people) n (omega (arith, leb-true people (n / 16) t)))
    (λ t. le-leb people (n / 16) (omega (arith, leb-true (16 * people) n t)))
