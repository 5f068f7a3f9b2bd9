-- The entries of a list: tests that some entry passes, and one entry more. Assumes nothing.
use mathlib.Core.Path.{◌≡◌, refl, sym, ap, ap₂, ◌∙◌}
use mathlib.Core.Bool.{Bool, true, false, ◌||◌, or_assoc}
use mathlib.Core.Logic.{⊎_elim}
use mathlib.Core.List.{List, [], ◌∷◌, ◌++◌}
use Prim.Native.Nat.{ℕ, zero, suc, ◌+◌, ◌<◌}
use native.Mathlib.Nat.{not-suc-le-zero}
use native.Mathlib.Numerals.{add-one}
use native.Mathlib.Omega.{arith}
use lib.ListN.{length, get_or, take, set}
use lib.Seq.{take-suc-set}
use Rattle.paper.proofs.Logic.{or-second, or-either, neither}
use Rattle.slots.specs.Inside.{any_of}

pub or_swap : (a b c : Bool) → a || (b || c) ≡ b || (a || c)
or_swap true true c = refl
or_swap true false c = refl
or_swap false b c = refl

pub any_append : (p : ℕ → Bool) (k l : List ℕ) → any_of p (k ++ l) ≡ any_of p k || any_of p l
unfolding any_of
any_append p [] l = refl
any_append p (x ∷ k) l = ap (λ (b : Bool). p x || b) (any_append p k l) ∙ sym (or_assoc (p x) (any_of p k) (any_of p l))

pub any_same : (p q : ℕ → Bool) (l : List ℕ) → ((x : ℕ) → p x ≡ q x) → any_of p l ≡ any_of q l
unfolding any_of
any_same p q [] f = refl
any_same p q (x ∷ l) f = ap₂ ◌||◌ (f x) (any_same p q l f)

pub any_none : (p : ℕ → Bool) (l : List ℕ) → ((x : ℕ) → p x ≡ false) → any_of p l ≡ false
unfolding any_of
any_none p [] f = refl
any_none p (x ∷ l) f = ap₂ ◌||◌ (f x) (any_none p l f)

-- one entry that passes is enough; and where the test holds, some entry passes
pub any_here : (p : ℕ → Bool) (l : List ℕ) (k : ℕ) → k < length l → p (get_or l k 0) ≡ true → any_of p l ≡ true
unfolding any_of
any_here p [] k h e = absurd (not-suc-le-zero h)
any_here p (x ∷ l) zero h e = simp e
any_here p (x ∷ l) (suc k) h e = or-second (p x) (any_of p l) (any_here p l k (omega arith) e)

pub any-one : (p : ℕ → Bool) (l : List ℕ) (X : Type 0) → any_of p l ≡ true → ((k : ℕ) → k < length l → p (get_or l k 0) ≡ true → X) → X
unfolding any_of
any-one p [] X e f = absurd (mathlib.Core.Bool.false≢true e)
any-one p (x ∷ l) X e f =
    ⊎_elim (λ t. f zero (omega arith) t) (λ t. any-one p l X t (λ k h u. f (suc k) (omega arith) u)) (or-either (p x) (any_of p l) e)

-- where none passes, this one doesn't
pub any-not : (p : ℕ → Bool) (l : List ℕ) → any_of p l ≡ false → (k : ℕ) → k < length l → p (get_or l k 0) ≡ false
unfolding any_of
any-not p [] e k h = absurd (not-suc-le-zero h)
any-not p (x ∷ l) e zero h = (neither (p x) (any_of p l) e).0
any-not p (x ∷ l) e (suc k) h = any-not p l (neither (p x) (any_of p l) e).1 k (omega arith)

-- one entry more at a list's end
pub push : (k : List ℕ) (m x : ℕ) → m < length k → take (m + 1) (set k m x) ≡ take m k ++ (x ∷ [])
push k m x h = ap (λ (n : ℕ). take n (set k m x)) (add-one m) ∙ take-suc-set k m x h
