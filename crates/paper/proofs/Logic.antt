-- Tests, and chains of them. Assumes nothing.
use mathlib.Core.Path.{◌≡◌, refl, sym, ap, ◌∙◌}
use mathlib.Core.Bool.{Bool, true, false, ◌&&◌, ◌||◌, cond}
use mathlib.Core.Logic.{◌⊎◌, inl, inr, ⊎_elim}
use Prim.Native.Nat.{ℕ, zero, suc, ◌≤◌, ◌<◌, zero-le, suc-le-suc}
use native.Mathlib.Nat.{le_of_suc-le-suc, eq-or-lt_of_le}
use native.Mathlib.Omega.{arith}
use borrow.Author.Tests.{leb-true, eqb-true}
use lib.Dec.{leb, eqb}
use Rattle.paper.specs.Limits.{people_ok, slot_count_ok}

-- by cases on a test
pub by-test {ℓ} : (b : Bool) (X : Type ℓ) → (b ≡ true → X) → (b ≡ false → X) → X
by-test true X f g = f refl
by-test false X f g = g refl

-- what holds of each of two values holds of the one that a test picks
pub by_cond {ℓ} : {A : Type ℓ} (b : Bool) (x y : A) (X : A → Type 0) → (b ≡ true → X x) → (b ≡ false → X y) → X (cond b x y)
by_cond true x y X f g = f refl
by_cond false x y X f g = g refl

-- an answer that is made by its number, 0 for none, has that number
pub number-of-made : {A : Type 0} (num : A → ℕ) (n : ℕ) (answered ref : A) → num answered ≡ 0 → num ref ≡ n → num
    (cond (eqb n 0) answered ref) ≡ n
number-of-made {A} num n answered ref p q =
    by-test (eqb n 0) _ (λ t. ap (λ (b : Bool). num (cond b answered ref)) t ∙ p ∙ sym (eqb-true n 0 t))
    (λ f. ap (λ (b : Bool). num (cond b answered ref)) f ∙ q)

-- of two numbers one is below the other, or not
pub lt-or-ge : (a b : ℕ) → (a < b) ⊎ (b ≤ a)
lt-or-ge a zero = inr zero-le
lt-or-ge zero (suc b) = inl (omega arith)
lt-or-ge (suc a) (suc b) = ⊎_elim (λ h. inl (suc-le-suc h)) (λ h. inr (suc-le-suc h)) (lt-or-ge a b)

-- a number below 2 is 0 or 1
pub zero_of : (x : ℕ) → x < 2 → (x ≡ 1 → ⊥) → x ≡ 0
zero_of x h n = omega arith

pub one_of : (x : ℕ) → x < 2 → (x ≡ 0 → ⊥) → x ≡ 1
one_of x h n = omega arith

-- a number below n + 1 is n or below n
pub below_suc {ℓ} : {k n : ℕ} (X : Type ℓ) → k < suc n → (k ≡ n → X) → (k < n → X) → X
below_suc X h f g = ⊎_elim f g (eq-or-lt_of_le (le_of_suc-le-suc h))

and_left : (a b : Bool) → a && b ≡ true → a ≡ true
and_left true b e = refl
and_left false b e = e

and_right : (a b : Bool) → a && b ≡ true → b ≡ true
and_right true b e = e
and_right false b e = absurd (mathlib.Core.Bool.false≢true e)

-- the parts of a conjunction of two, three, four and five
pub both : (a b : Bool) → a && b ≡ true → (a ≡ true) × (b ≡ true)
both a b e = (and_left a b e, and_right a b e)

pub three : (a b c : Bool) → a && (b && c) ≡ true → (a ≡ true) × (b ≡ true) × (c ≡ true)
three a b c e =
    let x = both a (b && c) e in
    let y = both b c x.1 in
    (x.0, y.0, y.1)

pub four : (a b c d : Bool) → a && (b && (c && d)) ≡ true → (a ≡ true) × (b ≡ true) × (c ≡ true) × (d ≡ true)
four a b c d e =
    let x = both a (b && (c && d)) e in
    let y = three b c d x.1 in
    (x.0, y.0, y.1, y.2)

pub five : (a b c d f : Bool) → a && (b && (c && (d && f))) ≡ true
    → (a ≡ true) × (b ≡ true) × (c ≡ true) × (d ≡ true) × (f ≡ true)
five a b c d f e =
    let x = both a (b && (c && (d && f))) e in
    let y = four b c d f x.1 in
    (x.0, y.0, y.1, y.2, y.3)

pub and-true : (a b : Bool) → a ≡ true → b ≡ true → a && b ≡ true
and-true a b p q = simp (p, q)

pub or_left : (a b : Bool) → a ≡ true → a || b ≡ true
or_left a b p = simp p

pub or_right : (a b : Bool) → a || b ≡ true → a ≡ false → b ≡ true
or_right true b e f = absurd (mathlib.Core.Bool.true≢false f)
or_right false b e f = e

pub or-second : (a b : Bool) → b ≡ true → a || b ≡ true
or-second true b e = refl
or-second false b e = e

pub or-either : (a b : Bool) → a || b ≡ true → (a ≡ true) ⊎ (b ≡ true)
or-either true b e = inl refl
or-either false b e = inr e

-- neither of two tests holds
pub neither : (a b : Bool) → a || b ≡ false → (a ≡ false) × (b ≡ false)
neither true b e = absurd (mathlib.Core.Bool.true≢false e)
neither false b e = (refl, e)

pub and-stops : (a b : Bool) → a ≡ false → a && b ≡ false
and-stops a b f = simp f

pub and_last : (a b : Bool) → a ≡ true → b ≡ false → a && b ≡ false
and_last a b t f = simp (t, f)

-- two tests that hold together are the same test
pub same_test : (a b : Bool) → (a ≡ true → b ≡ true) → (b ≡ true → a ≡ true) → a ≡ b
same_test true b f g = sym (f refl)
same_test false true f g = g refl
same_test false false f g = refl

-- where a chain of refusals gives none, its first test holds and the rest gives none
pub cond-zero : (b : Bool) (x y : ℕ) → cond b x (suc y) ≡ 0 → (b ≡ true) × (x ≡ 0)
cond-zero true x y e = (refl, e)
cond-zero false x y e = absurd (omega arith)

-- what the two tests of rule 1 say
one-to : (n most : ℕ) → leb 1 n && leb n most ≡ true → (1 ≤ n) × (n ≤ most)
one-to n most e = let x = both (leb 1 n) (leb n most) e in (leb-true _ _ x.0, leb-true _ _ x.1)

pub people-says : (people : ℕ) → people_ok people ≡ true → (1 ≤ people) × (people ≤ 32)
unfolding people_ok
people-says people e = one-to people 32 e

pub slot-count-says : (slots : ℕ) → slot_count_ok slots ≡ true → (1 ≤ slots) × (slots ≤ 1024)
unfolding slot_count_ok
slot-count-says slots e = one-to slots 1024 e

-- only one outcome fits a contract that says `r ≡ x`: what two results that meet it have in common
pub one-outcome {ℓ} : {A : Type ℓ} (x r s : A) → r ≡ x → s ≡ x → r ≡ s
one-outcome x r s p q = p ∙ sym q
