-- What holds of each standing, a test that some standing passes, and a number of each standing added up. Assumes nothing.
use Rattle.std.proofs.Common.{◌≡◌, ℕ, zero, suc, ◌+◌, ◌*◌, ◌<◌, ◌≤◌, Bool, true, false, ◌||◌, List, [], ◌∷◌, ◌++◌, map, length, get_or, replicate, sym, refl, ap, ◌∙◌, ap₂, true≢false, suc-le-suc, zero-le, le_of_suc-le-suc, not-suc-le-zero, add-zero, add_assoc, zero-lt-suc, mul-suc, arith}
use mathlib.Core.List.{foldl}
use Rattle.std.specs.List.{list_any}
use Rattle.paper.proofs.Logic.{by-test, neither, or_right, or_left, or-second}
use Rattle.targets.specs.declared.Standing.{Standing}
use Rattle.targets.specs.Figures.{up_to, pad}
use Rattle.targets.specs.Passes.{some}
use Rattle.targets.specs.Inside.{Each, SmallTarget, Small}

-- ---- what holds of each standing

module _ (P : Standing → Type 0) where
  pub each_append : (xs ys : List Standing) → Each P xs → Each P ys → Each P (xs ++ ys)
  each_append [] ys h k = k
  each_append (x ∷ xs) ys h k = (h.0, each_append xs ys h.1 k)

  pub each-up_to : (f : ℕ → Standing) (n : ℕ) → ((k : ℕ) → k < n → P (f k)) → Each P (up_to f n)
  each-up_to f zero h = tt
  each-up_to f (suc n) h =
      each_append (up_to f n) (f n ∷ []) (each-up_to f n (λ k l. h k (omega arith))) (h n (omega arith), tt)

  pub each-replicate : (m : ℕ) (l : Standing) → P l → Each P (replicate m l)
  each-replicate zero l h = tt
  each-replicate (suc m) l h = (h, each-replicate m l h)

  -- of the standing at a place
  pub each_at : (ls : List Standing) (i : ℕ) (d : Standing) → Each P ls → i < length ls → P (get_or ls i d)
  each_at [] i d h l = absurd (not-suc-le-zero l)
  each_at (x ∷ ls) zero d h l = h.0
  each_at (x ∷ ls) (suc i) d h l = each_at ls i d h.1 (le_of_suc-le-suc l)

  -- of two things
  pub each_both : (Q : Standing → Type 0) (ls : List Standing) → Each P ls → Each Q ls → Each (λ (l : Standing). P l × Q l) ls
  each_both Q [] h k = tt
  each_both Q (l ∷ ls) h k = ((h.0, k.0), each_both Q ls h.1 k.1)

  -- what follows from it, and what then holds of each f l
  pub each-then : (Q : Standing → Type 0) → ((l : Standing) → P l → Q l) → (ls : List Standing) → Each P ls → Each Q ls
  each-then Q f [] h = tt
  each-then Q f (l ∷ ls) h = (f l h.0, each-then Q f ls h.1)

  pub each_map : (Q : Standing → Type 0) (f : Standing → Standing) → ((l : Standing) → P l → Q (f l)) → (ls : List Standing) → Each P ls →
      Each Q (map f ls)
  each_map Q f g [] h = tt
  each_map Q f g (l ∷ ls) h = (g l h.0, each_map Q f g ls h.1)

-- ---- a test that some standing passes

module _ (p : Standing → Bool) where
  -- none does exactly where each fails
  pub none_each : (ls : List Standing) → some p ls ≡ false → Each (λ (l : Standing). p l ≡ false) ls
  none_each [] e = tt
  none_each (l ∷ ls) e = let x = neither (p l) (some p ls) e in (x.0, none_each ls x.1)

  pub each_none : (ls : List Standing) → Each (λ (l : Standing). p l ≡ false) ls → some p ls ≡ false
  each_none [] h = refl
  each_none (l ∷ ls) h = ap₂ (λ (a b : Bool). a || b) h.0 (each_none ls h.1)

  -- a chain over them asks the same
  pub any-some : (ls : List Standing) → list_any p ls ≡ some p ls
  any-some [] = refl
  any-some (l ∷ ls) = ap (λ (b : Bool). p l || b) (any-some ls)

  -- one does exactly where some place has one
  pub some_at : (ls : List Standing) → some p ls ≡ true → (j : ℕ) × (j < length ls) × (p (get_or ls j pad) ≡ true)
  some_at [] e = absurd (true≢false (sym e))
  some_at (l ∷ ls) e =
      by-test (p l) ((j : ℕ) × (j < suc (length ls)) × (p (get_or (l ∷ ls) j pad) ≡ true))
      (λ q. (0, zero-lt-suc (length ls), q))
      (λ q. let r = some_at ls (or_right (p l) (some p ls) e q) in (suc r.0, suc-le-suc r.1, r.2))

  pub at_some : (ls : List Standing) (j : ℕ) → j < length ls → p (get_or ls j pad) ≡ true → some p ls ≡ true
  at_some [] j h e = absurd (not-suc-le-zero h)
  at_some (l ∷ ls) zero h e = or_left (p l) (some p ls) e
  at_some (l ∷ ls) (suc j) h e = or-second (p l) (some p ls) (at_some ls j (le_of_suc-le-suc h) e)

-- where one test holds, another does
pub some_then : (p q : Standing → Bool) → ((l : Standing) → p l ≡ true → q l ≡ true) → (ls : List Standing) → some p ls ≡ true →
    some q ls ≡ true
some_then p q f [] e = e
some_then p q f (l ∷ ls) e =
    by-test (p l) _ (λ t. or_left (q l) (some q ls) (f l t))
    (λ t. or-second (q l) (some q ls) (some_then p q f ls (or_right (p l) (some p ls) e t)))

-- ---- a number of each standing, added up

abbrev pub sum_standings : (Standing → ℕ) → List Standing → ℕ
sum_standings g [] = 0
sum_standings g (l ∷ ls) = g l + sum_standings g ls

-- a fold whose turns add it
pub fold-sum : (f : ℕ → Standing → ℕ) (g : Standing → ℕ) → ((a : ℕ) (l : Standing) → f a l ≡ a + g l) → (ls : List Standing) (a : ℕ)
    → foldl f a ls ≡ a + sum_standings g ls
fold-sum f g e [] a = sym (add-zero a)
fold-sum f g e (l ∷ ls) a =
    ap (λ (x : ℕ). foldl f x ls) (e a l) ∙ fold-sum f g e ls (a + g l) ∙ add_assoc a (g l) (sum_standings g ls)

-- at most b a standing
pub sum-most : (g : Standing → ℕ) (b : ℕ) (ls : List Standing) → Each (λ (l : Standing). g l ≤ b) ls → sum_standings g ls ≤ b * length ls
sum-most g b [] h = zero-le
sum-most g b (l ∷ ls) h = omega (arith, h.0, sum-most g b ls h.1, mul-suc b (length ls))

-- a small target, read at a place
pub small_at : (ls : List Standing) (i : ℕ) → Small ls → i < length ls → (d : Standing) → (get_or ls i d).target ≤ 1099511627776
small_at ls i h l d = each_at SmallTarget ls i d h l
