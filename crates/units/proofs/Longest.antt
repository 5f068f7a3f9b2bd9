-- The laws of the longest sum over neighbouring slots that pass. Assumes nothing.
use mathlib.Core.Path.{◌≡◌, sym, ap, ◌∙◌}
use mathlib.Core.Logic.{⊎_elim}
use mathlib.Core.Bool.{Bool, true, false}
use Prim.Native.Nat.{ℕ, zero, suc, ◌+◌, ◌-◌, ◌≤◌, ◌<◌, max}
use native.Mathlib.Nat.{not-suc-le-zero, le_antisymm}
use native.Mathlib.Numerals.{add-one}
use native.Mathlib.Omega.{arith}
use Rattle.paper.specs.Count.{all_in, sum_in}
use Rattle.paper.proofs.Logic.{by-test, below_suc, lt-or-ge}
use Rattle.paper.proofs.Count.{in-none, in-more, in-less, sum-in-none, sum-in-more}
use Rattle.units.specs.Achievable.{most, stretch, longest_to, longest, Longest}

-- ---- the greatest

pub most-above : (n k : ℕ) (f : ℕ → ℕ) → k < n → f k ≤ most n f
unfolding most
most-above zero k f h = absurd (not-suc-le-zero h)
most-above (suc n) k f h =
    below_suc (f k ≤ max (most n f) (f n)) h (λ q. omega (arith, ap f q)) (λ l. omega (arith, most-above n k f l))

pub most-below : (n b : ℕ) (f : ℕ → ℕ) → ((k : ℕ) → k < n → f k ≤ b) → most n f ≤ b
unfolding most
most-below zero b f h = omega arith
most-below (suc n) b f h = omega (arith, most-below n b f (λ k l. h k (omega arith)), h n (omega arith))

-- it is one of them
pub most-one : (n : ℕ) (f : ℕ → ℕ) → (k : ℕ) × (k < suc n) × (f k ≡ most (suc n) f)
unfolding most
most-one zero f = (0, omega arith, omega arith)
most-one (suc n) f =
    let r = most-one n f in
    ⊎_elim (λ (h : most (suc n) f < f (suc n)). (suc n, omega arith, omega arith))
    (λ (h : f (suc n) ≤ most (suc n) f). (r.0, omega (arith, r.1), omega (arith, r.2))) (lt-or-ge (most (suc n) f) (f (suc n)))

-- ---- stretches

module _ (p : ℕ → Bool) (f : ℕ → ℕ) where
  pub stretch-free : (a e : ℕ) → all_in a e p ≡ true → stretch p f a e ≡ sum_in a e f
  unfolding stretch
  stretch-free a e t = simp t

  pub stretch-broken : (a e : ℕ) → all_in a e p ≡ false → stretch p f a e ≡ 0
  unfolding stretch
  stretch-broken a e t = simp t

  stretch-none : (a : ℕ) → stretch p f a a ≡ 0
  stretch-none a = stretch-free a a (in-none a p) ∙ sum-in-none a f

  stretch-more : (a k : ℕ) → a ≤ k → p k ≡ true → all_in a k p ≡ true → stretch p f a (k + 1) ≡ stretch p f a k + f k
  stretch-more a k h t g =
      stretch-free a (k + 1) (in-more a k p h g t) ∙ sum-in-more a k f h ∙ ap (λ (x : ℕ). x + f k) (sym (stretch-free a k g))

  -- ---- one more slot

  pub to-above : (a e : ℕ) → a ≤ e → stretch p f a e ≤ longest_to p f e
  unfolding longest_to
  to-above a e h = most-above (suc e) a (λ x. stretch p f x e) (omega arith)

  pub to_below : (e b : ℕ) → ((a : ℕ) → a ≤ e → stretch p f a e ≤ b) → longest_to p f e ≤ b
  unfolding longest_to
  to_below e b h = most-below (suc e) b (λ x. stretch p f x e) (λ k l. h k (omega arith))

  pub to_none : longest_to p f 0 ≡ 0
  to_none =
      let only : (a : ℕ) → a ≤ 0 → stretch p f a 0 ≤ 0
      = λ a h. let e : a ≡ 0 = omega arith in omega (arith, stretch-none 0, ap (λ (x : ℕ). stretch p f x 0) e) in
      omega (arith, to_below 0 0 only)

  -- a slot that passes lengthens the run that ends before it, one that fails breaks it
  pub to_in : (k : ℕ) → p k ≡ true → longest_to p f (k + 1) ≡ longest_to p f k + f k
  to_in k t = le_antisymm (to_below (k + 1) (longest_to p f k + f k) under) over
    where
      under : (a : ℕ) → a ≤ k + 1 → stretch p f a (k + 1) ≤ longest_to p f k + f k
      under a h =
          ⊎_elim
          (λ (g : k < a). let e : a ≡ k + 1 = omega arith in omega (arith, stretch-none (k + 1), ap (λ (x : ℕ). stretch p f x (k + 1)) e))
          (λ (g : a ≤ k).
          by-test (all_in a (k + 1) p) _
          (λ u. omega (arith, stretch-more a k g t (in-less a k p g u).0, to-above a k g))
          (λ u. omega (arith, stretch-broken a (k + 1) u)))
          (lt-or-ge k a)

      own : f k ≤ longest_to p f (k + 1)
      own = omega (arith, stretch-more k k (omega arith) t (in-none k p), stretch-none k, to-above k (k + 1) (omega arith))

      each : (a : ℕ) → a ≤ k → stretch p f a k ≤ longest_to p f (k + 1) - f k
      each a h =
          by-test (all_in a k p) _
          (λ u. omega (arith, stretch-more a k h t u, to-above a (k + 1) (omega arith)))
          (λ u. omega (arith, stretch-broken a k u))

      over : longest_to p f k + f k ≤ longest_to p f (k + 1)
      over = omega (arith, to_below k (longest_to p f (k + 1) - f k) each, own)

  pub to_out : (k : ℕ) → p k ≡ false → longest_to p f (k + 1) ≡ 0
  to_out k u = let z : longest_to p f (k + 1) ≤ 0 = to_below (k + 1) 0 under in omega arith
    where
      under : (a : ℕ) → a ≤ k + 1 → stretch p f a (k + 1) ≤ 0
      under a h =
          ⊎_elim
          (λ (g : k < a). let e : a ≡ k + 1 = omega arith in omega (arith, stretch-none (k + 1), ap (λ (x : ℕ). stretch p f x (k + 1)) e))
          (λ (g : a ≤ k).
          by-test (all_in a (k + 1) p) _
          (λ t. absurd (mathlib.Core.Bool.true≢false (sym (in-less a k p g t).1 ∙ u)))
          (λ t. omega (arith, stretch-broken a (k + 1) t)))
          (lt-or-ge k a)

  pub longest-none : longest p f 0 ≡ 0
  unfolding longest most
  longest-none = omega (arith, to_none)

  pub longest-more : (k : ℕ) → longest p f (k + 1) ≡ max (longest p f k) (longest_to p f (k + 1))
  unfolding longest most
  longest-more k = ap (λ (n : ℕ). longest p f n) (add-one k) ∙ ap (λ (n : ℕ). max (longest p f k) (longest_to p f n)) (sym (add-one k))

  -- more slots make none shorter
  pub longest-grows : (k n : ℕ) → k ≤ n → longest p f k ≤ longest p f n
  unfolding longest
  longest-grows k n h =
      most-below (suc k) (most (suc n) (longest_to p f)) (longest_to p f)
      (λ e l. most-above (suc n) e (longest_to p f) (omega arith))

  -- ---- it is the longest, and only it is

  pub longest-above : (n a e : ℕ) → a ≤ e → e ≤ n → all_in a e p ≡ true → sum_in a e f ≤ longest p f n
  unfolding longest
  longest-above n a e h g t =
      omega (arith, stretch-free a e t, to-above a e h, most-above (suc n) e (longest_to p f) (omega arith))

  to_one : (n : ℕ) → (e : ℕ) × (e < suc n) × (longest_to p f e ≡ longest p f n)
  unfolding longest
  to_one n = most-one n (longest_to p f)

  from_one : (e : ℕ) → (a : ℕ) × (a < suc e) × (stretch p f a e ≡ longest_to p f e)
  unfolding longest_to
  from_one e = most-one e (λ a. stretch p f a e)

  pub longest-meets : (n : ℕ) → Longest p f n (longest p f n)
  longest-meets n =
      let x = to_one n in
      let y = from_one x.0 in
      by-test (all_in y.0 x.0 p) _
      (λ t. record {
        from = y.0;
        to = x.0;
        ordered = omega (arith, y.1);
        within = omega (arith, x.1);
        passes = t;
        adds = sym x.2 ∙ sym y.2 ∙ stretch-free y.0 x.0 t;
        most = longest-above n;
      })
      (λ u. record {
        from = 0;
        to = 0;
        ordered = omega arith;
        within = omega arith;
        passes = in-none 0 p;
        adds = sym x.2 ∙ sym y.2 ∙ stretch-broken y.0 x.0 u ∙ sym (sum-in-none 0 f);
        most = longest-above n;
      })

  pub longest-only : (n m : ℕ) → Longest p f n m → m ≡ longest p f n
  longest-only n m l =
      let r = longest-meets n in
      le_antisymm (omega (arith, l.adds, longest-above n l.from l.to l.ordered l.within l.passes))
      (omega (arith, r.adds, l.most r.from r.to r.ordered r.within r.passes))
