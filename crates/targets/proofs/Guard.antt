-- No unrounded target of people whose figures pass reaches 2 ^ 40: the guard of refusal 8 is kept. Assumes nothing.
-- The sum of the raw shares, each step rounded, is at least each of them, since rounding keeps the order.
-- So a quotient is at most 1, and the product at most N.
use Rattle.std.proofs.Common.{◌≡◌, ℕ, suc, ◌+◌, ◌*◌, ◌^◌, ◌<◌, ◌≤◌, Bool, true, false, cond, T, List, [], ◌∷◌, length, ℤ, sym, refl, ap, ◌∙◌, subst, true≢false, zero-le, le_trans, le_of_eq, le_refl, le-add_right, lt_of_le_of_lt, add-zero, add-le-add, mul-le-mul_right, mul_assoc, suc-mul, mul_comm, add-mul, mul-pos, zero-add, le-add_left, arith, lit≤, ltb→lt}
use mathlib.Core.List.{foldl}
use native.Mathlib.Nat.{le-suc}
use lib.Ieee.{Float, nan, inf, fin, binary64, add, sub, mul, div, lt, fits, up, down, round, of_int}
use lib.Ieee.Exact.{HasValue}
use lib.Ieee.Fits.{down_pos, round-fits}
use lib.Ieee.Back.{round_whole}
use lib.Ieee.Positive.{first_pos}
use Rattle.paper.proofs.Logic.{by_cond}
use Rattle.targets.specs.declared.Standing.{Standing}
use Rattle.targets.specs.Figures.{zero_f, whole}
use Rattle.targets.specs.Passes.{within, unrounded, outside, some, with_share, share_sum, with_prior, notional}
use Rattle.targets.specs.Inside.{Each}
use Rattle.targets.proofs.Nearest.{held}
use Rattle.targets.proofs.Floats.{Most, Plain, Share, Under, round-most, round-plain, quotient, product, difference, inside}
use Rattle.targets.proofs.Floats.{under-round, under-refl, under-trans, add-plain, over-left, over-right}
use Rattle.targets.proofs.Each.{each_both, each-then, each_none, sum_standings, fold-sum, sum-most}
use Rattle.targets.proofs.Cases.{kept-guard}

-- no raw share is above 2 ^ 37, and no N above 4,000,000,000
abbrev pub share_most : ℕ
share_most = 137438953472

abbrev pub notional_most : ℕ
notional_most = 4000000000

-- ---- one more raw share

-- x is k shares added up: it has no sign, fits, and is at most k times the most
pub record Acc (k : ℕ) (x : Float) : Type 0 where
  pub plain : Plain x
  pub ok : T (fits binary64 x)
  pub most : Most x (k * share_most) 1

-- with one person's share, if they are not pinned
pub record With (k : ℕ) (b : Bool) (x y z : Float) : Type 0 where
  pub acc : Acc k z
  pub left : Under x z
  pub right : b ≡ false → Under y z

added : (k : ℕ) (x y : Float) → suc k ≤ 64 → Acc k x → Share y → Most y share_most 1
    → With (suc k) false x y (add binary64 x y)
added k nan y K a h l = absurd a.plain
added k (inf s) y K a h l = absurd a.most
added k (fin true m e) y K a h l = absurd (true≢false a.plain)
added k (fin false m e) nan K a h l = absurd h
added k (fin false m e) (inf t) K a h l = absurd h
added k (fin false m e) (fin t n d) K a h l =
    let A = m * up e * down d in
    let B = n * up d * down e in
    let C = down e * down d in
    let c : 0 < C = mul-pos (down_pos e) (down_pos d) in
    let q : add binary64 (fin false m e) (fin t n d) ≡ round binary64 false (A + B) C = add-plain m e t n d h.1 in
    let ra : A ≤ k * share_most * C = over-left (m * up e) (k * share_most) (down e) (down d) a.most in
    let rb : B ≤ share_most * C = over-right (n * up d) share_most (down e) (down d) l in
    let s : k * share_most * C + share_most * C ≡ suc k * share_most * C
    = sym (add-mul (k * share_most) share_most C) ∙ ap (λ (z : ℕ). z * C) (sym (suc-mul k share_most)) in
    let f : A + B ≤ suc k * share_most * C = le_trans (add-le-add ra rb) (le_of_eq s) in
    let w : suc k * share_most ≤ 2 ^ 53 = le_trans (mul-le-mul_right share_most K) (lit≤ {m = 64 * share_most} {n = 2 ^ 53} tt) in
    let r = round-most false (A + B) C (suc k * share_most) c w f in
    subst (λ (z : Float). With (suc k) false (fin false m e) (fin t n d) z) (sym q)
    (record {
      acc = record { plain = round-plain binary64 (A + B) C; ok = round-fits binary64 false (A + B) C; most = r };
      left = under-round false m e (A + B) C (suc k * share_most) a.ok c
          (le_trans
          (le_of_eq (ap (λ (z : ℕ). m * up e * z) (mul_comm (down e) (down d)) ∙ sym (mul_assoc (m * up e) (down d) (down e))))
          (mul-le-mul_right (down e) (le-add_right A B)))
          r;
      right = λ free. under-round t n d (A + B) C (suc k * share_most) h.0 c
          (le_trans (le_of_eq (sym (mul_assoc (n * up d) (down e) (down d)))) (mul-le-mul_right (down d) (le-add_left B A)))
          r;
    })

-- ---- all people

-- a raw share is at most 2 ^ 37 and not below zero, and the prior minutes are at most 100,000,000
pub record Good (l : Standing) : Type 0 where
  pub share : Share l.raw
  pub small : Most l.raw share_most 1
  pub prior : l.person.prior ≤ 100000000

abbrev pub Goods : List Standing → Type 0
Goods = Each Good

-- who is not pinned has a raw share of at most s
abbrev pub UnderSum : Float → Standing → Type 0
UnderSum s l = l.pinned ≡ false → Under l.raw s

abbrev pub AllUnder : Float → List Standing → Type 0
AllUnder s = Each (UnderSum s)

more_room : (k : ℕ) (x : Float) → Most x (k * share_most) 1 → Most x (suc k * share_most) 1
more_room k nan h = h
more_room k (inf s) h = h
more_room k (fin s m e) h = le_trans h (mul-le-mul_right (down e) (mul-le-mul_right share_most (le-suc k)))

pub with-one : (b : Bool) (k : ℕ) (x y : Float) → suc k ≤ 64 → Acc k x → Share y → Most y share_most 1
    → With (suc k) b x y (cond b x (add binary64 x y))
with-one true k x y K a h l = record {
  acc = record { plain = a.plain; ok = a.ok; most = more_room k x a.most };
  left = under-refl x (k * share_most) 1 a.most;
  right = λ q. absurd (true≢false q);
}
with-one false k x y K a h l = added k x y K a h l

-- the shares of ls were added to x: s is at least x and each of them
pub record Summed (k : ℕ) (x s : Float) (ls : List Standing) : Type 0 where
  pub acc : Acc k s
  pub from : Under x s
  pub all : AllUnder s ls

pub summed : (ls : List Standing) (k n : ℕ) (x : Float) → Acc k x → Goods ls → n ≡ k + length ls → n ≤ 64 → Summed n x
    (foldl with_share x ls) ls
summed [] k n x a g e h = record {
  acc = subst (λ (j : ℕ). Acc j x) (sym (e ∙ add-zero k)) a;
  from = under-refl x (k * share_most) 1 a.most;
  all = tt;
}
summed (l ∷ ls) k n x a g e h =
    let K : suc k ≤ 64 = omega arith in
    let w = with-one l.pinned k x l.raw K a g.0.share g.0.small in
    let r = summed ls (suc k) n (with_share x l) w.acc g.1 (omega arith) h in
    record {
      acc = r.acc;
      from = under-trans x (with_share x l) (foldl with_share x (l ∷ ls)) w.left r.from;
      all = (λ q. under-trans l.raw (with_share x l) (foldl with_share x (l ∷ ls)) (w.right q) r.from, r.all);
    }

-- the prior minutes of the unpinned
abbrev prior_of : Standing → ℕ
prior_of l = cond l.pinned 0 l.person.prior

abbrev pub priors_in : List Standing → ℕ
priors_in = sum_standings prior_of

pub notional-is : (d : ℕ) (ls : List Standing) → notional d ls ≡ d + priors_in ls
notional-is d ls = fold-sum with_prior prior_of (λ a l. go l.pinned a l.person.prior) ls d
  where
    go : (b : Bool) (a p : ℕ) → cond b a (a + p) ≡ a + cond b 0 p
    go true a p = sym (add-zero a)
    go false a p = refl

-- ---- the guard is kept
pub positive : (n : ℕ) (d : ℤ) → lt zero_f (fin false n d) ≡ true → 0 < n
unfolding lt
positive n d h = first_pos n (up d) (first_pos (n * up d) 1 (lt_of_le_of_lt (zero-le) (ltb→lt (0 * down d) (n * up d * 1) (held h))))

pub whole_val : (n : ℕ) → n ≤ notional_most → HasValue (whole n) false n 1
unfolding of_int
whole_val n h = round_whole binary64 false n (le_trans h (lit≤ {m = notional_most} {n = 2 ^ 53} tt))

-- what a pass divides by and hands out: the sum of the shares is s, finite and above 0, and N is n
pub record Basis (n : ℕ) (s : Float) : Type 0 where
  pub few : n ≤ notional_most
  pub plain : Plain s
  pub bound : ℕ
  pub most : Most s bound 1
  pub above : lt zero_f s ≡ true

-- what one person is handed is bounded
steps : (n p : ℕ) (s r : Float) → Basis n s → p ≤ 100000000 → Under r s
    → Most (sub binary64 (mul binary64 (whole n) (div binary64 r s)) (whole p)) (n + p) 1
steps n p nan r b P u = absurd b.plain
steps n p (inf s) r b P u = absurd b.most
steps n p (fin true v g) r b P u = absurd (true≢false b.plain)
steps n p (fin false v g) nan b P u = absurd u
steps n p (fin false v g) (inf t) b P u = absurd u
steps n p (fin false v g) (fin t r e) b P u =
    let N : n ≤ 2 ^ 53 = le_trans b.few (lit≤ {m = notional_most} {n = 2 ^ 53} tt) in
    let W : n + p ≤ 2 ^ 53 = le_trans (add-le-add b.few P) (lit≤ {m = notional_most + 100000000} {n = 2 ^ 53} tt) in
    let q = div binary64 (fin t r e) (fin false v g) in
    let x = mul binary64 (whole n) q in
    let j = product (whole n) q n (whole_val n b.few) N (quotient t r e v g (positive v g b.above) u) in
    difference x (whole p) n p j (whole_val p (omega arith)) W

kept : (n : ℕ) (s : Float) (l : Standing) → Basis n s → Good l → Under l.raw s → within (unrounded (whole n) s l) ≡ true
kept n s l b g u =
    inside (unrounded (whole n) s l) (n + l.person.prior) (steps n l.person.prior s l.raw b g.prior u)
    (omega (arith, b.few, g.prior))

none-outside : (n : ℕ) (s : Float) (ls : List Standing) → Basis n s → Goods ls → AllUnder s ls → some (outside (whole n) s) ls ≡ false
none-outside n s ls b g u =
    each_none (outside (whole n) s) ls
    (each-then (λ (l : Standing). Good l × UnderSum s l) (λ (l : Standing). outside (whole n) s l ≡ false)
    (λ l x. kept-guard (whole n) s l (λ q. kept n s l b x.0 (x.1 q))) ls (each_both Good (UnderSum s) ls g u))

pub zero-acc : Acc 0 zero_f
unfolding fits
zero-acc = record { plain = refl; ok = tt; most = le_refl 0 }

-- the sum of the shares of such people
pub summed-all : (ls : List Standing) → length ls ≤ 32 → Goods ls → Summed (length ls) zero_f (share_sum ls) ls
summed-all ls L g = summed ls 0 (length ls) zero_f zero-acc g (sym (zero-add (length ls))) (le_trans L (lit≤ {m = 32} {n = 64} tt))

pub notional-most : (d : ℕ) (ls : List Standing) → d ≤ 100000000 → length ls ≤ 32 → Goods ls → notional d ls ≤ notional_most
notional-most d ls D L g =
    let h = sum-most prior_of 100000000 ls
    (each-then Good (λ (l : Standing). prior_of l ≤ 100000000)
    (λ l x. by_cond l.pinned 0 l.person.prior (λ (p : ℕ). p ≤ 100000000) (λ q. zero-le) (λ q. x.prior)) ls g) in
    omega (arith, notional-is d ls, h)

pub basis-of : (d : ℕ) (ls : List Standing) → d ≤ 100000000 → length ls ≤ 32 → Goods ls → lt zero_f (share_sum ls) ≡ true
    → Basis (notional d ls) (share_sum ls)
basis-of d ls D L g z =
    let r = summed-all ls L g in
    record { few = notional-most d ls D L g; plain = r.acc.plain; bound = length ls * share_most; most = r.acc.most; above = z }

-- no pass over such people is refused
pub never-outside : (d : ℕ) (ls : List Standing) → d ≤ 100000000 → length ls ≤ 32 → Goods ls → lt zero_f (share_sum ls) ≡ true
    → some (outside (whole (notional d ls)) (share_sum ls)) ls ≡ false
never-outside d ls D L g z =
    none-outside (notional d ls) (share_sum ls) ls (basis-of d ls D L g z) g (summed-all ls L g).all
