-- The two steps, slot by slot. Assumes nothing.
use mathlib.Core.Path.{◌≡◌, refl, sym, ap, ap₂, ◌∙◌}
use mathlib.Core.Bool.{Bool, true, false, cond, ◌&&◌}
use mathlib.Core.List.{List}
use Prim.Native.Nat.{ℕ, zero, suc, ◌+◌, ◌-◌, ◌≤◌, ◌<◌}
use native.Mathlib.Numerals.{add-one}
use native.Mathlib.Omega.{arith}
use borrow.Author.Tests.{le-ltb}
use lib.Dec.{eqb}
use lib.ListN.{length, get_or, set}
use Rattle.paper.specs.Limits.{nobody}
use Rattle.paper.specs.Count.{all, all_in, over, fill}
use Rattle.paper.proofs.Logic.{by-test, below_suc}
use Rattle.paper.proofs.Count.{in-same, over-more, get_d-over-out, length-fill, get_d-fill-in, get_d-fill-out}
use Rattle.units.specs.Units.{unit_start, unit_end, units_ok, InUnit}
use Rattle.units.proofs.Units.{unit-some, unit-only}
use Rattle.owners.specs.Derived.{known_by}
use Rattle.owners.specs.Recount.{first_fail, known_at, available_for, available_at, even_at}
use Rattle.owners.proofs.Scans.{scan-test}
use Rattle.mend.specs.Mended.{may_keep, left_to, barred_cleared, vacated, uneven_cleared}

-- ---- step 1

-- the owner left, by the owner read
left_is : (people : ℕ) (avail o : List ℕ) (k w r : ℕ) → w ≡ get_or o k 0
    → r ≡ cond (known_by people w && available_for avail w k) w nobody → r ≡ left_to people avail o k
unfolding left_to may_keep known_at available_at
left_is people avail o k w r e q = q ∙ ap (λ (v : ℕ). cond (known_by people v && available_for avail v k) v nobody) e

-- one slot more
pub barred-more : (people : ℕ) (avail o now : List ℕ) (k r : ℕ) → now ≡ over (left_to people avail o) k o
    → r ≡ cond (known_by people (get_or now k 0) && available_for avail (get_or now k 0) k) (get_or now k 0) nobody
    → set now k r ≡ over (left_to people avail o) (k + 1) o
barred-more people avail o now k r e q =
    let here : get_or now k 0 ≡ get_or o k 0
    = ap (λ (l : List ℕ). get_or l k 0) e ∙ get_d-over-out (left_to people avail o) k o k (omega arith) in
    ap₂ (λ (l : List ℕ) (v : ℕ). set l k v) e (left_is people avail o k (get_or now k 0) r here q)
    ∙ sym (over-more (left_to people avail o) k o)

pub barred-end : (people slots : ℕ) (avail o now : List ℕ) (k : ℕ) → k ≤ slots → slots ≤ k → now ≡ over (left_to people avail o) k o
    → now ≡ barred_cleared people slots avail o
unfolding barred_cleared
barred-end people slots avail o now k h g e =
    let q : k ≡ slots = omega arith in e ∙ ap (λ (n : ℕ). over (left_to people avail o) n o) q

-- ---- step 2

-- only the owners in a unit matter to whether it has one
pub even-same : (slots units : ℕ) (begins o o' : List ℕ) (u : ℕ) → unit_start begins u < unit_end slots units begins u
    → ((k : ℕ) → unit_start begins u ≤ k → k < unit_end slots units begins u → get_or o k 0 ≡ get_or o' k 0)
    → even_at slots units begins o u ≡ even_at slots units begins o' u
unfolding even_at
even-same slots units begins o o' u h f =
    in-same (unit_start begins u) (unit_end slots units begins u) _ _
    (λ k a b. ap₂ eqb (f k a b) (f (unit_start begins u) (omega arith) h))

-- a unit asked about alone: it ends where it ended, and starts where the column is cut
pub even-alone : (slots units : ℕ) (begins o part : List ℕ) (u e r : ℕ) → e ≡ unit_end slots units begins u
    → unit_start part 0 ≡ unit_start begins u → r ≡ first_fail 1 (even_at e 1 part o) → eqb r 1 ≡ even_at slots units begins o u
unfolding all even_at unit_end
even-alone slots units begins o part u e r ee es q =
    scan-test 1 r (even_at e 1 part o) q
    ∙ ap₂ (λ (a b : ℕ). all_in a b (λ k. eqb (get_or o k 0) (get_or o a 0))) es
    (ap (λ (b : Bool). cond b (unit_start part 1) e) (le-ltb 1 1 (omega arith)) ∙ ee)

module _ (slots units : ℕ) (begins o : List ℕ) where
  abbrev upto : ℕ → List ℕ
  upto n = uneven_cleared slots units begins o n

  pub uneven-none : o ≡ upto 0
  unfolding uneven_cleared
  uneven-none = refl

  pub uneven-yes : (u : ℕ) → even_at slots units begins o u ≡ true → upto (suc u) ≡ upto u
  unfolding uneven_cleared
  uneven-yes u t =
      ap (λ (b : Bool). cond b (upto u) (vacated (unit_start begins u) (unit_end slots units begins u) (upto u))) t

  pub uneven-no : (u : ℕ) → even_at slots units begins o u ≡ false
      → upto (suc u) ≡ vacated (unit_start begins u) (unit_end slots units begins u) (upto u)
  unfolding uneven_cleared
  uneven-no u f =
      ap (λ (b : Bool). cond b (upto u) (vacated (unit_start begins u) (unit_end slots units begins u) (upto u))) f

  pub uneven-length : (n : ℕ) → length (upto n) ≡ length o
  uneven-length zero = ap length (sym uneven-none)
  uneven-length (suc u) =
      by-test (even_at slots units begins o u) _ (λ t. ap length (uneven-yes u t) ∙ uneven-length u)
      (λ f.
      ap length (uneven-no u f) ∙ length-fill nobody (unit_start begins u) (unit_end slots units begins u - unit_start begins u) (upto u)
      ∙ uneven-length u)

  -- a slot of no unit below n stays
  pub uneven-out : (n k : ℕ) → ((u : ℕ) → u < n → unit_start begins u ≤ k → k < unit_end slots units begins u → ⊥)
      → get_or (upto n) k 0 ≡ get_or o k 0
  uneven-out zero k f = ap (λ (l : List ℕ). get_or l k 0) (sym uneven-none)
  uneven-out (suc u) k f =
      let rest = uneven-out u k (λ v h. f v (omega arith)) in
      by-test (even_at slots units begins o u) _ (λ t. ap (λ (l : List ℕ). get_or l k 0) (uneven-yes u t) ∙ rest)
      (λ e.
      ap (λ (l : List ℕ). get_or l k 0) (uneven-no u e)
      ∙ get_d-fill-out nobody (unit_start begins u) (unit_end slots units begins u - unit_start begins u) (upto u) k
      (λ a b. f u (omega arith) a (omega arith))
      ∙ rest)

  module _ (ok : units_ok slots units begins ≡ true) where
    not_earlier : (k u v : ℕ) → InUnit slots units begins k u → v < u → unit_start begins v ≤ k → k < unit_end slots units begins v → ⊥
    not_earlier k u v I h a b =
        let q = unit-only slots units begins ok k u v I record { known = omega (arith, I.known); from = a; to = b } in omega arith

    -- a slot of a unit below n keeps its owner where the unit has one
    pub uneven-in : (n u k : ℕ) → u < n → n ≤ units → InUnit slots units begins k u → k < length o
        → get_or (upto n) k 0 ≡ cond (even_at slots units begins o u) (get_or o k 0) nobody
    uneven-in zero u k h g I r = absurd (omega arith)
    uneven-in (suc n) u k h g I r =
        let at : List ℕ → ℕ = λ l. get_or l k 0 in
        below_suc _ h
        (λ (q : u ≡ n).
        let out = uneven-out u k (λ v x. not_earlier k u v I x) in
        by-test (even_at slots units begins o u) _
        (λ t.
        ap (λ (m : ℕ). at (upto (suc m))) (sym q) ∙ ap at (uneven-yes u t) ∙ out
        ∙ sym (ap (λ (b : Bool). cond b (get_or o k 0) nobody) t))
        (λ f.
        ap (λ (m : ℕ). at (upto (suc m))) (sym q) ∙ ap at (uneven-no u f)
        ∙ get_d-fill-in nobody (unit_start begins u) (unit_end slots units begins u - unit_start begins u) (upto u) k I.from
        (omega (arith, I.from, I.to)) (omega (arith, uneven-length u))
        ∙ sym (ap (λ (b : Bool). cond b (get_or o k 0) nobody) f)))
        (λ (l : u < n).
        let rest = uneven-in n u k l (omega arith) I r in
        by-test (even_at slots units begins o n) _ (λ t. ap at (uneven-yes n t) ∙ rest)
        (λ f.
        ap at (uneven-no n f)
        ∙ get_d-fill-out nobody (unit_start begins n) (unit_end slots units begins n - unit_start begins n) (upto n) k
        (λ a b.
        let q = unit-only slots units begins ok k u n I record { known = g; from = a; to = omega arith } in
        omega arith)
        ∙ rest))

    -- a unit is judged alike before and after the units below it
    judged-alike : (u : ℕ) → u < units → (now : List ℕ) → now ≡ upto u → even_at slots units begins now u ≡ even_at slots units begins o u
    judged-alike u h now e =
        even-same slots units begins now o u (unit-some slots units begins ok u h)
        (λ k a b.
        ap (λ (l : List ℕ). get_or l k 0) e
        ∙ uneven-out u k (λ v x. not_earlier k u v record { known = h; from = a; to = b } x))

    -- the loop, a unit at a time
    module _ (u : ℕ) (h : u < units) (now : List ℕ) (e : now ≡ upto u) (b : Bool) (eb : b ≡ even_at slots units begins now u) where
      pub even-stays : b ≡ true → now ≡ upto (u + 1)
      even-stays t =
          e ∙ sym (ap upto (add-one u) ∙ uneven-yes u (sym (judged-alike u h now e) ∙ sym eb ∙ t))

      pub uneven-goes : b ≡ false → (a to : ℕ) (then : List ℕ) → a ≡ unit_start begins u → to ≡ unit_end slots units begins u
          → then ≡ fill nobody a (to - a) now → then ≡ upto (u + 1)
      uneven-goes f a to then ea et q =
          q ∙ ap₂ (λ (x y : ℕ). fill nobody x (y - x) now) ea et
          ∙ ap (vacated (unit_start begins u) (unit_end slots units begins u)) e
          ∙ sym (ap upto (add-one u) ∙ uneven-no u (sym (judged-alike u h now e) ∙ sym eb ∙ f))

    pub uneven-end : (u : ℕ) (now : List ℕ) → u ≤ units → units ≤ u → now ≡ upto u → now ≡ upto units
    uneven-end u now h g e = let q : u ≡ units = omega arith in e ∙ ap upto q
