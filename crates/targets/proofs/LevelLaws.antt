-- The minute-by-minute rule by levels: as many minutes as a level costs lift everybody to it, and what is left over lifts the first of
-- them. Assumes nothing.
use Rattle.std.proofs.Common.{◌≡◌, ℕ, zero, suc, ◌+◌, ◌-◌, ◌<◌, ◌≤◌, Bool, true, false, cond, not, ◌&&◌, eqb, ltb, leb, List, [], ◌∷◌, sym, refl, ap, ◌∙◌, ap₂, ⊎_elim, not-suc-le-zero, add-zero, add-suc, suc-add, zero-add, arith, le-ltb, lt-ltb, eq-eqb, ne_eqb, eqb-true, le-leb, leb-false, leb-true}
use borrow.Author.Tests.{not-true}
use Rattle.paper.proofs.Logic.{by-test, by_cond, both, and-true, or_left, or-second, lt-or-ge}
use Rattle.targets.specs.declared.Standing.{Standing}
use Rattle.targets.specs.Passes.{some}
use Rattle.targets.specs.Inside.{Each}
use Rattle.targets.specs.SecondEdition.{unpinned, retargeted, one_more, has_less, is_smallest, on_first, give_minute, times}
use Rattle.targets.specs.Levels.{reached, missing_to, lift_cost, on_level, one_fewer, lifted_standing, left_after, lifted, Lifts}
use Rattle.targets.proofs.Each.{each_none, each-then, some_then}

-- ---- the first who passes a test

module _ (p : Standing → Bool) (f : Standing → Standing) (l : Standing) (ls : List Standing) where
  pub first-here : p l ≡ true → on_first p f (l ∷ ls) ≡ f l ∷ ls
  first-here t = rw t

  pub first-later : p l ≡ false → on_first p f (l ∷ ls) ≡ l ∷ on_first p f ls
  first-later e = rw e

-- tests that agree on everybody
pub first-same : (p q : Standing → Bool) (f : Standing → Standing) (ls : List Standing) → Each (λ (l : Standing). p l ≡ q l) ls
    → on_first p f ls ≡ on_first q f ls
first-same p q f [] h = refl
first-same p q f (l ∷ ls) h =
    ap₂ (λ (b : Bool) (xs : List Standing). cond b (f l ∷ ls) (l ∷ xs)) h.0 (first-same p q f ls h.1)

-- ---- one person, by whether the level has reached them

pub reached-says : (L : ℕ) (l : Standing) → reached L l ≡ true → (l.pinned ≡ false) × (l.target ≤ L)
unfolding reached
reached-says L l t =
    let x = both (unpinned l) (leb l.target L) t in
    (not-true l.pinned x.0, leb-true l.target L x.1)

pub not-reached : (L : ℕ) (l : Standing) → reached L l ≡ false → l.pinned ≡ false → L < l.target
unfolding reached
not-reached L l e p = leb-false l.target L (rw p at e)

pub is-reached : (L : ℕ) (l : Standing) → l.pinned ≡ false → l.target ≤ L → reached L l ≡ true
unfolding reached
is-reached L l p h = rw (p, le-leb l.target L h)

-- how many it has reached
abbrev pub reached_by : ℕ → List Standing → ℕ
reached_by L [] = 0
reached_by L (l ∷ ls) = cond (reached L l) 1 0 + reached_by L ls

module _ (L r : ℕ) (l : Standing) (ls : List Standing) where
  pub lifted-on : reached L l ≡ true → lifted L r (l ∷ ls) ≡ retargeted (on_level L r) l ∷ lifted L (one_fewer r) ls
  unfolding lifted_standing left_after
  lifted-on t = rw t

  pub lifted-off : reached L l ≡ false → lifted L r (l ∷ ls) ≡ l ∷ lifted L r ls
  unfolding lifted_standing left_after
  lifted-off e = rw e

module _ (L : ℕ) (l : Standing) (ls : List Standing) where
  pub count-on : reached L l ≡ true → reached_by L (l ∷ ls) ≡ suc (reached_by L ls)
  count-on t = rw t (omega arith)

  pub count-off : reached L l ≡ false → reached_by L (l ∷ ls) ≡ reached_by L ls
  count-off e = rw e (omega arith)

-- ---- a level's cost

missing-next : (L : ℕ) (l : Standing) → missing_to (suc L) l ≡ missing_to L l + cond (reached L l) 1 0
unfolding missing_to reached
missing-next L l = go l.pinned (leb l.target L) refl
  where
    go : (p b : Bool) → leb l.target L ≡ b
        → cond p 0 (suc L - l.target) ≡ cond p 0 (L - l.target) + cond (not p && b) 1 0
    go true b e = refl
    go false true e = let h = leb-true l.target L e in omega arith
    go false false e = let h = leb-false l.target L e in omega arith

pub cost-next : (L : ℕ) (ls : List Standing) → lift_cost (suc L) ls ≡ lift_cost L ls + reached_by L ls
cost-next L [] = refl
cost-next L (l ∷ ls) = omega (arith, missing-next L l, cost-next L ls)

missing-none : (l : Standing) → missing_to 0 l ≡ 0
unfolding missing_to
missing-none l = by_cond l.pinned 0 (0 - l.target) (λ (k : ℕ). k ≡ 0) (λ p. refl) (λ p. omega arith)

pub cost-none : (ls : List Standing) → lift_cost 0 ls ≡ 0
cost-none [] = refl
cost-none (l ∷ ls) = omega (arith, missing-none l, cost-none ls)

pub cost-grows : (ls : List Standing) (a k : ℕ) → lift_cost a ls ≤ lift_cost (a + k) ls
cost-grows ls a zero = rw (add-zero a) (omega arith)
cost-grows ls a (suc k) =
    let e = ap (λ (x : ℕ). lift_cost x ls) (add-suc a k) in
    omega (arith, e, cost-next (a + k) ls, cost-grows ls a k)

-- ---- the standings at a level

-- nobody below it
floor-one : (L r : ℕ) (l : Standing) → (lifted_standing L r l).pinned ≡ false → L ≤ (lifted_standing L r l).target
unfolding lifted_standing
floor-one L r l =
    by_cond (reached L l) (retargeted (on_level L r) l) l (λ (x : Standing). x.pinned ≡ false → L ≤ x.target) (λ t p. on-level r)
    (λ e p. let h = not-reached L l e p in omega arith)
  where
    on-level : (k : ℕ) → L ≤ on_level L k
    on-level zero = omega arith
    on-level (suc k) = omega arith

floor : (L r : ℕ) (ls : List Standing) → Each (λ (l : Standing). l.pinned ≡ false → L ≤ l.target) (lifted L r ls)
floor L r [] = tt
floor L r (l ∷ ls) = (floor-one L r l, floor L (left_after L r l) ls)

-- who stands on it
abbrev stands : ℕ → Standing → Bool
stands L l = unpinned l && eqb l.target L

stands_on : (L : ℕ) (l : Standing) → reached L l ≡ true → stands L (retargeted L l) ≡ true
stands_on L l t = rw ((reached-says L l t).0, eq-eqb L L refl)

stands-above : (L : ℕ) (l : Standing) → stands L (retargeted (suc L) l) ≡ false
stands-above L l = and_second (unpinned l) (eqb (suc L) L) (ne_eqb (suc L) L (λ e. omega arith))
  where
    and_second : (a b : Bool) → b ≡ false → a && b ≡ false
    and_second true b e = e
    and_second false b e = refl

stands-off : (L : ℕ) (l : Standing) → reached L l ≡ false → stands L l ≡ false
stands-off L l e =
    by-test l.pinned _ (λ p. rw p) (λ p. rw (p, ne_eqb l.target L (λ q. let h = not-reached L l e p in omega arith)))

-- the first who stands on it gets the next minute
next_one : (L r : ℕ) (ls : List Standing) → r < reached_by L ls → on_first (stands L) one_more (lifted L r ls) ≡ lifted L (suc r) ls
next_one L r [] h = absurd (not-suc-le-zero h)
next_one L r (l ∷ ls) h = by-test (reached L l) _ (on r h (λ k. next_one L k ls)) (off (next_one L r ls))
  where
    on : (k : ℕ) → k < reached_by L (l ∷ ls)
        → ((q : ℕ) → q < reached_by L ls → on_first (stands L) one_more (lifted L q ls) ≡ lifted L (suc q) ls)
        → reached L l ≡ true → on_first (stands L) one_more (lifted L k (l ∷ ls)) ≡ lifted L (suc k) (l ∷ ls)
    on zero g i t =
        ap (on_first (stands L) one_more) (lifted-on L 0 l ls t)
        ∙ first-here (stands L) one_more (retargeted L l) (lifted L 0 ls) (stands_on L l t) ∙ sym (lifted-on L 1 l ls t)
    on (suc k) g i t =
        ap (on_first (stands L) one_more) (lifted-on L (suc k) l ls t)
        ∙ first-later (stands L) one_more (retargeted (suc L) l) (lifted L k ls) (stands-above L l)
        ∙ ap (λ (xs : List Standing). retargeted (suc L) l ∷ xs) (i k (let c = count-on L l ls t in omega arith))
        ∙ sym (lifted-on L (suc (suc k)) l ls t)

    off : (r < reached_by L ls → on_first (stands L) one_more (lifted L r ls) ≡ lifted L (suc r) ls)
        → reached L l ≡ false → on_first (stands L) one_more (lifted L r (l ∷ ls)) ≡ lifted L (suc r) (l ∷ ls)
    off i e =
        ap (on_first (stands L) one_more) (lifted-off L r l ls e)
        ∙ first-later (stands L) one_more l (lifted L r ls) (stands-off L l e)
        ∙ ap (λ (xs : List Standing). l ∷ xs) (i (let c = count-off L l ls e in omega arith)) ∙ sym (lifted-off L (suc r) l ls e)

-- while some are left, somebody stands on it
some-stand : (L r : ℕ) (ls : List Standing) → r < reached_by L ls → some (stands L) (lifted L r ls) ≡ true
some-stand L r [] h = absurd (not-suc-le-zero h)
some-stand L r (l ∷ ls) h = by-test (reached L l) _ (on r h (λ k. some-stand L k ls)) (off (some-stand L r ls))
  where
    on : (k : ℕ) → k < reached_by L (l ∷ ls) → ((q : ℕ) → q < reached_by L ls → some (stands L) (lifted L q ls) ≡ true)
        → reached L l ≡ true → some (stands L) (lifted L k (l ∷ ls)) ≡ true
    on zero g i t =
        ap (some (stands L)) (lifted-on L 0 l ls t)
        ∙ or_left (stands L (retargeted L l)) (some (stands L) (lifted L 0 ls)) (stands_on L l t)
    on (suc k) g i t =
        ap (some (stands L)) (lifted-on L (suc k) l ls t)
        ∙ or-second (stands L (retargeted (suc L) l)) (some (stands L) (lifted L k ls)) (i k (let c = count-on L l ls t in omega arith))

    off : (r < reached_by L ls → some (stands L) (lifted L r ls) ≡ true) → reached L l ≡ false → some (stands L) (lifted L r (l ∷ ls)) ≡ true
    off i e =
        ap (some (stands L)) (lifted-off L r l ls e)
        ∙ or-second (stands L l) (some (stands L) (lifted L r ls)) (i (let c = count-off L l ls e in omega arith))

-- who has the smallest target stands on it
module _ (L : ℕ) (xs : List Standing) (low : Each (λ (l : Standing). l.pinned ≡ false → L ≤ l.target) xs)
    (there : some (stands L) xs ≡ true) where
  none-less : (l : Standing) → l.target ≡ L → some (has_less l.target) xs ≡ false
  none-less l e =
      each_none (has_less l.target) xs
      (each-then (λ (k : Standing). k.pinned ≡ false → L ≤ k.target) (λ (k : Standing). has_less l.target k ≡ false) (λ k h.
      by-test k.pinned _ (λ p. rw p) (λ p. let g = h p in rw (p, le-ltb k.target l.target (omega arith)))) xs low)

  one_less : (l : Standing) → L < l.target → some (has_less l.target) xs ≡ true
  one_less l h = some_then (stands L) (has_less l.target) (λ k t.
      let x = both (unpinned k) (eqb k.target L) t in
      let e = eqb-true k.target L x.1 in
      and-true (unpinned k) (ltb k.target l.target) x.0 (lt-ltb k.target l.target (omega arith))) xs there

  smallest-stands : (l : Standing) → (l.pinned ≡ false → L ≤ l.target) → is_smallest xs l ≡ stands L l
  unfolding is_smallest
  smallest-stands l h =
      by-test l.pinned _ (λ p. rw p)
      (λ p.
      ⊎_elim
      (λ (c : L < l.target). rw (p, one_less l c, ne_eqb l.target L (λ q. omega arith)))
      (λ (c : l.target ≤ L).
      let g = h p in
      let e : l.target ≡ L = omega arith in
      rw (p, none-less l e, eq-eqb l.target L e))
      (lt-or-ge L l.target))

  smallest-all : on_first (is_smallest xs) one_more xs ≡ on_first (stands L) one_more xs
  smallest-all =
      first-same (is_smallest xs) (stands L) one_more xs
      (each-then (λ (l : Standing). l.pinned ≡ false → L ≤ l.target) (λ (l : Standing). is_smallest xs l ≡ stands L l)
      smallest-stands xs low)

-- one minute
pub one-minute : (L r : ℕ) (ls : List Standing) → r < reached_by L ls → give_minute (lifted L r ls) ≡ lifted L (suc r) ls
unfolding give_minute
one-minute L r ls h = smallest-all L (lifted L r ls) (floor L r ls) (some-stand L r ls h) ∙ next_one L r ls h

-- ---- from level to level

same_target : (t : ℕ) (l : Standing) → l.target ≡ t → retargeted t l ≡ l
same_target t l e = rw (← e)

pub at_none : (ls : List Standing) → lifted 0 0 ls ≡ ls
at_none [] = refl
at_none (l ∷ ls) =
    by-test (reached 0 l) _
    (λ t. rw (lifted-on 0 0 l ls t)
    (ap₂ (λ (x : Standing) (xs : List Standing). x ∷ xs) (same_target 0 l (let h = (reached-says 0 l t).1 in omega arith)) (at_none ls)))
    (λ e. rw (lifted-off 0 0 l ls e) (ap (λ (xs : List Standing). l ∷ xs) (at_none ls)))

-- everybody one above a level is everybody at the next
pub all_up : (L : ℕ) (ls : List Standing) → lifted L (reached_by L ls) ls ≡ lifted (suc L) 0 ls
all_up L [] = refl
all_up L (l ∷ ls) =
    by-test (reached L l) _
    (λ t.
    let x = reached-says L l t in
    rw (count-on L l ls t, lifted-on L (suc (reached_by L ls)) l ls t, lifted-on (suc L) 0 l ls (is-reached (suc L) l x.0 (omega arith)))
    (ap (λ (xs : List Standing). retargeted (suc L) l ∷ xs) (all_up L ls)))
    (λ e. rw (count-off L l ls e, lifted-off L (reached_by L ls) l ls e) (by-test (reached (suc L) l) _
    (λ t.
    let x = reached-says (suc L) l t in
    let g = not-reached L l e x.0 in
    rw (lifted-on (suc L) 0 l ls t)
    (ap₂ (λ (y : Standing) (xs : List Standing). y ∷ xs) (sym (same_target (suc L) l (omega arith))) (all_up L ls)))
    (λ f. rw (lifted-off (suc L) 0 l ls f) (ap (λ (xs : List Standing). l ∷ xs) (all_up L ls)))))

-- ---- all minutes: steps F of which each lifts one more person, as g shows the standings

pub times-add : (a b : ℕ) (f : List Standing → List Standing) (ls : List Standing) → times (a + b) f ls ≡ times b f (times a f ls)
unfolding times
times-add zero b f ls = ap (λ (k : ℕ). times k f ls) (zero-add b)
times-add (suc a) b f ls = ap (λ (k : ℕ). times k f ls) (suc-add a b) ∙ times-add a b f (f ls)

module _ (F g : List Standing → List Standing) (ls : List Standing) (top : ℕ)
    (step : (L r : ℕ) → L < top → r < reached_by L ls → F (g (lifted L r ls)) ≡ g (lifted L (suc r) ls)) where
  -- within a level
  within : (L k r : ℕ) → L < top → r + k ≤ reached_by L ls → times k F (g (lifted L r ls)) ≡ g (lifted L (r + k) ls)
  unfolding times
  within L zero r t h = ap (λ (x : ℕ). g (lifted L x ls)) (sym (add-zero r))
  within L (suc k) r t h =
      ap (times k F) (step L r t (omega arith)) ∙ within L k (suc r) t (omega arith)
      ∙ ap (λ (x : ℕ). g (lifted L x ls)) (let e : suc r + k ≡ r + suc k = omega arith in e)

  -- up to a level
  up_to : (L : ℕ) → L ≤ top → times (lift_cost L ls) F (g ls) ≡ g (lifted L 0 ls)
  unfolding times
  up_to zero h = ap (λ (k : ℕ). times k F (g ls)) (cost-none ls) ∙ ap g (sym (at_none ls))
  up_to (suc L) h =
      ap (λ (k : ℕ). times k F (g ls)) (cost-next L ls) ∙ times-add (lift_cost L ls) (reached_by L ls) F (g ls)
      ∙ ap (times (reached_by L ls) F) (up_to L (omega arith)) ∙ within L (reached_by L ls) 0 h (omega arith)
      ∙ ap (λ (k : ℕ). g (lifted L k ls)) (zero-add (reached_by L ls)) ∙ ap g (all_up L ls)

  -- and some more
  pub by-levels : (L r : ℕ) → L ≤ top → (0 < r → L < top) → r ≤ reached_by L ls → times (lift_cost L ls + r) F (g ls) ≡ g (lifted L r ls)
  by-levels L zero h t c = ap (λ (k : ℕ). times k F (g ls)) (add-zero (lift_cost L ls)) ∙ up_to L h
  by-levels L (suc r) h t c =
      times-add (lift_cost L ls) (suc r) F (g ls) ∙ ap (times (suc r) F) (up_to L h)
      ∙ within L (suc r) 0 (t (omega arith)) (omega arith) ∙ ap (λ (k : ℕ). g (lifted L k ls)) (zero-add (suc r))

-- what lifts standings as the code does is the rule's minutes
pub lifts-given : (m : ℕ) (ls : List Standing) {out : List Standing} → Lifts m ls out → out ≡ times m give_minute ls
lifts-given m ls h =
    let L = h.level in
    let r = m - lift_cost L ls in
    let c = cost-next L ls in
    let e : lift_cost L ls + r ≡ m = omega (arith, h.paid) in
    h.is
    ∙ sym (by-levels give_minute (λ xs. xs) ls (suc L) (λ k q t. one-minute k q ls) L r (omega arith) (λ z. omega arith)
    (omega (arith, h.no-higher, h.paid)))
    ∙ ap (λ (k : ℕ). times k give_minute ls) e

-- ---- the loops

pub one-fewer : (r : ℕ) → r - 1 ≡ one_fewer r
one-fewer zero = refl
one-fewer (suc r) = omega arith

module _ (L s : ℕ) (l : Standing) where
  pub missing-pinned : l.pinned ≡ true → (s ≡ s + missing_to L l) × (s ≤ s + L)
  unfolding missing_to
  missing-pinned p = rw p (omega arith, omega arith)

  pub missing-free : l.pinned ≡ false → (s + (L - l.target) ≡ s + missing_to L l) × (s + (L - l.target) ≤ s + L)
  unfolding missing_to
  missing-free p = rw p (refl, omega arith)

module _ (L r : ℕ) (l : Standing) {b : Bool} (e : b ≡ reached L l) where
  pub standing_on : b ≡ true → {t : ℕ} → t ≡ on_level L r → retargeted t l ≡ lifted_standing L r l
  unfolding lifted_standing
  standing_on t h = rw (← e, t, h)

  pub standing-off : b ≡ false → l ≡ lifted_standing L r l
  unfolding lifted_standing
  standing-off f = rw (← e, f)

  pub left-on : b ≡ true → {n : ℕ} → n ≡ one_fewer r → n ≡ left_after L r l
  unfolding left_after
  left-on t h = rw (← e, t) h

  pub left-off : b ≡ false → r ≡ left_after L r l
  unfolding left_after
  left-off f = rw (← e, f)
