-- Extra minutes are missing minutes in a mirror: a target t shows as 2 ^ 40 less t, and the largest as the smallest. Assumes nothing.
use Rattle.std.proofs.Common.{◌≡◌, ℕ, zero, suc, ◌+◌, ◌-◌, ◌<◌, ◌≤◌, Bool, cond, not, ◌&&◌, ◌||◌, ltb, List, [], ◌∷◌, map, sym, refl, ap, ◌∙◌, subst, ap₂, ⊎_elim, le_refl, arith, ltb-true, lt-ltb}
use Rattle.paper.proofs.Logic.{by-test, by_cond, same_test, lt-or-ge}
use Rattle.targets.specs.declared.Standing.{Standing}
use Rattle.targets.specs.Passes.{some}
use Rattle.targets.specs.SecondEdition.{unpinned, retargeted, one_more, one_less, has_less, has_more, is_smallest, is_largest, on_first}
use Rattle.targets.specs.SecondEdition.{give_minute, take_minute, times}
use Rattle.targets.specs.Levels.{reached, lift_cost, on_level, one_fewer, lifted_standing, left_after, lifted, Lifts}
use Rattle.targets.specs.Inside.{Each, SmallTarget, Small, highest, mirrored}
use Rattle.targets.proofs.Each.{each-then}
use Rattle.targets.proofs.LevelLaws.{first-here, first-later, is-reached, reached_by, cost-next, cost-grows, one-minute, by-levels}

-- ---- one minute

-- a test that holds of g l where another holds of l
some-map : (p q : Standing → Bool) (g : Standing → Standing) (ls : List Standing) → Each (λ (l : Standing). q (g l) ≡ p l) ls → some q
    (map g ls) ≡ some p ls
some-map p q g [] h = refl
some-map p q g (l ∷ ls) h = ap₂ (λ (a b : Bool). a || b) h.0 (some-map p q g ls h.1)

first-map : (p q : Standing → Bool) (f k g : Standing → Standing) → ((l : Standing) → k (g l) ≡ g (f l)) → (ls : List Standing)
    → Each (λ (l : Standing). q (g l) ≡ p l) ls → on_first q k (map g ls) ≡ map g (on_first p f ls)
first-map p q f k g e [] h = refl
first-map p q f k g e (l ∷ ls) h =
    by-test (p l) _
    (λ t.
    first-here q k (g l) (map g ls) (h.0 ∙ t) ∙ ap (λ (x : Standing). x ∷ map g ls) (e l) ∙ sym (ap (map g) (first-here p f l ls t)))
    (λ t.
    first-later q k (g l) (map g ls) (h.0 ∙ t) ∙ ap (λ (xs : List Standing). g l ∷ xs) (first-map p q f k g e ls h.1)
    ∙ sym (ap (map g) (first-later p f l ls t)))

-- the order is turned round
turned : (a b : ℕ) → a ≤ highest → b ≤ highest → ltb (highest - a) (highest - b) ≡ ltb b a
turned a b h k =
    same_test (ltb (highest - a) (highest - b)) (ltb b a)
    (λ t. lt-ltb b a (let g = ltb-true (highest - a) (highest - b) t in omega arith))
    (λ t. lt-ltb (highest - a) (highest - b) (let g = ltb-true b a t in omega arith))

largest-mirrored : (ls : List Standing) → Small ls → (l : Standing) → SmallTarget l → is_largest (map mirrored ls) (mirrored l) ≡
    is_smallest ls l
unfolding is_largest is_smallest
largest-mirrored ls s l h =
    ap (λ (b : Bool). unpinned l && not b)
    (some-map (has_less l.target) (has_more (highest - l.target)) mirrored ls
    (each-then SmallTarget (λ (k : Standing). has_more (highest - l.target) (mirrored k) ≡ has_less l.target k)
    (λ k i. ap (λ (b : Bool). unpinned k && b) (turned l.target k.target h i)) ls s))

take-mirrored : (ls : List Standing) → Small ls → take_minute (map mirrored ls) ≡ map mirrored (give_minute ls)
unfolding take_minute give_minute
take-mirrored ls s =
    first-map (is_smallest ls) (is_largest (map mirrored ls)) one_more one_less mirrored
    (λ l. ap (λ (t : ℕ). retargeted t l) (let e : highest - l.target - 1 ≡ highest - suc l.target = omega arith in e)) ls
    (each-then SmallTarget (λ (l : Standing). is_largest (map mirrored ls) (mirrored l) ≡ is_smallest ls l) (largest-mirrored ls s) ls s)

-- ---- sizes

lifted-standing-small : (L r : ℕ) (l : Standing) → on_level L r ≤ highest → SmallTarget l → SmallTarget (lifted_standing L r l)
unfolding lifted_standing
lifted-standing-small L r l h s = by_cond (reached L l) (retargeted (on_level L r) l) l SmallTarget (λ t. h) (λ e. s)

left-most : (L r : ℕ) (l : Standing) → left_after L r l ≤ r
unfolding left_after
left-most L r l = by_cond (reached L l) (one_fewer r) r (λ (k : ℕ). k ≤ r) (λ t. fewer r) (λ e. le_refl r)
  where
    fewer : (k : ℕ) → one_fewer k ≤ k
    fewer zero = le_refl 0
    fewer (suc k) = omega arith

-- up to the highest level, and one above a lower one
lifted-small : (L r : ℕ) (ls : List Standing) → L ≤ highest → (0 < r → L < highest) → Small ls → Small (lifted L r ls)
lifted-small L r [] h t s = tt
lifted-small L r (l ∷ ls) h t s = (
  lifted-standing-small L r l (on-level r t) s.0,
  lifted-small L (left_after L r l) ls h (λ z. t (omega (arith, z, left-most L r l))) s.1,
)
  where
    on-level : (k : ℕ) → (0 < k → L < highest) → on_level L k ≤ highest
    on-level zero g = h
    on-level (suc k) g = g (omega arith)

-- ---- all minutes

step-taken : (ls : List Standing) → Small ls → (L r : ℕ) → L < highest → r < reached_by L ls
    → take_minute (map mirrored (lifted L r ls)) ≡ map mirrored (lifted L (suc r) ls)
step-taken ls s L r h c =
    take-mirrored (lifted L r ls) (lifted-small L r ls (omega (arith, h)) (λ z. h) s) ∙ ap (map mirrored) (one-minute L r ls c)

-- the highest level reaches everybody
reached-one : (k : ℕ) (l : Standing) → SmallTarget l → reached (highest + k) l ≡ reached highest l
unfolding reached
reached-one k l s =
    by-test l.pinned _ (λ p. rw p) (λ p. is-reached (highest + k) l p (omega (arith, s)) ∙ sym (is-reached highest l p s))

reached-all : (k : ℕ) (ls : List Standing) → Small ls → reached_by (highest + k) ls ≡ reached_by highest ls
reached-all k [] s = refl
reached-all k (l ∷ ls) s =
    ap₂ (λ (a b : ℕ). a + b) (ap (λ (b : Bool). cond b 1 0) (reached-one k l s.0)) (reached-all k ls s.1)

module _ (m : ℕ) (ls : List Standing) {out : List Standing} (s : Small ls) (h : Lifts m ls out) (most : m ≤ lift_cost highest ls) where
  -- so the level is not above it, and at it nothing is left over
  not-above : (k : ℕ) → h.level ≡ highest + suc k → ⊥
  not-above k e =
      let a = cost-next h.level ls in
      let b = ap (λ (x : ℕ). reached_by x ls) e ∙ reached-all (suc k) ls s in
      let c = cost-next highest ls in
      let d = cost-grows ls (suc highest) k in
      let f = ap (λ (x : ℕ). lift_cost x ls) (let q : h.level ≡ suc highest + k = omega (arith, e) in q) in
      omega (arith, a, b, c, d, f, h.paid, h.no-higher, most)

  level-most : h.level ≤ highest
  level-most =
      ⊎_elim (λ (c : highest < h.level). absurd (not-above (h.level - suc highest) (omega (arith, c)))) (λ (c : h.level ≤ highest). c)
      (lt-or-ge highest h.level)

  abbrev over : ℕ
  over = m - lift_cost h.level ls

  level-less : 0 < over → h.level < highest
  level-less z =
      ⊎_elim (λ (c : h.level < highest). c)
      (λ (c : highest ≤ h.level).
      let e = ap (λ (x : ℕ). lift_cost x ls) (let q : h.level ≡ highest = omega (arith, c, level-most) in q) in
      absurd (omega (arith, e, z, most)))
      (lt-or-ge h.level highest)

  pub lifts-taken : map mirrored out ≡ times m take_minute (map mirrored ls)
  lifts-taken =
      let e : lift_cost h.level ls + over ≡ m = omega (arith, h.paid) in
      ap (map mirrored) h.is
      ∙ sym (by-levels take_minute (map mirrored) ls highest (step-taken ls s) h.level over level-most level-less
      (omega (arith, cost-next h.level ls, h.no-higher, h.paid)))
      ∙ ap (λ (k : ℕ). times k take_minute (map mirrored ls)) e

  pub lifts-small : Small out
  lifts-small = subst Small (sym h.is) (lifted-small h.level over ls level-most level-less s)
