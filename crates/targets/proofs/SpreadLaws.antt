-- The targets of edition 2: there is a level for every number of minutes, and after them the targets add up to demand. Assumes nothing.
use Rattle.std.proofs.Common.{◌≡◌, ℕ, zero, suc, ◌+◌, ◌-◌, ◌*◌, ◌<◌, ◌≤◌, Bool, true, false, cond, ◌&&◌, ◌||◌, eqb, ltb, leb, ◌⊎◌, List, [], ◌∷◌, ◌++◌, map, length, take, drop, ℤ, pos, sym, refl, ap, ◌∙◌, subst, ap₂, inl, inr, ⊎_elim, true≢false, append-nil, zero-le, le_of_eq, le_refl, mul-suc, arith, drop_of_length-le, take_all, ltb-false, ltb-true, le-leb, leb-false, leb-true}
use mathlib.Core.List.{foldl}
use borrow.Author.Tests.{lt-leb, not-true}
use lib.ListN.{length-map}
use Rattle.paper.proofs.Logic.{by-test, by_cond, both, or_right, lt-or-ge}
use Rattle.targets.specs.declared.Standing.{Standing}
use Rattle.targets.specs.Passes.{some}
use Rattle.targets.specs.Remainder.{total_of, adjusted, sumℤ}
use Rattle.targets.specs.SecondEdition.{unpinned, unpin, taking_part, retargeted, give_minute, take_minute, times, handed_out}
use Rattle.targets.specs.SecondEdition.{spread, shared_out}
use Rattle.targets.specs.Levels.{reached, missing_to, lift_cost, left_after, lifted, Lifts}
use Rattle.targets.specs.Inside.{Each, SmallTarget, Small, PinnedZero, highest, mirrored, lower, smallest_of, taking_first}
use Rattle.targets.proofs.Each.{each-then}
use Rattle.targets.proofs.Sums.{added_up, total-is, as-signed, adds-up}
use Rattle.targets.proofs.LevelLaws.{reached-says, reached_by, lifted-on, lifted-off, count-on, count-off, cost-next, cost-none}
use Rattle.targets.proofs.LevelLaws.{lifts-given}
use Rattle.targets.proofs.Mirror.{lifts-taken, lifts-small}

-- ---- there is a level

-- one that costs more than m, if somebody is unpinned
too-high : (m : ℕ) (ls : List Standing) → some unpinned ls ≡ true → (top : ℕ) × (m < lift_cost top ls)
unfolding missing_to
too-high m [] e = absurd (true≢false (sym e))
too-high m (l ∷ ls) e =
    by-test (unpinned l) _
    (λ t. (
      l.target + suc m,
      (let c = ap (λ (p : Bool). cond p 0 (l.target + suc m - l.target)) (not-true l.pinned t) in omega (arith, c)),
    ))
    (λ t. let r = too-high m ls (or_right (unpinned l) (some unpinned ls) e t) in (r.0, omega (arith, r.1)))

find : (m : ℕ) (ls : List Standing) (top : ℕ) → m < lift_cost top ls → (out : List Standing) × Lifts m ls out
find m ls zero h = absurd (omega (arith, h, cost-none ls))
find m ls (suc k) h =
    ⊎_elim (λ (c : m < lift_cost k ls). find m ls k c)
    (λ (c : lift_cost k ls ≤ m). (
      lifted k (m - lift_cost k ls) ls,
      record { level = k; paid = c; no-higher = h; is = refl },
    ))
    (lt-or-ge m (lift_cost k ls))

pub some_level : (m : ℕ) (ls : List Standing) → some unpinned ls ≡ true → (out : List Standing) × Lifts m ls out
some_level m ls e = let t = too-high m ls e in find m ls t.0 t.1

-- ---- totals

missing-on : (L : ℕ) (l : Standing) → reached L l ≡ true → missing_to L l + l.target ≡ L
unfolding missing_to
missing-on L l t = let x = reached-says L l t in rw x.0 (omega (arith, x.1))

missing-off : (L : ℕ) (l : Standing) → reached L l ≡ false → missing_to L l ≡ 0
unfolding missing_to reached
missing-off L l e = by_cond l.pinned 0 (L - l.target) (λ (k : ℕ). k ≡ 0) (λ p. refl)
    (λ p. let h = leb-false l.target L (rw p at e) in omega arith)

pub lifted-total : (L r : ℕ) (ls : List Standing) → r ≤ reached_by L ls → added_up (lifted L r ls) ≡ added_up ls + (lift_cost L ls + r)
lifted-total L r [] h = omega arith
lifted-total L r (l ∷ ls) h =
    by-test (reached L l) _ (on r h (λ k. lifted-total L k ls))
    (λ e. ap added_up (lifted-off L r l ls e)
    ∙ omega (arith, missing-off L l e, lifted-total L r ls (omega (arith, h, count-off L l ls e))))
  where
    on : (k : ℕ) → k ≤ reached_by L (l ∷ ls)
        → ((q : ℕ) → q ≤ reached_by L ls → added_up (lifted L q ls) ≡ added_up ls + (lift_cost L ls + q))
        → reached L l ≡ true → added_up (lifted L k (l ∷ ls)) ≡ added_up (l ∷ ls) + (lift_cost L (l ∷ ls) + k)
    on zero g i t = ap added_up (lifted-on L 0 l ls t) ∙ omega (arith, missing-on L l t, i 0 zero-le)
    on (suc k) g i t =
        ap added_up (lifted-on L (suc k) l ls t) ∙ omega (arith, missing-on L l t, i k (omega (arith, g, count-on L l ls t)))

pub lifts-total : (m : ℕ) (ls : List Standing) {out : List Standing} → Lifts m ls out → added_up out ≡ added_up ls + m
lifts-total m ls h =
    let c = cost-next h.level ls in
    ap added_up h.is
    ∙ lifted-total h.level (m - lift_cost h.level ls) ls (omega (arith, c, h.paid, h.no-higher)) ∙ omega (arith, h.paid)

-- ---- the mirror

pub mirrored-twice : (ls : List Standing) → Small ls → map mirrored (map mirrored ls) ≡ ls
mirrored-twice [] s = refl
mirrored-twice (l ∷ ls) s =
    ap₂ (λ (x : Standing) (xs : List Standing). x ∷ xs)
    (ap (λ (t : ℕ). retargeted t l) (let e : highest - (highest - l.target) ≡ l.target = omega (arith, s.0) in e))
    (mirrored-twice ls s.1)

pub mirrored-small : (ls : List Standing) → Small (map mirrored ls)
mirrored-small [] = tt
mirrored-small (l ∷ ls) = (omega arith, mirrored-small ls)

mirrored-unpinned : (ls : List Standing) → some unpinned (map mirrored ls) ≡ some unpinned ls
mirrored-unpinned [] = refl
mirrored-unpinned (l ∷ ls) = ap (λ (b : Bool). unpinned l || b) (mirrored-unpinned ls)

mirrored-total : (ls : List Standing) → Small ls → added_up (map mirrored ls) + added_up ls ≡ highest * length ls
mirrored-total [] s = omega arith
mirrored-total (l ∷ ls) s = omega (arith, s.0, mirrored-total ls s.1, mul-suc highest (length ls))

-- the highest level takes every minute that somebody unpinned has
missing-mirrored : (l : Standing) → SmallTarget l → (l.pinned ≡ true → l.target ≡ 0) → missing_to highest (mirrored l) ≡ l.target
unfolding missing_to
missing-mirrored l s z =
    by_cond l.pinned 0 (highest - (highest - l.target)) (λ (k : ℕ). k ≡ l.target) (λ p. sym (z p)) (λ p. omega (arith, s))

mirrored-cost : (ls : List Standing) → Small ls → PinnedZero ls → lift_cost highest (map mirrored ls) ≡ added_up ls
mirrored-cost [] s z = refl
mirrored-cost (l ∷ ls) s z = ap₂ (λ (a b : ℕ). a + b) (missing-mirrored l s.0 z.0) (mirrored-cost ls s.1 z.1)

-- ---- lengths

lifted-length : (L r : ℕ) (ls : List Standing) → length (lifted L r ls) ≡ length ls
lifted-length L r [] = refl
lifted-length L r (l ∷ ls) = ap suc (lifted-length L (left_after L r l) ls)

lifts-length : (m : ℕ) (ls : List Standing) {out : List Standing} → Lifts m ls out → length out ≡ length ls
lifts-length m ls h = ap length h.is ∙ lifted-length h.level (m - lift_cost h.level ls) ls

-- ---- handing out, by levels

module _ (ls : List Standing) (s : Small ls) (z : PinnedZero ls) (m : ℕ) (h : m ≤ added_up ls) {out : List Standing}
    (l : Lifts m (map mirrored ls) out) where
  most : m ≤ lift_cost highest (map mirrored ls)
  most = omega (arith, h, mirrored-cost ls s z)

  pub taken_is : map mirrored out ≡ times m take_minute ls
  taken_is = lifts-taken m (map mirrored ls) (mirrored-small ls) l most ∙ ap (times m take_minute) (mirrored-twice ls s)

  taken-total : added_up (map mirrored out) + m ≡ added_up ls
  taken-total =
      let a = mirrored-total out (lifts-small m (map mirrored ls) (mirrored-small ls) l most) in
      let b = lifts-total m (map mirrored ls) l in
      let c = mirrored-total ls s in
      let n = ap (λ (k : ℕ). highest * k) (lifts-length m (map mirrored ls) l ∙ length-map ls mirrored) in
      omega (arith, a, b, c, n)

pub given-total : (m : ℕ) (ls : List Standing) → some unpinned ls ≡ true → added_up (times m give_minute ls) ≡ added_up ls + m
given-total m ls e =
    let l = (some_level m ls e).1 in
    ap added_up (sym (lifts-given m ls l)) ∙ lifts-total m ls l

pub taken-away : (m : ℕ) (ls : List Standing) → some unpinned ls ≡ true → Small ls → PinnedZero ls → m ≤ added_up ls
    → added_up (times m take_minute ls) + m ≡ added_up ls
taken-away m ls e s z h =
    let l = (some_level m (map mirrored ls) (mirrored-unpinned ls ∙ e)).1 in
    ap (λ (xs : List Standing). added_up xs + m) (sym (taken_is ls s z m h l)) ∙ taken-total ls s z m h l

-- the sum is demand
pub handed-total : (d : ℕ) (ls : List Standing) → some unpinned ls ≡ true → Small ls → PinnedZero ls → added_up (handed_out d ls) ≡ d
unfolding handed_out
handed-total d ls e s z =
    let t = total-is ls in
    by_cond (leb (total_of ls) d) (times (d - total_of ls) give_minute ls) (times (total_of ls - d) take_minute ls)
    (λ (xs : List Standing). added_up xs ≡ d)
    (λ b. let h = leb-true (total_of ls) d b in given-total (d - total_of ls) ls e ∙ omega (arith, t, h))
    (λ b.
    let h = leb-false (total_of ls) d b in
    let a = taken-away (total_of ls - d) ls e s z (omega (arith, t)) in
    omega (arith, t, h, a))

-- ---- the smallest target, from which the level is looked for

module _ (a : ℕ) (l : Standing) where
  by-lower : (X : ℕ → Type 0) → (l.pinned ≡ false → l.target < a → X l.target)
      → ((l.pinned ≡ false → a ≤ l.target) → X a) → X (lower a l)
  by-lower X less stays =
      by_cond (unpinned l && ltb l.target a) l.target a X
      (λ t.
      let x = both (unpinned l) (ltb l.target a) t in
      less (not-true l.pinned x.0) (ltb-true l.target a x.1))
      (λ f. stays (λ p. ltb-false l.target a (rw p at f)))

lowest-most : (a : ℕ) (ls : List Standing) → foldl lower a ls ≤ a
lowest-most a [] = le_refl a
lowest-most a (l ∷ ls) =
    by-lower a l (λ (x : ℕ). foldl lower x ls ≤ a) (λ p h. omega (arith, h, lowest-most l.target ls)) (λ f. lowest-most a ls)

missing-below : (L : ℕ) (l : Standing) → (l.pinned ≡ false → L ≤ l.target) → missing_to L l ≡ 0
unfolding missing_to
missing-below L l h =
    by_cond l.pinned 0 (L - l.target) (λ (k : ℕ). k ≡ 0) (λ p. refl) (λ p. let g = h p in omega arith)

missing-above : (k L : ℕ) (l : Standing) → l.pinned ≡ false → l.target ≤ L → k ≤ missing_to (L + k) l
unfolding missing_to
missing-above k L l p h = rw p (omega arith)

lowest-free : (a : ℕ) (ls : List Standing) → lift_cost (foldl lower a ls) ls ≡ 0
lowest-free a [] = refl
lowest-free a (l ∷ ls) =
    let r = foldl lower (lower a l) ls in
    let m = lowest-most (lower a l) ls in
    let h = by-lower a l (λ (x : ℕ). r ≤ x → l.pinned ≡ false → r ≤ l.target) (λ p t q u. q) (λ f q u. omega (arith, q, f u)) m in
    omega (arith, missing-below r l h, lowest-free (lower a l) ls)

-- it is somebody's, or where the search began
lowest-own : (m a : ℕ) (ls : List Standing) → (foldl lower a ls ≡ a) ⊎ (m < lift_cost (foldl lower a ls + suc m) ls)
lowest-own m a [] = inl refl
lowest-own m a (l ∷ ls) =
    let r = foldl lower (lower a l) ls in
    ⊎_elim
    (λ e. by-lower a l (λ (x : ℕ). r ≡ x → (r ≡ a) ⊎ (m < missing_to (r + suc m) l + lift_cost (r + suc m) ls))
    (λ p t q. inr (omega (arith, missing-above (suc m) r l p (omega (arith, q))))) (λ f q. inl q) e)
    (λ h. inr (omega (arith, h)))
    (lowest-own m (lower a l) ls)

highest-own : (m : ℕ) (ls : List Standing) → Small ls → some unpinned ls ≡ true → m < lift_cost (highest + suc m) ls
highest-own m [] s e = absurd (true≢false (sym e))
highest-own m (l ∷ ls) s e =
    by-test (unpinned l) _
    (λ t. omega (arith, missing-above (suc m) highest l (not-true l.pinned t) s.0))
    (λ t. omega (arith, highest-own m ls s.1 (or_right (unpinned l) (some unpinned ls) e t)))

-- m + 1 above it costs more than m
pub smallest-rises : (m : ℕ) (ls : List Standing) → Small ls → some unpinned ls ≡ true → m < lift_cost (smallest_of ls + suc m) ls
smallest-rises m ls s e =
    ⊎_elim (λ q. subst (λ (x : ℕ). m < lift_cost (x + suc m) ls) (sym q) (highest-own m ls s e)) (λ h. h) (lowest-own m highest ls)

pub smallest-free : (ls : List Standing) → lift_cost (smallest_of ls) ls ≡ 0
smallest-free ls = lowest-free highest ls

-- ---- who takes part

pub unpinned-first : (n : ℕ) (ls : List Standing) → 0 < n → n ≤ length ls → some unpinned (taking_first n ls) ≡ true
unpinned-first n ls h k =
    by_cond (some unpinned ls) ls (take n (map unpin ls) ++ drop n ls) (λ (xs : List Standing). some unpinned xs ≡ true) (λ t. t)
    (λ f. go n ls h k)
  where
    go : (n : ℕ) (ls : List Standing) → 0 < n → n ≤ length ls → some unpinned (take n (map unpin ls) ++ drop n ls) ≡ true
    go zero ls h k = absurd (omega arith)
    go (suc n) [] h k = absurd (omega arith)
    go (suc n) (l ∷ ls) h k = refl

each_first : (P : Standing → Type 0) → ((l : Standing) → P l → P (unpin l)) → (n : ℕ) (ls : List Standing) → Each P ls → Each P
    (taking_first n ls)
each_first P f n ls h =
    by_cond (some unpinned ls) ls (take n (map unpin ls) ++ drop n ls) (Each P) (λ t. h) (λ e. go n ls h)
  where
    go : (n : ℕ) (ls : List Standing) → Each P ls → Each P (take n (map unpin ls) ++ drop n ls)
    go zero ls h = h
    go (suc n) [] h = tt
    go (suc n) (l ∷ ls) h = (f l h.0, go n ls h.1)

pub small-first : (n : ℕ) (ls : List Standing) → Small ls → Small (taking_first n ls)
small-first = each_first SmallTarget (λ l h. h)

pub zero-first : (n : ℕ) (ls : List Standing) → PinnedZero ls → PinnedZero (taking_first n ls)
zero-first = each_first (λ (l : Standing). l.pinned ≡ true → l.target ≡ 0) (λ l h e. absurd (true≢false (sym e)))

-- of people alone
pub taking-is : (ls : List Standing) → taking_part ls ≡ taking_first (length ls) ls
unfolding taking_part
taking-is ls =
    ap (λ (xs : List Standing). cond (some unpinned ls) ls xs)
    (sym (ap₂ (λ (xs ys : List Standing). xs ++ ys) (take_all (length ls) (map unpin ls) (le_of_eq (length-map ls unpin)))
    (drop_of_length-le ls (le_refl (length ls))) ∙ append-nil (map unpin ls)))

-- ---- the targets add up to demand, in each edition

-- a target is at most the sum
each-most : (b : ℕ) (ls : List Standing) → added_up ls ≤ b → Each (λ (l : Standing). l.target ≤ b) ls
each-most b [] h = tt
each-most b (l ∷ ls) h = (omega (arith, h), each-most b ls (omega (arith, h)))

pub handed-most : (d : ℕ) (ls : List Standing) → some unpinned ls ≡ true → Small ls → PinnedZero ls
    → Each (λ (l : Standing). l.target ≤ d) (handed_out d ls)
handed-most d ls e s z = each-most d (handed_out d ls) (le_of_eq (handed-total d ls e s z))

module _ (d : ℕ) (ls : List Standing) (some-people : 0 < length ls) (s : Small ls) (z : PinnedZero ls) where
  pub part-unpinned : some unpinned (taking_part ls) ≡ true
  part-unpinned = rw (taking-is ls) (unpinned-first (length ls) ls some-people (le_refl (length ls)))

  part_small : Small (taking_part ls)
  part_small = rw (taking-is ls) (small-first (length ls) ls s)

  part-zero : PinnedZero (taking_part ls)
  part-zero = rw (taking-is ls) (zero-first (length ls) ls z)

  pub spread-adds-up : sumℤ (spread d ls) ≡ pos d
  unfolding spread
  spread-adds-up =
      sym (as-signed (handed_out d (taking_part ls))) ∙ ap pos (handed-total d (taking_part ls) part-unpinned part_small part-zero)

  pub shared-adds-up : (e : ℕ) → sumℤ (shared_out e d ls) ≡ pos d
  unfolding shared_out
  shared-adds-up e =
      by_cond (eqb e 1) (spread d ls) (adjusted d ls) (λ (zs : List ℤ). sumℤ zs ≡ pos d) (λ t. spread-adds-up)
      (λ f. adds-up d ls some-people)

  pub part-most : Each (λ (l : Standing). l.target ≤ d) (handed_out d (taking_part ls))
  part-most = handed-most d (taking_part ls) part-unpinned part_small part-zero

-- ---- by what the calls give

-- where the level is looked for
pub level-start : (m : ℕ) (ls : List Standing) {low : ℕ} → low ≡ smallest_of ls → Small ls → some unpinned ls ≡ true
    → (lift_cost low ls ≤ m) × (m < lift_cost (low + m + 1) ls)
level-start m ls {low} e s u =
    let a = ap (λ (x : ℕ). lift_cost x ls) e in
    let b = ap (λ (x : ℕ). lift_cost x ls) (let q : low + m + 1 ≡ smallest_of ls + suc m = omega (arith, e) in q) in
    (omega (arith, a, smallest-free ls), omega (arith, b, smallest-rises m ls s u))

pub handed-given : (d : ℕ) (ls : List Standing) {t : ℕ} {out : List Standing} → t ≡ total_of ls → t ≤ d → Lifts (d - t) ls out → out ≡
    handed_out d ls
unfolding handed_out
handed-given d ls {t} e h l = lifts-given (d - t) ls l ∙ rw (← e, le-leb t d h)

module _ (d : ℕ) (ls : List Standing) (s : Small ls) (z : PinnedZero ls) {t : ℕ} (e : t ≡ total_of ls) (h : d < t)
    {shown out : List Standing}
    (m : shown ≡ map mirrored ls) (l : Lifts (t - d) shown out) where
  seen : Lifts (t - d) (map mirrored ls) out
  seen = subst (λ (xs : List Standing). Lifts (t - d) xs out) m l

  not_more : t - d ≤ added_up ls
  not_more = omega (arith, e, total-is ls)

  pub handed-taken : {after : List Standing} → after ≡ map mirrored out → after ≡ handed_out d ls
  unfolding handed_out
  handed-taken a = a ∙ taken_is ls s z (t - d) not_more seen ∙ rw (← e, lt-leb t d h)

  pub taken-small : Small out
  taken-small = lifts-small (t - d) (map mirrored ls) (mirrored-small ls) seen (omega (arith, not_more, mirrored-cost ls s z))

pub shown-unpinned : (ls : List Standing) → some unpinned ls ≡ true → {shown : List Standing} → shown ≡ map mirrored ls → some
    unpinned shown ≡ true
shown-unpinned ls e m = ap (some unpinned) m ∙ mirrored-unpinned ls ∙ e

pub shown-small : (ls : List Standing) {shown : List Standing} → shown ≡ map mirrored ls → Small shown
shown-small ls m = subst Small (sym m) (mirrored-small ls)

-- who takes part, of standings that fill an array
module _ (n : ℕ) (ls : List Standing) (h : 0 < n) (k : n ≤ length ls) (s : Small ls) (z : PinnedZero ls) {part : List Standing}
    (e : part ≡ taking_first n ls) where
  pub part-ready : Small part × PinnedZero part × (some unpinned part ≡ true)
  part-ready =
      subst (λ (xs : List Standing). Small xs × PinnedZero xs × (some unpinned xs ≡ true)) (sym e)
      (small-first n ls s, zero-first n ls z, unpinned-first n ls h k)

  pub after_small : (d : ℕ) → d ≤ highest → {after : List Standing} → after ≡ handed_out d part → Small after
  after_small d l a =
      let r = part-ready in
      subst Small (sym a)
      (each-then (λ (x : Standing). x.target ≤ d) SmallTarget (λ x q. omega (arith, q, l)) (handed_out d part)
      (handed-most d part r.2 r.0 r.1))
