-- What edition 2 promises: who a minute goes to, no target below 0, pinned people keep theirs, and the level that missing minutes reach.
-- Assumes nothing.
use Rattle.std.proofs.Common.{◌≡◌, ℕ, zero, suc, ◌+◌, ◌-◌, ◌<◌, ◌≤◌, Bool, true, false, cond, not, leb, List, [], ◌∷◌, map, length, get_or, drop, set, ℤ, pos, sym, refl, ap, ◌∙◌, subst, suc-le-suc, le_of_suc-le-suc, not-suc-le-zero, zero-lt-suc, arith, le-ltb, lt-ltb, le-leb}
use lib.ListN.{get_or-map, get_or-append}
use Rattle.paper.proofs.Logic.{by-test, by_cond, and-true}
use Rattle.targets.specs.declared.Standing.{Standing}
use Rattle.targets.specs.Figures.{pad}
use Rattle.targets.specs.Passes.{some}
use Rattle.targets.specs.Remainder.{total_of, target_of}
use Rattle.targets.specs.SecondEdition.{unpinned, unpin, taking_part, retargeted, one_more, one_less, has_less, has_more}
use Rattle.targets.specs.SecondEdition.{is_smallest, is_largest, on_first, give_minute, take_minute, Smallest, LargestFirst}
use Rattle.targets.specs.SecondEdition.{times, handed_out, spread, shared_out}
use Rattle.targets.specs.Levels.{reached, lift_cost, on_level, lifted_standing, left_after, lifted, Levelled}
use Rattle.targets.specs.Outcome.{Given, demand_in, left_in, targets_in, compute_targets}
use Rattle.targets.specs.Inside.{Each}
use Rattle.targets.proofs.Each.{each_at, each_none, at_some}
use Rattle.targets.proofs.Sums.{added_up, total-is}
use Rattle.targets.proofs.LevelLaws.{first-here, first-later, reached-says, not-reached, lifts-given}
use Rattle.targets.proofs.SpreadLaws.{some_level, part-unpinned, part-most}
use Rattle.targets.proofs.Padding.{handed-length, taking-length, shared-length}
use Rattle.targets.proofs.Promises.{accepted-holds, left-small, left-zero, left-some}

-- ---- who a minute goes to

-- the first who passes is at k
first-at : (p : Standing → Bool) (f : Standing → Standing) (ls : List Standing) (k : ℕ) → k < length ls → p (get_or ls k pad) ≡ true
    → ((j : ℕ) → j < k → p (get_or ls j pad) ≡ false) → on_first p f ls ≡ set ls k (f (get_or ls k pad))
first-at p f [] k h t n = absurd (not-suc-le-zero h)
first-at p f (l ∷ ls) zero h t n = first-here p f l ls t
first-at p f (l ∷ ls) (suc k) h t n =
    first-later p f l ls (n 0 (zero-lt-suc k))
    ∙ ap (λ (xs : List Standing). l ∷ xs) (first-at p f ls k (le_of_suc-le-suc h) t (λ j b. n (suc j) (suc-le-suc b)))

-- a test that fails of everybody, place by place
none-at : (p : Standing → Bool) (ls : List Standing) → ((j : ℕ) → j < length ls → p (get_or ls j pad) ≡ false) → some p ls ≡ false
none-at p ls f = each_none p ls (go ls f)
  where
    go : (xs : List Standing) → ((j : ℕ) → j < length xs → p (get_or xs j pad) ≡ false) → Each (λ (l : Standing). p l ≡ false) xs
    go [] f = tt
    go (x ∷ xs) f = (f 0 (zero-lt-suc (length xs)), go xs (λ j b. f (suc j) (suc-le-suc b)))

pub minute-given : (ls : List Standing) (k : ℕ) → Smallest ls k → give_minute ls ≡ set ls k (one_more (get_or ls k pad))
unfolding give_minute is_smallest
minute-given ls k s =
    let t = (get_or ls k pad).target in
    first-at (is_smallest ls) one_more ls k s.here
    (rw (s.free, none-at (has_less t) ls (λ j h. by-test (get_or ls j pad).pinned _ (λ p. rw p) (λ p. rw (p, le-ltb _ _ (s.least j h p))))))
    (λ j h.
    by-test (get_or ls j pad).pinned _ (λ p. rw p)
    (λ p.
    rw (
      p,
      at_some (has_less (get_or ls j pad).target) ls k s.here
          (and-true _ _ (ap not s.free) (lt-ltb t (get_or ls j pad).target (s.first j h p))),
    )))

pub minute-taken : (ls : List Standing) (k : ℕ) → LargestFirst ls k → take_minute ls ≡ set ls k (one_less (get_or ls k pad))
unfolding take_minute is_largest
minute-taken ls k s =
    let t = (get_or ls k pad).target in
    first-at (is_largest ls) one_less ls k s.here
    (rw (s.free, none-at (has_more t) ls (λ j h. by-test (get_or ls j pad).pinned _ (λ p. rw p) (λ p. rw (p, le-ltb _ _ (s.most j h p))))))
    (λ j h.
    by-test (get_or ls j pad).pinned _ (λ p. rw p)
    (λ p.
    rw (
      p,
      at_some (has_more (get_or ls j pad).target) ls k s.here
          (and-true _ _ (ap not s.free) (lt-ltb (get_or ls j pad).target t (s.first j h p))),
    )))

-- ---- who is pinned keeps their standing

first-pinned : (p : Standing → Bool) (f : Standing → Standing) → ((l : Standing) → l.pinned ≡ true → p l ≡ false) →
    (ls : List Standing) (k : ℕ)
    → (get_or ls k pad).pinned ≡ true → get_or (on_first p f ls) k pad ≡ get_or ls k pad
first-pinned p f n [] k h = refl
first-pinned p f n (l ∷ ls) zero h = ap (λ (xs : List Standing). get_or xs 0 pad) (first-later p f l ls (n l h))
first-pinned p f n (l ∷ ls) (suc k) h =
    by-test (p l) _ (λ t. ap (λ (xs : List Standing). get_or xs (suc k) pad) (first-here p f l ls t))
    (λ t. ap (λ (xs : List Standing). get_or xs (suc k) pad) (first-later p f l ls t) ∙ first-pinned p f n ls k h)

times-pinned : (F : List Standing → List Standing) (k : ℕ) → ((ls : List Standing) → (get_or ls k pad).pinned ≡ true → get_or (F ls) k pad ≡
    get_or ls k pad)
    → (n : ℕ) (ls : List Standing) → (get_or ls k pad).pinned ≡ true → get_or (times n F ls) k pad ≡ get_or ls k pad
unfolding times
times-pinned F k f zero ls h = refl
times-pinned F k f (suc n) ls h =
    times-pinned F k f n (F ls) (ap (λ (l : Standing). l.pinned) (f ls h) ∙ h) ∙ f ls h

handed-pinned : (d : ℕ) (ls : List Standing) (k : ℕ) → (get_or ls k pad).pinned ≡ true → get_or (handed_out d ls) k pad ≡ get_or ls k pad
unfolding handed_out give_minute take_minute is_smallest is_largest
handed-pinned d ls k h =
    by_cond (leb (total_of ls) d) (times (d - total_of ls) give_minute ls) (times (total_of ls - d) take_minute ls)
    (λ (xs : List Standing). get_or xs k pad ≡ get_or ls k pad)
    (λ t. times-pinned give_minute k (λ xs. first-pinned (is_smallest xs) one_more (λ l p. rw p) xs k) (d - total_of ls) ls h)
    (λ t. times-pinned take_minute k (λ xs. first-pinned (is_largest xs) one_less (λ l p. rw p) xs k) (total_of ls - d) ls h)

taking-some : (ls : List Standing) → some unpinned ls ≡ true → taking_part ls ≡ ls
unfolding taking_part
taking-some ls e = ap (λ (b : Bool). cond b ls (map unpin ls)) e

-- ---- the level

levelled-one : (L r : ℕ) (l : Standing) → l.pinned ≡ false → Levelled L l.target (lifted_standing L r l).target
unfolding lifted_standing
levelled-one L r l p =
    by_cond (reached L l) (retargeted (on_level L r) l) l (λ (x : Standing). Levelled L l.target x.target)
    (λ t. record { lifts = λ h. on-level r; stays = λ h. absurd (omega (arith, h, (reached-says L l t).1)) })
    (λ e. record { lifts = λ h. absurd (omega (arith, h, not-reached L l e p)); stays = λ h. refl })
  where
    on-level : (k : ℕ) → (L ≤ on_level L k) × (on_level L k ≤ suc L)
    on-level zero = (omega arith, omega arith)
    on-level (suc k) = (omega arith, omega arith)

levelled-at : (L r : ℕ) (ls : List Standing) (k : ℕ) → k < length ls → (get_or ls k pad).pinned ≡ false
    → Levelled L (get_or ls k pad).target (get_or (lifted L r ls) k pad).target
levelled-at L r [] k h p = absurd (not-suc-le-zero h)
levelled-at L r (l ∷ ls) zero h p = levelled-one L r l p
levelled-at L r (l ∷ ls) (suc k) h p = levelled-at L (left_after L r l) ls k (le_of_suc-le-suc h) p

handed-levelled : (d : ℕ) (ls : List Standing) → some unpinned ls ≡ true → total_of ls ≤ d → (L : ℕ) × ((k : ℕ) → k < length ls
    → (get_or ls k pad).pinned ≡ false → Levelled L (get_or ls k pad).target (get_or (handed_out d ls) k pad).target)
unfolding handed_out
handed-levelled d ls e h =
    let l = (some_level (d - total_of ls) ls e).1 in
    let q = ap (λ (b : Bool). cond b (times (d - total_of ls) give_minute ls) (times (total_of ls - d) take_minute ls))
    (le-leb (total_of ls) d h) ∙ sym (lifts-given (d - total_of ls) ls l) ∙ l.is in (
      l.level,
      λ k b p. subst (λ (xs : List Standing). Levelled l.level (get_or ls k pad).target (get_or xs k pad).target) (sym q)
          (levelled-at l.level (d - total_of ls - lift_cost l.level ls) ls k b p),
    )

added-unpin : (ls : List Standing) → added_up (map unpin ls) ≡ added_up ls
added-unpin [] = refl
added-unpin (l ∷ ls) = ap (λ (k : ℕ). l.target + k) (added-unpin ls)

taking-total : (ls : List Standing) → total_of (taking_part ls) ≡ total_of ls
unfolding taking_part
taking-total ls =
    total-is (taking_part ls)
    ∙ by_cond (some unpinned ls) ls (map unpin ls) (λ (xs : List Standing). added_up xs ≡ added_up ls) (λ t. refl) (λ f. added-unpin ls)
    ∙ sym (total-is ls)

-- ---- of a call

pub second-edition : (g : Given) → g.edition ≡ 1 → targets_in g ≡ map target_of (handed_out (demand_in g) (taking_part (left_in g)))
unfolding shared_out spread
second-edition g e = ap (λ (n : ℕ). shared_out n (demand_in g) (left_in g)) e

module _ (g : Given) (out : List ℤ) (two : g.edition ≡ 1) (e : (compute_targets g out).number ≡ 0) where
  abbrev part : List Standing
  part = taking_part (left_in g)

  abbrev after : List Standing
  after = handed_out (demand_in g) part

  people-left : length (left_in g) ≡ g.people
  people-left = sym (shared-length g.edition (demand_in g) (left_in g)) ∙ (accepted-holds g out e).count

  abbrev held : ℕ → ℤ
  held k = get_or (compute_targets g out).out k (pos 0)

  held-is : (k : ℕ) → k < g.people → held k ≡ pos (get_or after k pad).target
  held-is k h =
      let H = accepted-holds g out e in
      ap (λ (o : List ℤ). get_or o k (pos 0)) H.is
      ∙ get_or-append (targets_in g) (drop g.people out) (pos 0) k (omega (arith, h, H.count))
      ∙ ap (λ (o : List ℤ). get_or o k (pos 0)) (second-edition g two) ∙ get_or-map target_of after k pad

  -- no target is below 0, and none above demand
  pub none_below : (k : ℕ) → k < g.people → (t : ℕ) × (held k ≡ pos t) × (t ≤ demand_in g)
  none_below k h = (
    (get_or after k pad).target,
    held-is k h,
    each_at (λ (l : Standing). l.target ≤ demand_in g) after k pad
        (part-most (demand_in g) (left_in g) (left-some g out e) (left-small g) (left-zero g))
        (omega (arith, h, handed-length (demand_in g) part, taking-length (left_in g), people-left)),
  )

  -- while anybody is unpinned, who is pinned keeps 0
  pub pinned-keeps : some unpinned (left_in g) ≡ true → (k : ℕ) → k < g.people → (get_or (left_in g) k pad).pinned ≡ true → held k ≡ pos 0
  pinned-keeps u k h p =
      let q = taking-some (left_in g) u in
      held-is k h
      ∙ ap (λ (xs : List Standing). pos (get_or (handed_out (demand_in g) xs) k pad).target) q
      ∙ ap (λ (l : Standing). pos l.target) (handed-pinned (demand_in g) (left_in g) k p)
      ∙ ap pos (each_at (λ (l : Standing). l.pinned ≡ true → l.target ≡ 0) (left_in g) k pad (left-zero g)
      (omega (arith, h, people-left)) p)

  -- where minutes are missing, there is a level: who takes part and stood at it or below is at it or one above, who stood higher stays
  pub level-reached : total_of (left_in g) ≤ demand_in g → (L : ℕ) × ((k : ℕ) → k < g.people → (get_or part k pad).pinned ≡ false
      → (t : ℕ) × (held k ≡ pos t) × Levelled L (get_or part k pad).target t)
  level-reached h =
      let v = handed-levelled (demand_in g) part (part-unpinned (demand_in g) (left_in g) (left-some g out e) (left-small g) (left-zero g))
      (omega (arith, h, taking-total (left_in g))) in
      (v.0, λ k b p. ((get_or after k pad).target, held-is k b, v.1 k (omega (arith, b, taking-length (left_in g), people-left)) p))
