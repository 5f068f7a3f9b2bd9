-- Lines that take no part change nothing: the targets of the people are those of the people alone. Assumes nothing.
use Rattle.std.proofs.lemmas.Option.{same_Some}
use Rattle.std.proofs.Common.{◌≡◌, Some, None, ℕ, zero, suc, ◌+◌, ◌-◌, ◌<◌, Bool, true, false, cond, not, ◌&&◌, ◌||◌, eqb, leb, List, [], ◌∷◌, ◌++◌, map, length, get_or, take, replicate, ℤ, pos, ◌+ℤ◌, ◌-ℤ◌, sym, refl, ap, ◌∙◌, ap₂, true≢false, add-zero, add-one, arith, length-set, take_at, drop_at}
use mathlib.Core.List.{foldl, foldl-append}
use lib.Ieee.{Float, lt}
use lib.ListN.{length-map, get_or-append}
use lib.Seq.{set-append_left}
use Rattle.paper.proofs.Logic.{by-test, by_cond}
use Rattle.targets.specs.declared.Standing.{Standing}
use Rattle.targets.specs.declared.Best.{Best}
use Rattle.targets.specs.Figures.{zero_f, whole, pad}
use Rattle.targets.specs.Passes.{settled, settle, outside, below_zero, some, with_share, share_sum, with_prior, notional}
use Rattle.targets.specs.Passes.{Passed, again, done, refused, passed, pass, passes, passes_leave, standings_left, guarded}
use Rattle.targets.specs.Remainder.{with_target, total_of, better, best, taker_of, target_of, adjusted}
use Rattle.targets.specs.SecondEdition.{unpinned, unpin, taking_part, one_more, one_less, has_less, has_more, is_smallest, is_largest, on_first}
use Rattle.targets.specs.SecondEdition.{give_minute, take_minute, times, handed_out, spread, shared_out}
use Rattle.targets.specs.Inside.{targets_left, taking_first, shared_first}
use Rattle.targets.proofs.Cases.{OfStandings, standings-keep}
use Rattle.targets.proofs.Taker.{taker-here}
use Rattle.targets.proofs.LevelLaws.{first-here, first-later}

-- ---- folds, searches and maps

module _ {A : Type 0} (f : A → Standing → A) (still : (a : A) → f a pad ≡ a) where
  fold-pads : (m : ℕ) (a : A) → foldl f a (replicate m pad) ≡ a
  fold-pads zero a = refl
  fold-pads (suc m) a = ap (λ (x : A). foldl f x (replicate m pad)) (still a) ∙ fold-pads m a

  fold-padded : (m : ℕ) (a : A) (ls : List Standing) → foldl f a (ls ++ replicate m pad) ≡ foldl f a ls
  fold-padded m a ls = foldl-append f a ls (replicate m pad) ∙ fold-pads m (foldl f a ls)

some-padded : (p : Standing → Bool) → p pad ≡ false → (m : ℕ) (ls : List Standing) → some p (ls ++ replicate m pad) ≡ some p ls
some-padded p e zero [] = refl
some-padded p e (suc m) [] = ap (λ (b : Bool). b || some p (replicate m pad)) e ∙ some-padded p e m []
some-padded p e m (l ∷ ls) = ap (λ (b : Bool). p l || b) (some-padded p e m ls)

map-padded : {B : Type 0} (g : Standing → B) (m : ℕ) (b : B) → g pad ≡ b → (ls : List Standing)
    → map g (ls ++ replicate m pad) ≡ map g ls ++ replicate m b
map-padded {B = B} g zero b e [] = refl
map-padded {B = B} g (suc m) b e [] = ap₂ (λ (x : B) (xs : List B). x ∷ xs) e (map-padded g m b e [])
map-padded {B = B} g m b e (l ∷ ls) = ap (λ (xs : List B). g l ∷ xs) (map-padded g m b e ls)

-- ---- the passes

abbrev pad_p : ℕ → Passed → Passed
pad_p m (again ls) = again (ls ++ replicate m pad)
pad_p m (done ls) = done (ls ++ replicate m pad)
pad_p m refused = refused

settle-pad : (n s : Float) → settle n s pad ≡ pad
unfolding settled
settle-pad n s = refl

passed-padded : (m : ℕ) (n s : Float) (ls : List Standing) → passed n s (ls ++ replicate m pad) ≡ pad_p m (passed n s ls)
passed-padded m n s ls =
    rw (some-padded (outside n s) refl m ls, some-padded (below_zero n s) refl m ls, map-padded (settle n s) m pad (settle-pad n s) ls)
    (go (lt zero_f s) (some (outside n s) ls) (some (below_zero n s) ls))
  where
    new : List Standing
    new = map (settle n s) ls

    pads : List Standing
    pads = replicate m pad

    go : (a b c : Bool) → cond a (cond b refused (cond c (again (new ++ pads)) (done (new ++ pads)))) (done (ls ++ pads))
        ≡ pad_p m (cond a (cond b refused (cond c (again new) (done new))) (done ls))
    go false b c = refl
    go true true c = refl
    go true false true = refl
    go true false false = refl

pass-padded : (m d : ℕ) (p : Passed) → pass d (pad_p m p) ≡ pad_p m (pass d p)
unfolding pass
pass-padded m d (again ls) =
    rw (fold-padded with_prior (λ a. refl) m d ls, fold-padded with_share (λ a. refl) m zero_f ls)
    (passed-padded m (whole (notional d ls)) (share_sum ls) ls)
pass-padded m d (done ls) = refl
pass-padded m d refused = refl

passes-padded : (k m d : ℕ) (p : Passed) → passes k d (pad_p m p) ≡ pad_p m (passes k d p)
unfolding passes
passes-padded zero m d p = refl
passes-padded (suc k) m d p = ap (λ (q : Passed). passes k d q) (pass-padded m d p) ∙ passes-padded k m d (pass d p)

-- ---- the remainder

best-pads : (m : ℕ) (b : Best) → (foldl better b (replicate m pad)).at ≡ b.at
best-pads zero b = refl
best-pads (suc m) b = best-pads m (better b pad)

taker-padded : (m : ℕ) (ls : List Standing) → taker_of (ls ++ replicate m pad) ≡ taker_of ls
taker-padded m ls =
    ap (λ (b : Best). b.at) (foldl-append better (record { at = 0; top = 0; next = 0 }) ls (replicate m pad))
    ∙ best-pads m (best ls)

adjusted-padded : (m d : ℕ) (ls : List Standing) → 0 < length ls
    → adjusted d (ls ++ replicate m pad) ≡ adjusted d ls ++ replicate m (pos 0)
unfolding adjusted
adjusted-padded m d ls h =
    let k = taker_of ls in
    let K : k < length ls = taker-here ls h in
    rw (
      taker-padded m ls,
      map-padded target_of m (pos 0) refl ls,
      get_or-append ls (replicate m pad) pad k,
      fold-padded with_target none m 0 ls,
    )
    (set-append_left (map target_of ls) (replicate m (pos 0)) k (pos (get_or ls k pad).target +ℤ (pos d -ℤ pos (total_of ls)))
    (rw (length-map ls target_of) K))
  where
    none : (a : ℕ) → with_target a pad ≡ a
    none a = add-zero a

-- ---- edition 2's minutes

either : {A : Type 0} (b : Bool) (xs ys zs : List A) → cond b (xs ++ zs) (ys ++ zs) ≡ cond b xs ys ++ zs
either true xs ys zs = refl
either false xs ys zs = refl

first-padded : (p q : Standing → Bool) (f : Standing → Standing) → ((l : Standing) → q l ≡ p l) → p pad ≡ false → (m : ℕ)
    (ls : List Standing)
    → on_first q f (ls ++ replicate m pad) ≡ on_first p f ls ++ replicate m pad
first-padded p q f e n zero [] = refl
first-padded p q f e n (suc m) [] =
    first-later q f pad (replicate m pad) (e pad ∙ n) ∙ ap (λ (xs : List Standing). pad ∷ xs) (first-padded p q f e n m [])
first-padded p q f e n m (l ∷ ls) =
    by-test (p l) _
    (λ t.
    first-here q f l (ls ++ replicate m pad) (e l ∙ t) ∙ sym (ap (λ (xs : List Standing). xs ++ replicate m pad) (first-here p f l ls t)))
    (λ t.
    first-later q f l (ls ++ replicate m pad) (e l ∙ t) ∙ ap (λ (xs : List Standing). l ∷ xs) (first-padded p q f e n m ls)
    ∙ sym (ap (λ (xs : List Standing). xs ++ replicate m pad) (first-later p f l ls t)))

give-padded : (m : ℕ) (ls : List Standing) → give_minute (ls ++ replicate m pad) ≡ give_minute ls ++ replicate m pad
unfolding give_minute is_smallest
give-padded m ls =
    first-padded (is_smallest ls) (is_smallest (ls ++ replicate m pad)) one_more
    (λ l. ap (λ (b : Bool). unpinned l && not b) (some-padded (has_less l.target) refl m ls)) refl m ls

take-padded : (m : ℕ) (ls : List Standing) → take_minute (ls ++ replicate m pad) ≡ take_minute ls ++ replicate m pad
unfolding take_minute is_largest
take-padded m ls =
    first-padded (is_largest ls) (is_largest (ls ++ replicate m pad)) one_less
    (λ l. ap (λ (b : Bool). unpinned l && not b) (some-padded (has_more l.target) refl m ls)) refl m ls

times-padded : (F : List Standing → List Standing) (m : ℕ) → ((ls : List Standing) → F (ls ++ replicate m pad) ≡ F ls ++ replicate m pad)
    → (k : ℕ) (ls : List Standing) → times k F (ls ++ replicate m pad) ≡ times k F ls ++ replicate m pad
unfolding times
times-padded F m e zero ls = refl
times-padded F m e (suc k) ls = ap (times k F) (e ls) ∙ times-padded F m e k (F ls)

handed-padded : (m d : ℕ) (ls : List Standing) → handed_out d (ls ++ replicate m pad) ≡ handed_out d ls ++ replicate m pad
unfolding handed_out
handed-padded m d ls =
    rw (
      fold-padded with_target add-zero m 0 ls,
      times-padded give_minute m (give-padded m) (d - total_of ls) ls,
      times-padded take_minute m (take-padded m) (total_of ls - d) ls,
    )
    (either (leb (total_of ls) d) (times (d - total_of ls) give_minute ls) (times (total_of ls - d) take_minute ls) (replicate m pad))

taking-padded : (m : ℕ) (ls : List Standing) → taking_first (length ls) (ls ++ replicate m pad) ≡ taking_part ls ++ replicate m pad
unfolding taking_part
taking-padded m ls =
    rw (
      some-padded unpinned refl m ls,
      map-padded unpin m (unpin pad) refl ls,
      take_at (map unpin ls) (replicate m (unpin pad)) (length ls) (length-map ls unpin),
      drop_at ls (replicate m pad) (length ls) refl,
    )
    (either (some unpinned ls) ls (map unpin ls) (replicate m pad))

shared-padded : (e n m d : ℕ) (ls : List Standing) → length ls ≡ n → 0 < length ls
    → shared_first e n d (ls ++ replicate m pad) ≡ shared_out e d ls ++ replicate m (pos 0)
unfolding shared_out spread
shared-padded e n m d ls N h =
    rw (
      ← N,
      taking-padded m ls,
      handed-padded m d (taking_part ls),
      map-padded target_of m (pos 0) refl (handed_out d (taking_part ls)),
      adjusted-padded m d ls h,
    )
    (either (eqb e 1) (map target_of (handed_out d (taking_part ls))) (adjusted d ls) (replicate m (pos 0)))

-- ---- the passes keep the people

abbrev pub Len : ℕ → Passed → Type 0
Len n = OfStandings (λ (ls : List Standing). length ls ≡ n)

pub len-passes : (n k demand : ℕ) (p : Passed) → Len n p → Len n (passes k demand p)
len-passes n = standings-keep (λ (ls : List Standing). length ls ≡ n) (λ a sum ls o h. length-map ls (settle a sum) ∙ h)

pub adjusted-length : (d : ℕ) (ls : List Standing) → length (adjusted d ls) ≡ length ls
unfolding adjusted
adjusted-length d ls = simp (length-set, length-map)

first-length : (p : Standing → Bool) (f : Standing → Standing) (ls : List Standing) → length (on_first p f ls) ≡ length ls
first-length p f [] = refl
first-length p f (l ∷ ls) =
    by_cond (p l) (f l ∷ ls) (l ∷ on_first p f ls) (λ (xs : List Standing). length xs ≡ suc (length ls)) (λ t. refl)
    (λ t. ap suc (first-length p f ls))

times-length : (F : List Standing → List Standing) → ((ls : List Standing) → length (F ls) ≡ length ls) → (k : ℕ) (ls : List Standing)
    → length (times k F ls) ≡ length ls
unfolding times
times-length F e zero ls = refl
times-length F e (suc k) ls = times-length F e k (F ls) ∙ e ls

pub handed-length : (d : ℕ) (ls : List Standing) → length (handed_out d ls) ≡ length ls
unfolding handed_out give_minute take_minute
handed-length d ls =
    by_cond (leb (total_of ls) d) (times (d - total_of ls) give_minute ls) (times (total_of ls - d) take_minute ls)
    (λ (xs : List Standing). length xs ≡ length ls)
    (λ t. times-length give_minute (λ xs. first-length (is_smallest xs) one_more xs) (d - total_of ls) ls)
    (λ t. times-length take_minute (λ xs. first-length (is_largest xs) one_less xs) (total_of ls - d) ls)

pub taking-length : (ls : List Standing) → length (taking_part ls) ≡ length ls
unfolding taking_part
taking-length ls =
    by_cond (some unpinned ls) ls (map unpin ls) (λ (xs : List Standing). length xs ≡ length ls) (λ t. refl) (λ t. length-map ls unpin)

pub shared-length : (e d : ℕ) (ls : List Standing) → length (shared_out e d ls) ≡ length ls
unfolding shared_out spread
shared-length e d ls =
    by_cond (eqb e 1) (map target_of (handed_out d (taking_part ls))) (adjusted d ls) (λ (zs : List ℤ). length zs ≡ length ls)
    (λ t. length-map (handed_out d (taking_part ls)) target_of ∙ handed-length d (taking_part ls) ∙ taking-length ls)
    (λ t. adjusted-length d ls)

-- as many standings are left as there were people, if any are
len-left : (n : ℕ) (p : Passed) → Len n p → guarded p ≡ true → length (standings_left p) ≡ n
len-left n (again ls) h e = h
len-left n (done ls) h e = h
len-left n refused h e = absurd (true≢false (sym e))

pub left-count : (n d : ℕ) (ls : List Standing) → length ls ≡ n → guarded (passes_leave d ls) ≡ true → length
    (standings_left (passes_leave d ls)) ≡ n
left-count n d ls N = len-left n (passes_leave d ls) (len-passes n (suc (length ls)) d (again ls) N)

-- ---- from the answer for the padded standings to the targets of the people

guarded-padded : (m : ℕ) (p : Passed) → guarded (pad_p m p) ≡ guarded p
guarded-padded m (again ls) = refl
guarded-padded m (done ls) = refl
guarded-padded m refused = refl

left-padded : (m : ℕ) (p : Passed) → guarded p ≡ true → standings_left (pad_p m p) ≡ standings_left p ++ replicate m pad
left-padded m (again ls) e = refl
left-padded m (done ls) e = refl
left-padded m refused e = absurd (true≢false (sym e))

-- no targets are left, or these
none-left : (e n d : ℕ) (p : Passed) → None ≡ targets_left e n d p → guarded p ≡ false
none-left e n d (again ls) q = absurd (grind arith)
none-left e n d (done ls) q = absurd (grind arith)
none-left e n d refused q = refl

some-left : (e n d : ℕ) (p : Passed) {ts : List ℤ} → Some ts ≡ targets_left e n d p
    → (guarded p ≡ true) × (ts ≡ shared_first e n d (standings_left p))
some-left e n d (again ls) q = (refl, same_Some _ _ q)
some-left e n d (done ls) q = (refl, same_Some _ _ q)
some-left e n d refused q = absurd (grind arith)

module _ (e n m d : ℕ) (ls : List Standing) (N : length ls ≡ n) where
  abbrev after : Passed
  after = passes (n + 1) d (again (ls ++ replicate m pad))

  same : after ≡ pad_p m (passes_leave d ls)
  same =
      passes-padded (n + 1) m d (again ls)
      ∙ ap (λ (k : ℕ). pad_p m (passes k d (again ls))) (add-one n ∙ ap suc (sym N))

  same-guard : guarded after ≡ guarded (passes_leave d ls)
  same-guard = ap guarded same ∙ guarded-padded m (passes_leave d ls)

  pub none-unguarded : None ≡ targets_left e n d after → guarded (passes_leave d ls) ≡ false
  none-unguarded A = sym same-guard ∙ none-left e n d after A

  module _ {ts : List ℤ} (A : Some ts ≡ targets_left e n d after) where
    pub some-guarded : guarded (passes_leave d ls) ≡ true
    some-guarded = sym same-guard ∙ (some-left e n d after A).0

    pub some-targets : 0 < n → take n ts ≡ shared_out e d (standings_left (passes_leave d ls))
    some-targets P =
        let left = standings_left (passes_leave d ls) in
        let L = left-count n d ls N some-guarded in
        ap (take n)
        ((some-left e n d after A).1 ∙ ap (λ (p : Passed). shared_first e n d (standings_left p)) same ∙ ap (shared_first e n d)
        (left-padded m (passes_leave d ls) some-guarded)
        ∙ shared-padded e n m d left L (omega (arith, L)))
        ∙ take_at (shared_out e d left) (replicate m (pos 0)) n (shared-length e d left ∙ L)
