-- A person's step and a pass, each by cases; and what every pass keeps, all passes keep. Assumes nothing.
use Rattle.std.proofs.lemmas.Option.{same_Some}
use Rattle.std.proofs.Common.{◌≡◌, ℕ, Some, subst, arith, zero, suc, Bool, true, false, not, ◌&&◌, List, map, sym, refl, true≢false}
use borrow.Author.Tests.{not-true}
use lib.Ieee.{Float, lt}
use Rattle.paper.proofs.Logic.{by_cond, both}
use Rattle.targets.specs.declared.Standing.{Standing}
use Rattle.targets.specs.Figures.{zero_f, whole}
use Rattle.targets.specs.Passes.{within, rounded, unrounded, settled, settle, outside, below_zero, some, share_sum, notional}
use Rattle.targets.specs.Passes.{Passed, again, done, refused, passed, pass, passes}
use Rattle.targets.specs.Inside.{left_of}

-- ---- one person

-- who is pinned stays as they are, who falls is pinned at 0, everybody else's target is rounded
pub by-settled : (x : Float) (l : Standing) (X : Standing → Type 0) → (l.pinned ≡ true → X l)
    → (l.pinned ≡ false → lt x zero_f ≡ true → X (record { person = l.person; raw = l.raw; target = 0; pinned = true }))
    → (l.pinned ≡ false → lt x zero_f ≡ false → X (record { person = l.person; raw = l.raw; target = rounded x; pinned = false }))
    → X (settled x l)
unfolding settled
by-settled x l X stays below_zero rounds =
    by_cond l.pinned l _ X stays (λ p. by_cond (lt x zero_f) _ _ X (below_zero p) (rounds p))

-- whether the guard is broken, of an unpinned person
module _ (n sum : Float) (l : Standing) where
  pub guard-kept : outside n sum l ≡ false → l.pinned ≡ false → within (unrounded n sum l) ≡ true
  guard-kept o p = go l.pinned (within (unrounded n sum l)) o p
    where
      go : (a w : Bool) → not a && not w ≡ false → a ≡ false → w ≡ true
      go true w o p = absurd (true≢false p)
      go false true o p = refl
      go false false o p = absurd (true≢false o)

  pub kept-guard : (l.pinned ≡ false → within (unrounded n sum l) ≡ true) → outside n sum l ≡ false
  kept-guard f = go l.pinned (within (unrounded n sum l)) f
    where
      go : (a w : Bool) → (a ≡ false → w ≡ true) → not a && not w ≡ false
      go true w f = refl
      go false true f = refl
      go false false f = sym (f refl)

  pub guard-broken : outside n sum l ≡ true → (l.pinned ≡ false) × (within (unrounded n sum l) ≡ false)
  guard-broken o =
      let x = both (not l.pinned) (not (within (unrounded n sum l))) o in
      (not-true l.pinned x.0, not-true (within (unrounded n sum l)) x.1)

-- ---- one pass

-- it stops where the sum is not above 0, is refused where somebody breaks the guard, and goes on if it pinned somebody
pub by-passed : (n sum : Float) (ls : List Standing) (X : Passed → Type 0) → (lt zero_f sum ≡ false → X (done ls))
    → (lt zero_f sum ≡ true → some (outside n sum) ls ≡ true → X refused)
    → (lt zero_f sum ≡ true → some (outside n sum) ls ≡ false → some (below_zero n sum) ls ≡ true → X (again (map (settle n sum) ls)))
    → (lt zero_f sum ≡ true → some (outside n sum) ls ≡ false → some (below_zero n sum) ls ≡ false → X (done (map (settle n sum) ls)))
    → X (passed n sum ls)
by-passed n sum ls X stops refuses more ends =
    by_cond (lt zero_f sum) _ (done ls) X
    (λ a. by_cond (some (outside n sum) ls) refused _ X (refuses a)
    (λ b. by_cond (some (below_zero n sum) ls) (again (map (settle n sum) ls)) (done (map (settle n sum) ls)) X (more a b) (ends a b)))
    stops

-- ---- all passes

-- what a pass over standings keeps
pub passes-keep : (X : Passed → Type 0) (demand : ℕ)
    → ((ls : List Standing) → X (again ls) → X (passed (whole (notional demand ls)) (share_sum ls) ls))
    → (k : ℕ) (p : Passed) → X p → X (passes k demand p)
unfolding passes pass
passes-keep X demand f zero p h = h
passes-keep X demand f (suc k) (again ls) h = passes-keep X demand f k (passed (whole (notional demand ls)) (share_sum ls) ls) (f ls h)
passes-keep X demand f (suc k) (done ls) h = passes-keep X demand f k (done ls) h
passes-keep X demand f (suc k) refused h = passes-keep X demand f k refused h

-- once none is due, none is
pub done-stays : (k d : ℕ) (ls : List Standing) → passes k d (done ls) ≡ done ls
unfolding passes pass
done-stays zero d ls = refl
done-stays (suc k) d ls = done-stays k d ls

pub refused-stays : (k d : ℕ) → passes k d refused ≡ refused
unfolding passes pass
refused-stays zero d = refl
refused-stays (suc k) d = refused-stays k d

-- what holds of the standings, if there are any
abbrev pub OfStandings : (List Standing → Type 0) → Passed → Type 0
OfStandings P (again ls) = P ls
OfStandings P (done ls) = P ls
OfStandings P refused = Unit

-- what settling keeps of standings none of which breaks the guard, the passes keep
pub standings-keep : (P : List Standing → Type 0)
    → ((n sum : Float) (ls : List Standing) → some (outside n sum) ls ≡ false → P ls → P (map (settle n sum) ls))
    → (k demand : ℕ) (p : Passed) → OfStandings P p → OfStandings P (passes k demand p)
standings-keep P f k demand =
    passes-keep (OfStandings P) demand
    (λ ls h.
    let n = whole (notional demand ls) in
    let sum = share_sum ls in
    by-passed n sum ls (OfStandings P) (λ a. h) (λ a b. tt) (λ a b c. f n sum ls b h) (λ a b c. f n sum ls b h))
    k

-- ---- what the passes leave

-- what holds of the standings, if there are any, holds of those that are left
pub left-have : (P : List Standing → Type 0) (p : Passed) {ls : List Standing} → Some ls ≡ left_of p → OfStandings P p → P ls
left-have P (again ms) {ls} e h = subst P (sym (same_Some ls ms e)) h
left-have P (done ms) {ls} e h = subst P (sym (same_Some ls ms e)) h
left-have P refused e h = absurd (grind arith)
