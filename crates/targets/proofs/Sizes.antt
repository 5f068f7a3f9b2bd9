-- Every target stays at most 2 ^ 40, through all passes. Assumes nothing.
use Rattle.std.proofs.Common.{◌≡◌, ℕ, ◌+◌, ◌*◌, ◌/◌, ◌<◌, ◌≤◌, true, false, List, [], ◌++◌, map, replicate, sym, refl, ◌∙◌, true≢false, zero-le, le_of_suc-le-suc, div-lt_iff_lt-mul, arith}
use lib.Ieee.{Float, nan, inf, fin, up, down}
use lib.Ieee.Fits.{down_pos}
use Rattle.targets.specs.declared.Standing.{Standing}
use Rattle.targets.specs.Figures.{up_to, pad}
use Rattle.targets.specs.Passes.{rounded, within, unrounded, settled, settle, outside, some, Passed, again, done, refused, passes, standings_left}
use Rattle.targets.specs.Inside.{SmallTarget, Small, PinnedZero}
use Rattle.targets.proofs.Nearest.{under}
use Rattle.targets.proofs.Each.{each_append, each-up_to, each-replicate, each_both, each_map, none_each}
use Rattle.targets.proofs.Cases.{by-settled, guard-kept, OfStandings, standings-keep}

-- ---- one person

under-div : (x d : ℕ) → 0 < d → x < 1099511627776 * d → (x * 2 + d) / (d * 2) ≤ 1099511627776
under-div x d D h =
    let l : x * 2 + d < 1099511627777 * (d * 2) = omega arith in
    let p : 0 < d * 2 = omega arith in
    le_of_suc-le-suc ((div-lt_iff_lt-mul p).1 l)

rounded-small : (x : Float) → within x ≡ true → rounded x ≤ 1099511627776
unfolding rounded
rounded-small nan w = omega arith
rounded-small (inf s) w = omega arith
rounded-small (fin s m e) w = under-div (m * up e) (down e) (down_pos e) (under s m e w)

settled-small : (x : Float) (l : Standing) → (l.pinned ≡ false → within x ≡ true) → SmallTarget l → SmallTarget (settled x l)
settled-small x l w h = by-settled x l SmallTarget (λ p. h) (λ p z. zero-le) (λ p z. rounded-small x (w p))

-- ---- all passes

small-map : (n sum : Float) (ls : List Standing) → some (outside n sum) ls ≡ false → Small ls → Small (map (settle n sum) ls)
small-map n sum ls o h =
    each_map (λ (l : Standing). SmallTarget l × (outside n sum l ≡ false)) SmallTarget (settle n sum)
    (λ l k. settled-small (unrounded n sum l) l (guard-kept n sum l k.1) k.0) ls
    (each_both SmallTarget (λ (l : Standing). outside n sum l ≡ false) ls h (none_each (outside n sum) ls o))

pub small-passes : (k demand : ℕ) (p : Passed) → OfStandings Small p → OfStandings Small (passes k demand p)
small-passes = standings-keep Small small-map

-- ---- who is pinned has target 0

abbrev IfPinned : Standing → Type 0
IfPinned l = l.pinned ≡ true → l.target ≡ 0

settled-zero : (x : Float) (l : Standing) → IfPinned l → IfPinned (settled x l)
settled-zero x l h = by-settled x l IfPinned (λ p. h) (λ p z e. refl) (λ p z e. absurd (true≢false (sym e)))

pub zero-passes : (k demand : ℕ) (p : Passed) → OfStandings PinnedZero p → OfStandings PinnedZero (passes k demand p)
zero-passes =
    standings-keep PinnedZero (λ n sum ls o h. each_map IfPinned IfPinned (settle n sum) (λ l k. settled-zero (unrounded n sum l) l k) ls h)

-- what holds of no standings, and of those that there are, holds of the standings left
pub left-holds : (P : List Standing → Type 0) → P [] → (p : Passed) → OfStandings P p → P (standings_left p)
left-holds P n (again ls) h = h
left-holds P n (done ls) h = h
left-holds P n refused h = n

-- ---- standings that are new, and standings that take no part

pub small-standings : (f : ℕ → Standing) → ((k : ℕ) → (f k).target ≡ 0) → (n m : ℕ) → Small (up_to f n ++ replicate m pad)
small-standings f h n m =
    each_append SmallTarget (up_to f n) (replicate m pad) (each-up_to SmallTarget f n (λ k l. omega (arith, h k)))
    (each-replicate SmallTarget m pad zero-le)

pub zero-standings : (f : ℕ → Standing) → ((k : ℕ) → (f k).pinned ≡ false) → (n m : ℕ) → PinnedZero (up_to f n ++ replicate m pad)
zero-standings f h n m =
    each_append IfPinned (up_to f n) (replicate m pad) (each-up_to IfPinned f n (λ k l e. absurd (true≢false (sym e ∙ h k))))
    (each-replicate IfPinned m pad (λ e. refl))
