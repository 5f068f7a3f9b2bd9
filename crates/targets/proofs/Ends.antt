-- The bound of people + 1 passes never cuts them short: a pass that asks for another pins somebody. Assumes nothing.
use Rattle.std.proofs.Common.{◌≡◌, ℕ, zero, suc, ◌+◌, ◌<◌, ◌≤◌, true, cond, not, ◌&&◌, List, [], ◌∷◌, map, length, sym, refl, ap, ◌∙◌, true≢false, zero-le, le_refl, arith}
use borrow.Author.Tests.{not-true}
use lib.Ieee.{Float, lt}
use lib.ListN.{length-map}
use Rattle.paper.proofs.Logic.{by-test, by_cond, both, or_right}
use Rattle.targets.specs.declared.Standing.{Standing}
use Rattle.targets.specs.Figures.{zero_f, whole}
use Rattle.targets.specs.Passes.{unrounded, settled, settle, below_zero, some, share_sum, notional}
use Rattle.targets.specs.Passes.{Passed, again, done, refused, passed, pass, passes, passes_leave}
use Rattle.targets.proofs.Loops.{differ}
use Rattle.targets.proofs.Each.{sum_standings}
use Rattle.targets.proofs.Cases.{by-settled, by-passed, done-stays, refused-stays}

-- how many are pinned
abbrev of_one : Standing → ℕ
of_one l = cond l.pinned 1 0

abbrev pinned_in : List Standing → ℕ
pinned_in = sum_standings of_one

pinned-le : (ls : List Standing) → pinned_in ls ≤ length ls
pinned-le [] = zero-le
pinned-le (l ∷ ls) =
    let h = by_cond l.pinned 1 0 (λ (k : ℕ). k ≤ 1) (λ p. le_refl 1) (λ p. zero-le) in
    omega (arith, h, pinned-le ls)

-- ---- one person

pin-kept : (x : Float) (l : Standing) → of_one l ≤ of_one (settled x l)
pin-kept x l =
    by-settled x l (λ (m : Standing). of_one l ≤ of_one m) (λ p. le_refl _) (λ p z. rw p zero-le) (λ p z. rw p zero-le)

pin-new : (x : Float) (l : Standing) → not l.pinned && lt x zero_f ≡ true → of_one l < of_one (settled x l)
unfolding settled
pin-new x l h =
    let b = both (not l.pinned) (lt x zero_f) h in
    rw (not-true l.pinned b.0, b.1) (le_refl 1)

-- ---- one pass

no-fewer : (n s : Float) (ls : List Standing) → pinned_in ls ≤ pinned_in (map (settle n s) ls)
no-fewer n s [] = zero-le
no-fewer n s (l ∷ ls) = let h = no-fewer n s ls in omega (arith, pin-kept (unrounded n s l) l)

more-pinned : (n s : Float) (ls : List Standing) → some (below_zero n s) ls ≡ true → pinned_in ls < pinned_in (map (settle n s) ls)
more-pinned n s [] e = absurd (true≢false (sym e))
more-pinned n s (l ∷ ls) e =
    by-test (below_zero n s l) (pinned_in (l ∷ ls) < pinned_in (map (settle n s) (l ∷ ls)))
    (λ t. omega (arith, pin-new (unrounded n s l) l t, no-fewer n s ls))
    (λ f. omega (arith, pin-kept (unrounded n s l) l, more-pinned n s ls (or_right (below_zero n s l) (some (below_zero n s) ls) e f)))

passed-again : (n s : Float) (ls xs : List Standing) → passed n s ls ≡ again xs → (some (below_zero n s) ls ≡ true) ×
    (map (settle n s) ls ≡ xs)
passed-again n s ls xs =
    by-passed n s ls (λ (p : Passed). p ≡ again xs → (some (below_zero n s) ls ≡ true) × (map (settle n s) ls ≡ xs))
    (λ a e. let z : ◌≡◌ {A = ℕ} 0 1 = cc in differ z) (λ a b e. let z : ◌≡◌ {A = ℕ} 0 1 = cc in differ z) (λ a b c e. (c, cc))
    (λ a b c e. let z : ◌≡◌ {A = ℕ} 0 1 = cc in differ z)

pass-grows : (d : ℕ) (ls xs : List Standing) → pass d (again ls) ≡ again xs → (pinned_in ls < pinned_in xs) × (length xs ≡ length ls)
unfolding pass
pass-grows d ls xs e =
    let n = whole (notional d ls) in
    let s = share_sum ls in
    let h = passed-again n s ls xs e in
    (omega (arith, more-pinned n s ls h.0, ap pinned_in h.1), sym (ap length h.1) ∙ length-map ls (settle n s))

-- ---- all passes

again-grows : (k d : ℕ) (ls ms : List Standing) → passes k d (again ls) ≡ again ms
    → (k + pinned_in ls ≤ pinned_in ms) × (length ms ≡ length ls)
unfolding passes
again-grows zero d ls ms e = let q : ls ≡ ms = cc in (omega (arith, ap pinned_in q), sym (ap length q))
again-grows (suc k) d ls ms e = go (pass d (again ls)) refl e (again-grows k d)
  where
    go : (q : Passed) → pass d (again ls) ≡ q → passes k d q ≡ again ms
        → ((xs ys : List Standing) → passes k d (again xs) ≡ again ys → (k + pinned_in xs ≤ pinned_in ys) × (length ys ≡ length xs))
        → (suc k + pinned_in ls ≤ pinned_in ms) × (length ms ≡ length ls)
    go (again xs) h e f =
        let a = pass-grows d ls xs h in
        let r = f xs ms e in
        (omega (arith, a.0, r.0), r.1 ∙ a.1)
    go (done xs) h e f =
        let g : done xs ≡ again ms = sym (done-stays k d xs) ∙ e in
        let z : ◌≡◌ {A = ℕ} 0 1 = cc in
        differ z
    go refused h e f =
        let g : refused ≡ again ms = sym (refused-stays k d) ∙ e in
        let z : ◌≡◌ {A = ℕ} 0 1 = cc in
        differ z

-- after people + 1 passes none is due
pub passes-end : (d : ℕ) (ls ms : List Standing) → passes_leave d ls ≡ again ms → ⊥
passes-end d ls ms e =
    let h = again-grows (suc (length ls)) d ls ms e in
    omega (arith, h.0, h.1, pinned-le ms)
