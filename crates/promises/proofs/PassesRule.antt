-- The passes go on while one pinned somebody. Assumes nothing.
use mathlib.Core.Path.{◌≡◌, refl, sym, ap, subst, ◌∙◌}
use mathlib.Core.Bool.{Bool, true, false, not, ◌&&◌, ◌||◌, cond}
use mathlib.Core.List.{List, [], ◌∷◌, map}
use mathlib.Core.Logic.{inl, inr, ⊎_elim}
use Prim.Native.Nat.{ℕ, zero, suc}
use lib.Ieee.{Float, lt}
use Rattle.paper.proofs.Logic.{by-test, or-either, or_left, or-second, both}
use Rattle.targets.specs.declared.Standing.{Standing}
use Rattle.targets.specs.Figures.{zero_f, whole}
use Rattle.targets.specs.Passes.{unrounded, settle, outside, below_zero, share_sum, notional, some}
use Rattle.targets.specs.Passes.{Passed, again, done, refused, pass, passes, passes_leave, standings_left, guarded}
use Rattle.targets.specs.Outcome.{demand_in, standings_in, left_in}
use Rattle.targets.proofs.Loops.{differ}
use Rattle.targets.proofs.Cases.{done-stays, refused-stays}
use Rattle.targets.proofs.Promises.{never-cut, accepted-sound, guard-kept, people-in}
use Rattle.promises.specs.PassesRule.{Settled, EachSettled, PinsSomebody, PassOver, Passing, PassesByRule}
use Rattle.promises.proofs.TargetRules.{no-sum, one-pass, refused-pass, settled_is}

settled-standing : (n sum : Float) (l : Standing) → Settled n sum l (settle n sum l)
settled-standing n sum l =
    let x = unrounded n sum l in
    let m = settle n sum l in
    by-test l.pinned (Settled n sum l m)
    (λ p.
    let e : m ≡ l = settled_is x l true (lt x zero_f) p refl in
    record {
      person = ap (λ (y : Standing). y.person) e;
      raw = ap (λ (y : Standing). y.raw) e;
      pinned = λ q. (ap (λ (y : Standing). y.pinned) e ∙ p, ap (λ (y : Standing). y.target) e);
      below = λ q r. absurd (mathlib.Core.Bool.true≢false (sym p ∙ q));
      rounds = λ q r. absurd (mathlib.Core.Bool.true≢false (sym p ∙ q));
    })
    (λ p.
    by-test (lt x zero_f) (Settled n sum l m)
    (λ q.
    let e = settled_is x l false true p q in
    record {
      person = ap (λ (y : Standing). y.person) e;
      raw = ap (λ (y : Standing). y.raw) e;
      pinned = λ r. absurd (mathlib.Core.Bool.true≢false (sym r ∙ p));
      below = λ r s. (ap (λ (y : Standing). y.pinned) e, ap (λ (y : Standing). y.target) e);
      rounds = λ r s. absurd (mathlib.Core.Bool.true≢false (sym q ∙ s));
    })
    (λ q.
    let e = settled_is x l false false p q in
    record {
      person = ap (λ (y : Standing). y.person) e;
      raw = ap (λ (y : Standing). y.raw) e;
      pinned = λ r. absurd (mathlib.Core.Bool.true≢false (sym r ∙ p));
      below = λ r s. absurd (mathlib.Core.Bool.true≢false (sym s ∙ q));
      rounds = λ r s. (ap (λ (y : Standing). y.pinned) e, ap (λ (y : Standing). y.target) e);
    }))

each-settled : (n sum : Float) (ls : List Standing) → EachSettled n sum ls (map (settle n sum) ls)
each-settled n sum [] = tt
each-settled n sum (l ∷ ls) = (settled-standing n sum l, each-settled n sum ls)

-- somebody falls below 0 exactly when the pass pins somebody
pins-one : (n sum : Float) (l : Standing) → below_zero n sum l ≡ true → (l.pinned ≡ false) × ((settle n sum l).pinned ≡ true)
pins-one n sum l t =
    let w = both (not l.pinned) _ t in
    let p = not-true l.pinned w.0 in
    (p, ((settled-standing n sum l).below p w.1).0)
  where
    not-true : (b : Bool) → not b ≡ true → b ≡ false
    not-true true h = sym h
    not-true false h = refl

pins : (n sum : Float) (ls : List Standing) → some (below_zero n sum) ls ≡ true → PinsSomebody ls (map (settle n sum) ls)
pins n sum [] t = absurd (mathlib.Core.Bool.true≢false (sym t))
pins n sum (l ∷ ls) t =
    ⊎_elim (λ (a : below_zero n sum l ≡ true). inl (pins-one n sum l a)) (λ (b : some (below_zero n sum) ls ≡ true). inr (pins n sum ls b))
    (or-either (below_zero n sum l) (some (below_zero n sum) ls) t)

below-zero-one : (n sum : Float) (l : Standing) → l.pinned ≡ false → (settle n sum l).pinned ≡ true → below_zero n sum l ≡ true
below-zero-one n sum l p q =
    by-test (lt (unrounded n sum l) zero_f) _ (λ t. mathlib.Core.Path.ap₂ (λ (a b : Bool). not a && b) p t)
    (λ f. absurd (mathlib.Core.Bool.true≢false (sym q ∙ ((settled-standing n sum l).rounds p f).0)))

pinned-below-zero : (n sum : Float) (ls : List Standing) → PinsSomebody ls (map (settle n sum) ls) → some (below_zero n sum) ls ≡ true
pinned-below-zero n sum [] x = absurd x
pinned-below-zero n sum (l ∷ ls) x =
    ⊎_elim
    (λ (a : (l.pinned ≡ false) × ((settle n sum l).pinned ≡ true)). or_left _ (some (below_zero n sum) ls)
    (below-zero-one n sum l a.0 a.1))
    (λ (b : PinsSomebody ls (map (settle n sum) ls)). or-second (below_zero n sum l) _ (pinned-below-zero n sum ls b)) x

passing : (k demand : ℕ) (ls left : List Standing) → passes k demand (again ls) ≡ done left → Passing k demand ls left
unfolding passes
passing zero demand ls left e = absurd (apart ls left e)
  where
    apart : (ls left : List Standing) → again ls ≡ done left → ⊥
    apart ls left e = let z : ◌≡◌ {A = ℕ} 0 1 = cc in differ z
passing (suc k) demand ls left e =
    let n = whole (notional demand ls) in
    let s = share_sum ls in
    let ms = map (settle n s) ls in
    let after : (q : Passed) → pass demand (again ls) ≡ q → passes k demand q ≡ done left = λ q w. ap (passes k demand) (sym w) ∙ e in
    by-test (lt zero_f s) _
    (λ t.
    by-test (some (outside n s) ls) _
    (λ o. absurd (no-refusal (after refused (refused-pass demand ls t o))))
    (λ o.
    let one = one-pass demand ls t o in
    let over : PassOver demand ls ms = record { above = t; each = each-settled n s ls } in
    by-test (some (below_zero n s) ls) _
    (λ f.
    let w = one ∙ ap (λ (b : Bool). cond b (again ms) (done ms)) f in
    inr (inr (ms, over, pins n s ls f, passing k demand ms left (after (again ms) w))))
    (λ f.
    let w = one ∙ ap (λ (b : Bool). cond b (again ms) (done ms)) f in
    let q = same ms left (sym (done-stays k demand ms) ∙ after (done ms) w) in
    inr (inl (subst (λ (x : List Standing). PassOver demand ls x × (PinsSomebody ls x → ⊥)) q
    (over, λ p. mathlib.Core.Bool.true≢false (sym (pinned-below-zero n s ls p) ∙ f)))))))
    (λ t. inl (t, sym (same ls left (sym (done-stays k demand ls) ∙ after (done ls) (no-sum demand ls t)))))
  where
    same : (a b : List Standing) → done a ≡ done b → a ≡ b
    same a b e = cc

    no-refusal : passes k demand refused ≡ done left → ⊥
    no-refusal e =
        let g : refused ≡ done left = sym (refused-stays k demand) ∙ e in
        let z : ◌≡◌ {A = ℕ} 0 1 = cc in differ z

pub passes-by-rule : PassesByRule
passes-by-rule g out e =
    go (passes_leave (demand_in g) (standings_in g)) refl
  where
    go : (q : Passed) → passes_leave (demand_in g) (standings_in g) ≡ q → Passing (suc g.people) (demand_in g) (standings_in g) (left_in g)
    go (again ls) w = absurd (never-cut g ls w)
    go (done ls) w =
        let l : left_in g ≡ ls = ap standings_left w in
        subst (λ (x : List Standing). Passing (suc g.people) (demand_in g) (standings_in g) x) (sym l)
        (passing (suc g.people) (demand_in g) (standings_in g) ls
        (ap (λ (k : ℕ). passes (suc k) (demand_in g) (again (standings_in g))) (sym (people-in g)) ∙ w))
    go refused w =
        absurd (mathlib.Core.Bool.true≢false (sym (guard-kept g (accepted-sound g out e)) ∙ ap guarded w))
