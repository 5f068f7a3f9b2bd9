-- 8 of the targets: its test fails exactly where an unrounded target that the passes work out breaks the guard. Assumes nothing.
use mathlib.Core.Path.{◌≡◌, refl, sym, ap, ◌∙◌}
use mathlib.Core.Bool.{true, false, true≢false}
use mathlib.Core.List.{List}
use mathlib.Core.Logic.{◌↔◌}
use Prim.Native.Nat.{ℕ, zero, suc, ◌+◌, ◌-◌, ◌<◌, suc-le-suc}
use native.Mathlib.Nat.{zero-add, suc-add, zero-lt-suc, le_of_suc-le-suc}
use native.Mathlib.Omega.{arith}
use lib.Ieee.{Float, lt}
use lib.ListN.{length, get_or}
use Rattle.slots.specs.Lent.{slots_ok}
use Rattle.targets.specs.declared.Standing.{Standing}
use Rattle.targets.specs.Figures.{zero_f, whole, pad}
use Rattle.targets.specs.Passes.{outside, some, share_sum, notional}
use Rattle.targets.specs.Passes.{Passed, again, done, refused, passed, pass, passes, passes_leave, guarded}
use Rattle.targets.specs.Outcome.{Given, demand_in, standings_in, guard_ok}
use Rattle.targets.proofs.Loops.{differ}
use Rattle.targets.proofs.Each.{some_at, at_some}
use Rattle.targets.proofs.Cases.{by-passed, guard-broken, done-stays, refused-stays}
use Rattle.targets.proofs.Accepted.{guard-says, breaks-guard}
use Rattle.promises.specs.TargetRules.{Beyond}

-- ---- one pass

passed-refused : (n s : Float) (ls : List Standing) → passed n s ls ≡ refused → (lt zero_f s ≡ true) × (some (outside n s) ls ≡ true)
passed-refused n s ls =
    by-passed n s ls (λ (p : Passed). p ≡ refused → (lt zero_f s ≡ true) × (some (outside n s) ls ≡ true))
    (λ a e. let z : ◌≡◌ {A = ℕ} 0 1 = cc in differ z) (λ a b e. (a, b)) (λ a b c e. let z : ◌≡◌ {A = ℕ} 0 1 = cc in differ z)
    (λ a b c e. let z : ◌≡◌ {A = ℕ} 0 1 = cc in differ z)

refused-passed : (n s : Float) (ls : List Standing) → lt zero_f s ≡ true → some (outside n s) ls ≡ true → passed n s ls ≡ refused
refused-passed n s ls a b = rw (a, b)

-- ---- all passes

passes-add : (a b d : ℕ) (p : Passed) → passes (a + b) d p ≡ passes b d (passes a d p)
unfolding passes
passes-add zero b d p = ap (λ (k : ℕ). passes k d p) (zero-add b)
passes-add (suc a) b d p = ap (λ (k : ℕ). passes k d p) (suc-add a b) ∙ passes-add a b d (pass d p)

-- the pass that is refused, of n
record At (n d : ℕ) (ls : List Standing) : Type 0 where
  pub before : ℕ
  pub standings : List Standing
  pub few : before < n
  pub due : passes before d (again ls) ≡ again standings
  pub no : pass d (again standings) ≡ refused

refused-at : (n d : ℕ) (ls : List Standing) → passes n d (again ls) ≡ refused → At n d ls
unfolding passes
refused-at zero d ls e = let z : ◌≡◌ {A = ℕ} 0 1 = cc in differ z
refused-at (suc n) d ls e = go (pass d (again ls)) refl e (refused-at n d)
  where
    go : (q : Passed) → pass d (again ls) ≡ q → passes n d q ≡ refused
        → ((ms : List Standing) → passes n d (again ms) ≡ refused → At n d ms) → At (suc n) d ls
    go (again ms) h e f =
        let r = f ms e in
        record {
          before = suc r.before;
          standings = r.standings;
          few = suc-le-suc r.few;
          due = ap (passes r.before d) h ∙ r.due;
          no = r.no;
        }
    go (done ms) h e f =
        let g : done ms ≡ refused = sym (done-stays n d ms) ∙ e in
        let z : ◌≡◌ {A = ℕ} 0 1 = cc in
        differ z
    go refused h e f = record { before = 0; standings = ls; few = zero-lt-suc n; due = refl; no = h }

not-guarded : (p : Passed) → guarded p ≡ false → p ≡ refused
not-guarded (again ls) e = absurd (true≢false e)
not-guarded (done ls) e = absurd (true≢false e)
not-guarded refused e = refl

-- ---- exactly

found-beyond : (d : ℕ) (ls : List Standing) → guarded (passes_leave d ls) ≡ false → Beyond d ls
unfolding pass
found-beyond d ls e =
    let r = refused-at (suc (length ls)) d ls (not-guarded (passes_leave d ls) e) in
    let n = whole (notional d r.standings) in
    let s = share_sum r.standings in
    let q = passed-refused n s r.standings r.no in
    let j = some_at (outside n s) r.standings q.1 in
    let l = get_or r.standings j.0 pad in
    let o = guard-broken n s l j.2 in
    record {
      before = r.before;
      standings = r.standings;
      at = j.0;
      few = le_of_suc-le-suc r.few;
      due = r.due;
      above = q.0;
      here = j.1;
      free = o.0;
      breaks = o.1;
    }

beyond-found : (d : ℕ) (ls : List Standing) → Beyond d ls → guarded (passes_leave d ls) ≡ false
unfolding pass passes
beyond-found d ls b =
    let n = whole (notional d b.standings) in
    let s = share_sum b.standings in
    let l = get_or b.standings b.at pad in
    let o : outside n s l ≡ true = rw (b.free, b.breaks) in
    let t = at_some (outside n s) b.standings b.at b.here o in
    let p : pass d (again b.standings) ≡ refused = refused-passed n s b.standings b.above t in
    let k = length ls - b.before in
    let c : suc (length ls) ≡ b.before + suc k = omega (arith, b.few) in
    ap guarded
    (ap (λ (i : ℕ). passes i d (again ls)) c ∙ passes-add b.before (suc k) d (again ls)
    ∙ ap (λ (q : Passed). passes (suc k) d q) b.due ∙ ap (passes k d) p ∙ refused-stays k d)

eight-exactly : (d : ℕ) (ls : List Standing) → (guarded (passes_leave d ls) ≡ false) ↔ Beyond d ls
eight-exactly d ls = (found-beyond d ls, beyond-found d ls)

-- 8's test fails exactly where 9's passes and an unrounded target breaks the guard
pub eight-says : (g : Given)
    → (guard_ok g ≡ false) ↔ ((slots_ok g.slots g.starts g.ends ≡ true) × Beyond (demand_in g) (standings_in g))
eight-says g = (
  λ e. let b = guard-says g 0 e in (b.0, (eight-exactly (demand_in g) (standings_in g)).0 b.1),
  λ b. breaks-guard g 0 b.0 ((eight-exactly (demand_in g) (standings_in g)).1 b.1),
)
