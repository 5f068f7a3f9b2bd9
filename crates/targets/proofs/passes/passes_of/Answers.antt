-- `targets::passes::passes_of` meets its contract: the passes that are left do the rest. Assumes nothing.
use Rattle.std.proofs.Common.{◌≡◌, ℕ, None, ◌+◌, ◌-◌, ◌<◌, List, sym, ap, ◌∙◌, arith, rules}
use Rattle.targets.specs.declared.Standing.{Standing}
use Rattle.targets.specs.Passes.{Passed, again, done, refused, pass, passes}
use Rattle.targets.specs.Inside.{round_is, left_of}
use Rattle.targets.proofs.Loops.{more, no_more}
use Rattle.targets.proofs.Cases.{done-stays, refused-stays}
use Rattle.targets.proofs.passes.passes_of.Goals as goal

-- a pass that stops them, or is refused, says what all of them leave
module _ (n k d : ℕ) (ls : List Standing) {z : Passed} (h : passes (n - k) d (again ls) ≡ z) (l : k < n) where
  stops : (ms : List Standing) → done ms ≡ pass d (again ls) → done ms ≡ z
  stops ms e = sym (done-stays (n - (k + 1)) d ms) ∙ more n k d (again ls) h e l

  refuses : refused ≡ pass d (again ls) → refused ≡ z
  refuses e = sym (refused-stays (n - (k + 1)) d) ∙ more n k d (again ls) h e l

pub returns-in_err-after : goal.returns-in_err-after
returns-in_err-after c =
    let a = c.args in
    let p = c.loop-k in
    let r : c.from_residual.result ≡ None = search rules in
    r ∙ ap left_of (refuses (a.people + 1) p._k a.demand p.left p.invariant.1 (omega arith) (rw c.in_err-after.was at c.pass_of.ensures))

pub returns-in-Done : goal.returns-in-Done
returns-in-Done c =
    let a = c.args in
    let p = c.loop-k in
    let e = ap round_is (sym c.in-Done.is) ∙ (rw c.in_ok-after.was at c.pass_of.ensures) in
    ap left_of (stops (a.people + 1) p._k a.demand p.left p.invariant.1 (omega arith) c.in-Done.after e)

pub loop-k-preserved : goal.loop-k-preserved
loop-k-preserved c =
    let a = c.args in
    let p = c.loop-k in
    let e = ap round_is (sym c.in-Again.is) ∙ (rw c.in_ok-after.was at c.pass_of.ensures) in
    (omega arith, more (a.people + 1) p._k a.demand (again p.left) p.invariant.1 e (omega arith))

pub returns-in-Again : goal.returns-in-Again
returns-in-Again c =
    let a = c.args in
    let p = c.loop-k in
    let n = a.people + 1 in
    let e = ap round_is (sym c.in-Again.is) ∙ (rw c.in_ok-after.was at c.pass_of.ensures) in
    ap left_of
    (no_more n (p._k + 1) a.demand (again c.in-Again.after)
    (more n p._k a.demand (again p.left) p.invariant.1 e (omega arith)) (omega arith))
