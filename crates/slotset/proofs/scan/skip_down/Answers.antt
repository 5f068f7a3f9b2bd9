-- `slotset::scan::skip_down` meets its contract. The invariant: every word from j on is x. Assumes nothing.
use mathlib.Core.Path.{◌≡◌, ap, ◌∙◌}
use Prim.Native.Nat.{ℕ, ◌+◌, ◌-◌}
use native.Mathlib.Omega.{arith}
use lib.ListN.{get_or}
use Rattle.slotset.proofs.Skips.{one_less}
use Rattle.slotset.proofs.scan.skip_down.Goals as goal

pub loop-j-init : goal.loop-j-init
loop-j-init c = λ k a b. let z : ⊥ = omega (arith, a, b) in absurd z

pub loop-j-preserved : goal.loop-j-preserved
loop-j-preserved c =
    let a = c.args in
    one_less a.words.now a.base a.x a.before c.loop-j.j (omega arith) c.loop-j.invariant c.if-words-base.false

pub returns-then-words-base : goal.returns-then-words-base
returns-then-words-base c =
    let a = c.args in
    let q : c.loop-j.j - 1 ≡ c.loop-j.j - 1 + 1 - 1 = omega arith in
    record {
      some = λ h. omega arith;
      to = omega arith;
      same = λ k u v. c.loop-j.invariant k (omega (arith, u)) v;
      other = λ h e. c.if-words-base.true (ap (λ (k : ℕ). get_or a.words.now (a.base + k) 0) q ∙ e);
    }

pub returns : goal.returns
returns c =
    record {
      some = λ h. omega (arith, h);
      to = omega arith;
      same = λ k a b. c.loop-j.invariant k (omega (arith, a, b, c.loop-j-test.false)) b;
      other = λ h e. let z : ⊥ = omega (arith, h) in z;
    }
