-- `slotset::scan::skip_up` meets its contract. The invariant: every word so far is x. Assumes nothing.
use native.Mathlib.Omega.{arith}
use Rattle.slotset.proofs.Skips.{one_more}
use Rattle.slotset.proofs.scan.skip_up.Goals as goal

pub loop-j-init : goal.loop-j-init
loop-j-init c = λ k a b. let z : ⊥ = omega (arith, a, b) in absurd z

pub loop-j-preserved : goal.loop-j-preserved
loop-j-preserved c =
    let a = c.args in
    one_more a.words.now a.base a.x a.first c.loop-j.j c.loop-j.invariant c.if-words-base.false

pub returns-then-words-base : goal.returns-then-words-base
returns-then-words-base c =
    record { from = omega arith; to = omega arith; same = c.loop-j.invariant; other = λ h e. c.if-words-base.true e }

pub returns : goal.returns
returns c =
    record {
      from = c.requires.1;
      to = omega arith;
      same = λ k a b. c.loop-j.invariant k a (omega (arith, b, c.loop-j-test.false));
      other = λ h e. let z : ⊥ = omega (arith, h) in z;
    }
