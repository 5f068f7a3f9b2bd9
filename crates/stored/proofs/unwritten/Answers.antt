-- `stored::unwritten` meets its contract. Assumes nothing.
use Rattle.std.proofs.Common.{◌≡◌, ℕ, ◌+◌, ◌-◌, ◌==◌, slice_index, length, sym, refl, ap, ◌∙◌, eq-eqb, arith}
use borrow.Author.Tests.{ne_eqb}
use Rattle.paper.specs.Count.{all, all_in}
use Rattle.paper.proofs.Count.{in-none, in-fails, in-more, in-less}
use Rattle.paper.proofs.Logic.{same_test}
use Rattle.stored.proofs.unwritten.Goals as goal
use Rattle.stored.proofs.unwritten.Goals.{then-out-j, else-out-j}

pub loop-j-init : goal.loop-j-init
loop-j-init c = (in-none _ _, λ h. refl)

pub loop-j-preserved : goal.loop-j-preserved
loop-j-preserved c =
    let from = c.loop-j.auto.j in
    let below = c.loop-j-test.true in
    elim c.if-out-j.branch [
      | then-out-j w ↦
          (rw w.same-is (sym (in-fails _ _ _ _ from (omega arith) (ne_eqb _ _ w.if-out-j.true))), λ h. absurd (omega arith))
      | else-out-j w ↦
          let here = eq-eqb _ _ w.if-out-j.false in (
            rw w.same-is (same_test _ _ (λ t. (in-less _ _ _ from t).0) (λ t. in-more _ _ _ from t here) ∙ c.loop-j.invariant.0),
            λ h. absurd (omega arith),
          )
    ]

pub returns : goal.returns
unfolding all_in
returns c =
    let j-end = c.loop-j.auto.j-end in
    let past = c.loop-j-test.false in
    let stays = c.loop-j.invariant.1 in
    let n : c.loop-j.j - c.args.from ≡ length c.args.out.now - c.args.from = grind arith in
    sym c.loop-j.invariant.0 ∙ ap (λ (k : ℕ). all k (λ j. slice_index c.args.out.now (c.args.from + j) == c.args.fill)) n
