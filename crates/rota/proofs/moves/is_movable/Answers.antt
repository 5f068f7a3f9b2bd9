-- `rota::moves::is_movable` meets its contract. Assumes nothing.
use mathlib.Core.Path.{◌≡◌, sym, ap, ◌∙◌}
use mathlib.Core.Bool.{not}
use Prim.Native.Nat.{ℕ}
use native.Mathlib.Omega.{arith}
use borrow.Author.Tests.{eq-eqb, ne_eqb}
use Rattle.paper.specs.Count.{all_in}
use Rattle.paper.proofs.Count.{in-none, in-fails}
use Rattle.rota.specs.Ready.{frozen_by}
use Rattle.rota.proofs.Judged.{in-holds}
use Rattle.rota.proofs.moves.is_movable.Goals as goal
use Rattle.rota.proofs.moves.is_movable.Goals.{then-flags-u-eq1, else-flags-u-eq1}

pub loop-u-init : goal.loop-u-init
loop-u-init c = in-none _ _

pub loop-u-preserved : goal.loop-u-preserved
unfolding frozen_by
loop-u-preserved c =
    let from = c.loop-u.auto.u in
    elim c.if-flags-u-eq1.branch [
      | then-flags-u-eq1 w ↦
          rw w.movable-is (sym (in-fails _ _ _ _ from (omega arith) (ap not (eq-eqb _ _ w.if-flags-u-eq1.true))))
      | else-flags-u-eq1 w ↦
          rw w.movable-is (in-holds _ _ _ from (ap not (ne_eqb _ _ w.if-flags-u-eq1.false)) ∙ c.loop-u.invariant)
    ]

pub returns : goal.returns
returns c =
    let q : c.loop-u.u ≡ c.args.e = omega arith in
    sym c.loop-u.invariant ∙ ap (λ (n : ℕ). all_in c.args.a n (λ v. not (frozen_by c.args.flags.now v))) q
