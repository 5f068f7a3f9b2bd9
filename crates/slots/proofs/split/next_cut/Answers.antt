-- `slots::split::next_cut` meets its contract. Assumes nothing.
use mathlib.Core.Path.{◌≡◌, refl}
use mathlib.Core.Bool.{false}
use Prim.Native.Nat.{ℕ}
use native.Mathlib.Omega.{arith}
use lib.ListN.{take}
use Rattle.slots.specs.Inside.{key_cut, any_of}
use Rattle.slots.proofs.EdgeLaws.{below-begin, below_more, below-done}
use Rattle.slots.proofs.split.next_cut.Goals as goal

pub returns-then-n-eq0 : goal.returns-then-n-eq0
unfolding key_cut any_of
returns-then-n-eq0 c =
    let none : (k : ℕ) → key_cut (take c.args.n c.args.keys.now) k ≡ false = λ k. rw c.if-n-eq0.true refl in
    record { from = omega (arith, c.requires.1); within = omega arith; here = λ h. absurd (omega arith); before = λ k a b. none k }

pub loop-person-init : goal.loop-person-init
loop-person-init c = (below-begin _ _ _ c.requires.1, omega arith, λ k h. absurd (omega arith))

pub loop-person-preserved : goal.loop-person-preserved
loop-person-preserved c =
    let O = c.opened_by-opened.ensures in (
      below_more _ _ _ _ _ _ _ c.loop-person-test.true c.requires.2 c.loop-person.invariant.0 c.next_edge-edge.ensures
          c.nearer_of-best.ensures,
      O.few,
      λ k h. omega (arith, O.by k h),
    )

pub returns : goal.returns
returns c =
    below-done c.args.keys.now c.args.n _ _ _ _ c.requires.0 c.requires.2 (omega arith) c.loop-person-test.false c.loop-person.invariant.0
