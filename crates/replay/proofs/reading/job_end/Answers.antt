-- `replay::reading::job_end` meets its contract. Assumes nothing.
use borrow.Author.Rules.{rules}
use mathlib.Core.Path.{sym, ◌∙◌}
use native.Mathlib.Omega.{arith}
use Rattle.replay.proofs.Heads.{heading-none, heading-more, heading-found, heading-out, heading-cut, opens-draw, opens-close, opens-other, two_is}
use Rattle.replay.proofs.reading.job_end.Goals as goal

pub loop-at-init : goal.loop-at-init
loop-at-init c = (heading-none _, omega arith)

pub overflow_sub-s : goal.overflow_sub-s
overflow_sub-s c = omega arith

pub overflow_add-at : goal.overflow_add-at
overflow_add-at c = omega arith

pub field-kind-requires : goal.field-kind-requires
field-kind-requires c = search rules

pub returns-then-kind-eq8 : goal.returns-then-kind-eq8
returns-then-kind-eq8 c =
    let l = c.loop-at in
    heading-found _ _ l.invariant.0 (omega arith)
    (opens-draw _ _ (omega arith) (sym (two_is _ _ _ c.field-kind.ensures.0 (omega arith)) ∙ c.if-kind-eq8.true))

pub returns-then-kind-eq9 : goal.returns-then-kind-eq9
returns-then-kind-eq9 c =
    let l = c.loop-at in
    heading-found _ _ l.invariant.0 (omega arith)
    (opens-close _ _ (omega arith) (sym (two_is _ _ _ c.field-kind.ensures.0 (omega arith)) ∙ c.if-kind-eq9.true))

pub field-size-requires : goal.field-size-requires
field-size-requires c = search rules

pub overflow_sub-s-in-loop-at : goal.overflow_sub-s-in-loop-at
overflow_sub-s-in-loop-at c = omega arith

pub overflow_sub-s-in-loop-at-2 : goal.overflow_sub-s-in-loop-at-2
overflow_sub-s-in-loop-at-2 c = omega arith

pub returns-then-s-at : goal.returns-then-s-at
returns-then-s-at c =
    let l = c.loop-at in
    let k = two_is _ _ _ c.field-kind.ensures.0 (omega arith) in
    let f = opens-other _ _ (λ e. c.if-kind-eq8.false (k ∙ e)) (λ e. c.if-kind-eq9.false (k ∙ e)) in
    heading-cut _ _ _ l.invariant.0 (omega arith) f (two_is _ _ _ c.field-size.ensures.0 (omega arith)) (omega arith)

pub overflow_add-at-in-loop-at : goal.overflow_add-at-in-loop-at
overflow_add-at-in-loop-at c = omega (arith, c.field-size.ensures.1)

pub overflow_add-at-in-loop-at-2 : goal.overflow_add-at-in-loop-at-2
overflow_add-at-in-loop-at-2 c = omega arith

pub loop-at-smaller : goal.loop-at-smaller
loop-at-smaller c = omega arith

pub loop-at-preserved : goal.loop-at-preserved
loop-at-preserved c =
    let l = c.loop-at in
    let k = two_is _ _ _ c.field-kind.ensures.0 (omega arith) in
    let f = opens-other _ _ (λ e. c.if-kind-eq8.false (k ∙ e)) (λ e. c.if-kind-eq9.false (k ∙ e)) in (
      heading-more _ _ l.invariant.0 _ (omega arith) f (two_is _ _ _ c.field-size.ensures.0 (omega arith)),
      omega arith,
    )

pub returns : goal.returns
returns c = heading-out _ _ c.loop-at.invariant.0 (omega arith)
