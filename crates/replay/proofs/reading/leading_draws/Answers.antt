-- `replay::reading::leading_draws` meets its contract. Assumes nothing.
use native.Mathlib.Omega.{arith}
use mathlib.Core.Path.{◌≡◌, sym, subst, ◌∙◌}
use Rattle.replay.proofs.Records.{Leading, leading-none, leading-more, leading-stops, leading-full}
use Rattle.replay.proofs.reading.leading_draws.Goals as goal

pub loop-n-init : goal.loop-n-init
loop-n-init c = leading-none _ _

pub draw_fine-requires : goal.draw_fine-requires
draw_fine-requires c = omega arith

pub loop-n-preserved : goal.loop-n-preserved
loop-n-preserved c = leading-more _ _ _ c.loop-n.invariant (omega arith) (sym c.draw_fine.ensures ∙ c.if-not-draw_fine.false)

pub returns-then-not-draw_fine : goal.returns-then-not-draw_fine
returns-then-not-draw_fine c =
    let L = c.loop-n.invariant in
    (leading-stops _ _ _ L (sym c.draw_fine.ensures ∙ c.if-not-draw_fine.true), L.few, L.room)

pub returns : goal.returns
returns c =
    let e : c.loop-n.n ≡ 1024 = omega (arith, c.loop-n.invariant.few) in
    let L : Leading c.args.t.now c.args.blocks 1024 = subst (Leading _ _) e c.loop-n.invariant in
    (leading-full _ _ _ L (omega arith), L.few, L.room)
