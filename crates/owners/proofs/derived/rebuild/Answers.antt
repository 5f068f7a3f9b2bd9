-- `owners::derived::rebuild` meets its contract. Assumes nothing.
use Rattle.std.proofs.Common.{length, ap, ◌∙◌, arith}
use Rattle.paper.proofs.Count.{length_over}
use Rattle.owners.specs.Derived.{plan}
use Rattle.owners.proofs.Sets.{length-sets}
use Rattle.owners.proofs.Made.{made_more, made-end, made-start, made-lengths, cleared-forgotten}
use Rattle.owners.proofs.derived.rebuild.Goals as goal

pub loop-i-init : goal.loop-i-init
loop-i-init c =
    let at_pre = c.requires in
    let at-slice-known = c.slice_known-1 in
    made-start _ at_pre.plan_sound _ _ _ _ _ _ _ at_pre.makes (λ j. omega (arith, at-slice-known.given j)) c.clear_sets.ensures
    c.clear_first.ensures c.clear_first-2.ensures

pub loop-i-preserved : goal.loop-i-preserved
loop-i-preserved c =
    let at-args = c.args in
    let at-loop = c.loop-i in
    let at-stretch-end = c.stretch_end-e in
    let P = plan at-args.people at-args.slots at-args.starts.now at-args.ends.now in
    made_more P c.requires.plan_sound _ _ _ _ at-loop.invariant _ at-stretch-end.ensures _ c.stretch_minutes-n.ensures _ c.give.ensures

pub shape_of-sets : goal.shape_of-sets
shape_of-sets c =
    (made-lengths _ _ _ _ _ c.loop-i.invariant).0 ∙ ap length c.clear_sets.ensures
    ∙ length-sets _ _ _ _

pub shape_of-minutes : goal.shape_of-minutes
shape_of-minutes c =
    (made-lengths _ _ _ _ _ c.loop-i.invariant).1 ∙ ap length c.clear_first.ensures ∙ length_over _ _ _

pub shape_of-totals : goal.shape_of-totals
shape_of-totals c =
    (made-lengths _ _ _ _ _ c.loop-i.invariant).2 ∙ ap length c.clear_first-2.ensures
    ∙ length_over _ _ _

pub returns : goal.returns
returns c =
    let at_pre = c.requires in
    let at-slice-known = c.slice_known-1 in
    made-end _ at_pre.plan_sound _ _ _ _ c.loop-i-test.false c.loop-i.invariant
    ∙ cleared-forgotten _ at_pre.plan_sound _ _ _ _ _ _ _ at_pre.makes
    (λ j. omega (arith, at-slice-known.given j)) c.clear_sets.ensures c.clear_first.ensures c.clear_first-2.ensures
