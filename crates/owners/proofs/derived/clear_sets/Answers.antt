-- `owners::derived::clear_sets` meets its contract. Assumes nothing.
use Rattle.std.proofs.Common.{◌≡◌, ℕ, refl, ap, ◌∙◌, arith}
use Rattle.owners.specs.Derived.{sets_from, nobodies}
use Rattle.owners.proofs.Made.{clear-one}
use Rattle.owners.proofs.derived.clear_sets.Goals as goal

pub loop-p-init : goal.loop-p-init
unfolding sets_from
loop-p-init c = refl

pub loop-p-preserved : goal.loop-p-preserved
loop-p-preserved c =
    let p = c.requires in
    c.clear.ensures.1 ∙ clear-one _ _ _ _ _ c.loop-p-test.true p.1 p.2 (omega arith) c.loop-p.invariant

pub returns : goal.returns
returns c =
    let q : c.loop-p.p ≡ c.args.people = omega arith in
    c.loop-p.invariant ∙ ap (λ (n : ℕ). sets_from n c.args.slots (nobodies c.args.slots) c.args.sets.now) q
