-- `owners::derived::hand_over` meets its contract. Assumes nothing.
use Rattle.std.proofs.Common.{ℕ, ◌∙◌, ap₂}
use Rattle.owners.specs.Derived.{Derived, derived, taken, given, carried}
use Rattle.owners.proofs.derived.hand_over.Goals as goal

pub returns : goal.returns
unfolding carried
returns c =
    let x = c.args in
    let D = derived x.sets.now x.minutes.now x.totals.now in
    let n = c.stretch_minutes-n.ensures in (
      c.fill_owners.ensures,
      c.give.ensures
          ∙ ap₂ (λ (k : ℕ) (d : Derived). given x.people x.slots x.a x.e k x.to d) n
          (c.take.ensures ∙ ap₂ (λ (k w : ℕ). taken x.people x.slots x.a x.e k w D) n
          c.owner_at-old.ensures),
    )
