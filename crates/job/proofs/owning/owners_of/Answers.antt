-- `job::owning::owners_of` meets its contract. Assumes nothing.
use mathlib.Core.Path.{ap, ap₂, sym, ◌∙◌}
use mathlib.Core.Bool.{Bool}
use mathlib.Core.List.{List}
use Prim.Native.Nat.{ℕ}
use Rattle.paper.specs.Rows.{refusal_of}
use Rattle.paper.proofs.Rows.{said}
use Rattle.job.specs.Stages.{uneven_in, narrowed}
use Rattle.job.specs.Inside.{owners_row}
use Rattle.job.proofs.Passing.{even-test}
use Rattle.job.proofs.owning.owners_of.Goals as goal

pub returns-then-refusal-ne0 : goal.returns-then-refusal-ne0
returns-then-refusal-ne0 c =
    let a = c.args in
    let placed-is = c.placed_by-written.ensures in
    let uneven-is = c.first_uneven-uneven.ensures ∙ ap (λ (o : List ℕ). uneven_in a.slots a.units a.begins.now o) placed-is in (
      c.owners_refusal-refusal.ensures
          ∙ ap₂ (λ (b : Bool) (u : ℕ). refusal_of (owners_row a.s.now a.at a.n a.slots a.people b u)) (even-test _ _ _ _ _ uneven-is) uneven-is,
      c.if-refusal-ne0.true,
    )

pub returns : goal.returns
returns c =
    let a = c.args in
    let placed-is = c.placed_by-written.ensures in
    let uneven-is = c.first_uneven-uneven.ensures ∙ ap (λ (o : List ℕ). uneven_in a.slots a.units a.begins.now o) placed-is in
    let e = c.owners_refusal-refusal.ensures
    ∙ ap₂ (λ (b : Bool) (u : ℕ). refusal_of (owners_row a.s.now a.at a.n a.slots a.people b u)) (even-test _ _ _ _ _ uneven-is) uneven-is in
    record { passes = sym (said _ e) ∙ c.if-refusal-ne0.false; owners = c.narrow.ensures ∙ ap narrowed placed-is }
