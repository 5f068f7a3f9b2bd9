-- `owners::derived::take` meets its contract. Assumes nothing.
use Rattle.std.proofs.Common.{◌-◌, refl, eq-eqb, ne_eqb}
use Rattle.owners.specs.Derived.{set_for, less_at, less_totals, taken}
use Rattle.owners.proofs.Totals.{one_by_one}
use Rattle.owners.proofs.Steps.{derived-same}
use Rattle.owners.proofs.derived.take.Goals as goal

pub returns-then-owner-eq-NOBODY : goal.returns-then-owner-eq-NOBODY
unfolding taken set_for less_at less_totals
returns-then-owner-eq-NOBODY c =
    let own = eq-eqb _ _ c.if-owner-eq-NOBODY.true in
    let x = c.args in
    derived-same (simp own refl) (simp own refl)
    (simp own (one_by_one ◌-◌ x.totals.now _ _ _ _ _ c.less_at.ensures c.slots_in.ensures c.less_at-then-owner-eq-NOBODY.ensures))

pub returns : goal.returns
unfolding taken set_for less_at less_totals
returns c =
    let other = ne_eqb _ _ c.if-owner-eq-NOBODY.false in
    derived-same (simp other c.put_stretch.ensures.1) (simp other c.less_at-2.ensures) (simp other refl)
