-- `owners::derived::give` meets its contract. Assumes nothing.
use Rattle.std.proofs.Common.{◌+◌, refl, eq-eqb, ne_eqb}
use Rattle.owners.specs.Derived.{wrapped, set_for, more_at, more_totals, given}
use Rattle.owners.proofs.Totals.{one_by_one}
use Rattle.owners.proofs.Steps.{derived-same}
use Rattle.owners.proofs.derived.give.Goals as goal

pub returns-then-owner-eq-NOBODY : goal.returns-then-owner-eq-NOBODY
unfolding given set_for more_at more_totals
returns-then-owner-eq-NOBODY c =
    let own = eq-eqb _ _ c.if-owner-eq-NOBODY.true in
    let x = c.args in
    derived-same (simp own refl) (simp own refl)
    (simp own (one_by_one (λ x y. wrapped (x + y)) x.totals.now _ _ _ _ _
    c.more_at.ensures c.slots_in.ensures c.more_at-then-owner-eq-NOBODY.ensures))

pub returns : goal.returns
unfolding given set_for more_at more_totals
returns c =
    let other = ne_eqb _ _ c.if-owner-eq-NOBODY.false in
    derived-same (simp other c.put_stretch.ensures.1) (simp other c.more_at-2.ensures) (simp other refl)
