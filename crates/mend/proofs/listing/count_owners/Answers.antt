-- `mend::listing::count_owners` meets its contract. Assumes nothing.
use mathlib.Core.Path.{sym, ap, ◌∙◌}
use Prim.Native.Nat.{ℕ, ◌+◌}
use native.Mathlib.Omega.{arith}
use Rattle.paper.proofs.Count.{count_none, count-in, count-out, count-done}
use Rattle.mend.proofs.ListLaws.{differs-no, differs-yes}
use Rattle.mend.proofs.listing.count_owners.Goals as goal
use Rattle.mend.proofs.listing.count_owners.Goals.{then-owner_at, else-owner_at}

pub loop-k-init : goal.loop-k-init
loop-k-init c = (omega arith, sym (count_none _))

pub loop-k-preserved : goal.loop-k-preserved
loop-k-preserved c =
    let old = c.owner_at.ensures in
    let new = c.owner_at-in-loop-k.ensures in
    elim c.if-owner_at.branch [
      | then-owner_at w ↦ (
        omega arith,
        w.found-is ∙ ap (λ (x : ℕ). x + 1) c.loop-k.invariant.1 ∙ sym (count-in _ _ (differs-yes _ _ _ _ _ old new w.if-owner_at.true)),
      )
      | else-owner_at w ↦ (
        omega arith,
        w.found-is ∙ c.loop-k.invariant.1 ∙ sym (count-out _ _ (differs-no _ _ _ _ _ old new w.if-owner_at.false)),
      )
    ]

pub returns : goal.returns
returns c = count-done _ _ _ _ c.loop-k.auto.k-end c.loop-k-test.false c.loop-k.invariant.1
