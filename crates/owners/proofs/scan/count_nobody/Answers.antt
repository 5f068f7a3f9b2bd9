-- `owners::scan::count_nobody` meets its contract. Assumes nothing.
use Rattle.std.proofs.Common.{◌≡◌, ℕ, sym, ap, ◌∙◌, arith}
use Rattle.owners.specs.Derived.{unassigned}
use Rattle.owners.proofs.Totals.{nobody-le}
use Rattle.owners.proofs.Entered.{nobody-more, nobody-same, nobody-none}
use Rattle.owners.proofs.scan.count_nobody.Goals as goal
use Rattle.owners.proofs.scan.count_nobody.Goals.{then-owner_at, else-owner_at}

pub loop-k-init : goal.loop-k-init
loop-k-init c = nobody-none _

pub overflow_add-n : goal.overflow_add-n
overflow_add-n c = omega (arith, nobody-le c.args.owners.now c.loop-k.k, c.loop-k.invariant)

pub loop-k-preserved : goal.loop-k-preserved
loop-k-preserved c =
    elim c.if-owner_at.branch [
      | then-owner_at w ↦ w.n-is ∙ nobody-more _ _ _ c.loop-k.invariant (sym c.owner_at.ensures ∙ w.if-owner_at.true)
      | else-owner_at w ↦ w.n-is ∙ nobody-same _ _ _ c.loop-k.invariant (λ q. w.if-owner_at.false (c.owner_at.ensures ∙ q))
    ]

pub returns : goal.returns
returns c =
    let q : c.loop-k.k ≡ c.args.slots = omega arith in
    c.loop-k.invariant ∙ ap (λ (j : ℕ). unassigned j c.args.owners.now) q
