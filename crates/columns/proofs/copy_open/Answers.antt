-- `columns::copy_open` meets its contract. Assumes nothing.
use mathlib.Core.Path.{◌≡◌, sym, ap, ◌∙◌}
use Prim.Native.Nat.{ℕ}
use native.Mathlib.Omega.{arith}
use Rattle.paper.specs.Count.{over}
use Rattle.paper.proofs.Count.{over_none}
use Rattle.columns.specs.Publishing.{owner_read}
use Rattle.columns.proofs.Walk.{frozen-more, open_more}
use Rattle.columns.proofs.copy_open.Goals as goal
use Rattle.columns.proofs.copy_open.Goals.{then-not-is_frozen, else-not-is_frozen}

pub loop-k-init : goal.loop-k-init
loop-k-init c = sym (over_none _ _)

pub loop-k-preserved : goal.loop-k-preserved
loop-k-preserved c =
    let so = c.loop-k.invariant in
    elim c.if-not-is_frozen.branch [
      | then-not-is_frozen w ↦
          rw w.published-is (open_more _ _ _ _ _ _ c.is_frozen.ensures so w.if-not-is_frozen.true)
      | else-not-is_frozen w ↦
          rw w.published-is (frozen-more _ _ _ _ _ _ c.is_frozen.ensures so w.if-not-is_frozen.false (omega (arith, c.requires.room)))
    ]

pub returns : goal.returns
returns c =
    let q : c.loop-k.k ≡ c.args.slots = omega arith in
    c.loop-k.invariant
    ∙ ap (λ (n : ℕ). over (owner_read c.args.published.now c.args.draft.now c.args.frozen.now) n c.args.published.now) q
