-- `usable::shifts::first_close` meets its contract. Assumes nothing.
use mathlib.Core.Path.{refl, sym, ap, ◌∙◌}
use Prim.Native.Nat.{ℕ, ◌+◌, ◌<◌}
use native.Mathlib.Omega.{arith}
use borrow.Author.Rules.{rules}
use lib.ListN.{length-set}
use Rattle.paper.proofs.Count.{all_none, all_more}
use Rattle.usable.proofs.Walks.{fault-at, fault-ends}
use Rattle.usable.specs.Inside.{free_from}
use Rattle.usable.proofs.Walks.{free-none, free_more}
use Rattle.usable.proofs.Rested.{rested-by}
use Rattle.usable.proofs.shifts.first_close.Goals as goal

pub loop-k-init : goal.loop-k-init
loop-k-init c = (λ w h. free-none _ _ _ 256 w, all_none _, refl)

pub loop-k-preserved : goal.loop-k-preserved
loop-k-preserved c =
    let L = c.loop-k in
    let w = c.owner_at-owner in
    let b : w.result < 256 = search rules in
    let S = c.requires in
    let h = c.loop-k-test.true in (
      free_more c.args.rest _ _ L.free _ _ _ L.invariant.2 w.ensures b (ap (λ (n : ℕ). n + c.args.rest) c.entry_of.ensures) L.invariant.0,
      all_more _ _ L.invariant.1
          (sym (c.is_rested.ensures ∙ rested-by _ _ _ _ _ S _ h _ (L.invariant.0 w.result b ∙ ap (free_from _ _ _ _) w.ensures))
          ∙ c.if-not-is_rested.false),
      length-set {A = ℕ} L.free w.result (c.entry_of.result + c.args.rest) ∙ L.invariant.2,
    )

pub returns-then-not-is_rested : goal.returns-then-not-is_rested
returns-then-not-is_rested c =
    let L = c.loop-k in
    let w = c.owner_at-owner in
    let b : w.result < 256 = search rules in
    let S = c.requires in
    let h = c.loop-k-test.true in
    fault-at _ _ _ h L.invariant.1
    (sym (c.is_rested.ensures ∙ rested-by _ _ _ _ _ S _ h _ (L.invariant.0 w.result b ∙ ap (free_from _ _ _ _) w.ensures))
    ∙ c.if-not-is_rested.true)

pub returns : goal.returns
returns c = fault-ends _ _ _ (omega arith) c.loop-k-test.false c.loop-k.invariant.1
