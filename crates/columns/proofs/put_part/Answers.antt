-- `columns::put_part` meets its contract. Assumes nothing.
use mathlib.Core.Path.{◌≡◌, sym, ap, ◌∙◌}
use mathlib.Core.List.{List}
use Prim.Native.Nat.{ℕ}
use native.Mathlib.Omega.{arith}
use lib.ListN.{length, get_or, set}
use Rattle.paper.specs.Count.{over}
use Rattle.paper.proofs.Count.{over_none, over-more}
use Rattle.columns.proofs.Walk.{put-whole}
use Rattle.columns.proofs.put_part.Goals as goal

pub loop-k-init : goal.loop-k-init
loop-k-init c = sym (over_none _ _)

pub loop-k-preserved : goal.loop-k-preserved
loop-k-preserved c =
    ap (λ (l : List ℕ). set l c.loop-k.k (get_or c.args.part.now c.loop-k.k 0)) c.loop-k.invariant ∙ sym (over-more _ _ _)

pub returns : goal.returns
returns c =
    let n : c.loop-k.k ≡ length c.args.part.now = omega arith in
    c.loop-k.invariant ∙ ap (λ (k : ℕ). over (λ (j : ℕ). get_or c.args.part.now j 0) k c.args.shown.now) n
    ∙ put-whole c.args.part.now c.args.shown.now c.requires
