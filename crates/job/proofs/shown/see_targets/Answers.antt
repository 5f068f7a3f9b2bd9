-- `job::shown::see_targets` meets its contract. Assumes nothing.
use borrow.Author.Rules.{rules}
use native.Mathlib.Omega.{arith}
use mathlib.Core.Path.{sym, subst}
use Prim.Native.Nat.{ℕ, ◌^◌, ◌<◌}
use lib.IntN.{pos}
use lib.Signed.{mag}
use lib.ListN.{get_or}
use mir.Syntax.{w64}
use mir.Val.{SFits}
use Rattle.paper.proofs.Logic.{below_suc}
use Rattle.job.proofs.shown.see_targets.Goals as goal

pub loop-p-init : goal.loop-p-init
loop-p-init c = (λ i h. absurd (omega arith), omega arith)

pub offset_bounds-targets-p : goal.offset_bounds-targets-p
offset_bounds-targets-p c = omega arith

pub bounds-targets-p : goal.bounds-targets-p
bounds-targets-p c = omega arith

pub loop-p-preserved : goal.loop-p-preserved
loop-p-preserved c =
    let f : SFits w64 (get_or c.args.targets.now c.loop-p.p (pos 0)) = search rules in (
      λ i h. below_suc _ (omega arith)
          (λ e. subst (λ (j : ℕ). mag (get_or c.args.targets.now j (pos 0)) < 2 ^ 63) (sym e) f.sfits)
          (λ g. c.loop-p.invariant.0 i g),
      omega arith,
    )

pub returns : goal.returns
returns c = λ i h. c.loop-p.invariant.0 i (omega arith)
